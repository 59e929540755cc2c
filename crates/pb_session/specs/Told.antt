-- What a session was told and what it found, as contracts see it.
use Rattle.std.specs.Prelude.{ℕ, max, List, [], ◌∷◌, ◌++◌, Option, None, Some}
use Rattle.pb_inst.specs.declared.constraints.Term.{Term}
use Rattle.pb_inst.specs.Incumbent.{Solution}
use Rattle.pb_inst.specs.Problem.{LinearConstraint, Statements, Problem}
use Rattle.pb_read.specs.Terms.{greatest_index}

-- the statements that were ended, as an instance over the variables up to the greatest one that they name; the terms of a sum
-- that is not ended; what was found; and the report of the last text
pub record Told : Type 0 where
  pub problem : Problem
  pub terms : List Term
  pub found : Option Solution
  pub report : List ℕ

-- no statement
abbrev pub no_statements : Problem
no_statements = record { vars = 0; objective = None; constraints = [] }

abbrev pub nothing_told : Told
nothing_told = record { problem = no_statements; terms = []; found = None; report = [] }

-- the instance with one more constraint at the end
abbrev pub with_constraint : Problem → LinearConstraint → Problem
with_constraint p c = record { vars = max p.vars (greatest_index c.terms); objective = p.objective; constraints = p.constraints ++ c ∷ [] }

-- the instance with these terms as its objective
abbrev pub with_objective : Problem → List Term → Problem
with_objective p terms = record { vars = max p.vars (greatest_index terms); objective = Some terms; constraints = p.constraints }

-- the instance that was made of the statements, or the one that they would make
abbrev pub problem_of : ℕ → Statements → Option Problem → Problem
problem_of vars told None = record { vars = vars; objective = told.objective; constraints = told.constraints }
problem_of vars told (Some p) = p
