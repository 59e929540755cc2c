-- What writing an instance promises.
use Rattle.std.specs.Prelude.{◌≡◌, ℕ, List, [], map, All, Option, None, IsTrue, if◌then◌else◌, ◌≤◌}
use Rattle.std.specs.Io.KnownBytes.{Appends}
use Rattle.pb_inst.specs.Constraints.{clause_constraint}
use Rattle.pb_inst.specs.Literal.{Literal}
use Rattle.pb_inst.specs.Problem.{LinearConstraint, Problem}
use Rattle.pb_read.specs.declared.format.Format.{Format}
use Rattle.pb_read.specs.declared.format.Format.TheVariants.{Opb, Cnf}
use Rattle.pb_read.specs.Format.{Spells, is_clausal}
use Rattle.pb_write.specs.Turned.{written_problem}

-- The format in which an instance of a format is written. That of clauses is CNF, whose header keeps the number of variables.
abbrev pub written_format : Format → Format
written_format format = if is_clausal format then Cnf else Opb

-- known bytes have grown by a text that spells the instance as it is written, and no cubes
pub record IsWritten (format : Format) (old new : Option (List ℕ)) (p : Problem) : Type 0 where
  pub text : List ℕ
  pub appended : Appends old new text
  pub spelled : Spells (written_format format) text (written_problem p) []

-- the literals of the terms, whatever their coefficients are
abbrev pub literals_of : LinearConstraint → List Literal
literals_of c = map (λ t. t.lit) c.terms

-- the constraint says that some of its literals is true
abbrev pub IsClause : LinearConstraint → Type 0
IsClause c = c ≡ clause_constraint (literals_of c)

-- there is no objective, and all constraints are clauses
pub record AreClauses (p : Problem) : Type 0 where
  pub no_objective : p.objective ≡ None
  pub clauses : All IsClause p.constraints

-- the format has texts of such instances
abbrev pub HasText : Format → Problem → Type 0
HasText format p = IsTrue (is_clausal format) → AreClauses p

-- known bytes of a writer have grown by these
pub record Adds {T : Type 0} (contents : T → Option (List ℕ)) (old new : T) (bytes : List ℕ) : Type 0 where
  pub grown : Appends (contents old) (contents new) bytes

-- each literal is of a variable from 1 on
abbrev pub HaveVariables : List (List Literal) → Type 0
HaveVariables clauses = All (λ lits. All (λ l. 1 ≤ l.var) lits) clauses
