-- An instance as it is written: with `>=` and `=` alone, since not every solver reads `<=`.
use Rattle.std.specs.Prelude.{Bool, true, false, map, neg_ℤ, if◌then◌else◌}
use Rattle.pb_inst.specs.declared.constraints.Term.{Term}
use Rattle.pb_inst.specs.declared.constraints.Relation.{Relation}
use Rattle.pb_inst.specs.declared.constraints.Relation.TheVariants.{AtLeast, AtMost, Equal}
use Rattle.pb_inst.specs.Problem.{LinearConstraint, Problem}

-- the term with the negated coefficient
abbrev pub turned_term : Term → Term
turned_term t = record { coef = neg_ℤ t.coef; lit = t.lit }

-- `>=`, with each coefficient and the bound negated
abbrev pub turned : LinearConstraint → LinearConstraint
turned c = record { terms = map turned_term c.terms; relation = AtLeast; bound = neg_ℤ c.bound }

abbrev pub is_at_most : Relation → Bool
is_at_most AtLeast = false
is_at_most AtMost = true
is_at_most Equal = false

-- a constraint with `<=` is turned, and every other one is kept
abbrev pub written_constraint : LinearConstraint → LinearConstraint
written_constraint c = if is_at_most c.relation then turned c else c

-- the instance with its constraints as they are written
abbrev pub written_problem : Problem → Problem
written_problem p = record p { constraints = map written_constraint p.constraints }
