-- Which constraints are clauses.
use Rattle.std.proofs.Common.{◌≡◌, List, [], ◌∷◌, map, All, refl, sym, ap, subst, ◌∙◌, ℤ, pos}
use Rattle.std.specs.List.{AllByRecursion}
use Rattle.std.proofs.lemmas.List.Elements.{All-map}
use Rattle.pb_inst.specs.Constraints.{unit_term}
use Rattle.pb_inst.specs.declared.constraints.Term.{Term}
use Rattle.pb_inst.specs.declared.constraints.Relation.{Relation}
use Rattle.pb_inst.specs.declared.constraints.Relation.TheVariants.{AtLeast}
use Rattle.pb_inst.specs.Problem.{LinearConstraint}
use Rattle.pb_read.proofs.Limits.{each_of}
use Rattle.pb_write.specs.Written.{literals_of, IsClause}

abbrev pub IsUnit : Term → Type 0
IsUnit t = t.coef ≡ pos 1

units : (ts : List Term) → AllByRecursion IsUnit ts → ts ≡ map unit_term (map (λ (t : Term). t.lit) ts)
units [] h = refl
units (t ∷ ts) h =
    let same : t ≡ unit_term t.lit = ap (λ (z : ℤ). let u : Term = record { coef = z; lit = t.lit } in u) h.0 in
    ap (λ (u : Term). u ∷ ts) same ∙ ap (λ (us : List Term). unit_term t.lit ∷ us) (units ts h.1)

pub is_clause_from : (c : LinearConstraint) → c.relation ≡ AtLeast → c.bound ≡ pos 1 → All IsUnit c.terms → IsClause c
is_clause_from c relation bound h =
    ap (λ (r : Relation). let d : LinearConstraint = record { terms = c.terms; relation = r; bound = c.bound } in d) relation
    ∙ ap (λ (z : ℤ). let d : LinearConstraint = record { terms = c.terms; relation = AtLeast; bound = z } in d) bound
    ∙ ap (λ (ts : List Term). let d : LinearConstraint = record { terms = ts; relation = AtLeast; bound = pos 1 } in d) (units c.terms (each_of IsUnit c.terms h))

pub relation_of_clause : (c : LinearConstraint) → IsClause c → c.relation ≡ AtLeast
relation_of_clause c h = ap (λ (d : LinearConstraint). d.relation) h

pub bound_of_clause : (c : LinearConstraint) → IsClause c → c.bound ≡ pos 1
bound_of_clause c h = ap (λ (d : LinearConstraint). d.bound) h

pub units_of_clause : (c : LinearConstraint) → IsClause c → All IsUnit c.terms
units_of_clause c h =
    subst (λ (d : LinearConstraint). All IsUnit d.terms) (sym h) (All-map IsUnit unit_term (literals_of c) (λ k d within. refl))
