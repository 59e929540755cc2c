use Rattle.std.proofs.Common.{◌≡◌, ◌↔◌, Bool, List, arith, of_z, rules, subst, to_z, ℤ, ◌+ℤ◌}
use Rattle.std.specs.Int.{w128}
use Rattle.pb_inst.specs.Meaning.{Stands, term_value}
use Rattle.pb_clique.specs.Cliques.{IsOneTrue}
use Rattle.std.proofs.lemmas.Option.{IfSome_then}
use Rattle.pb_inst.specs.Constraints.{linear}
use Rattle.pb_inst.specs.declared.constraints.Relation.TheVariants.{AtLeast, AtMost}
use Rattle.pb_clique.proofs.CliqueLemmas.{clause_from}
use Rattle.pb_clique.proofs.clauses.clause_of.Goals as goal

pub returns-in-AtLeast : goal.returns-in-AtLeast
returns-in-AtLeast c =
    let same : to_z w128 (of_z w128 c.args.constraint.now.bound) ≡ c.args.constraint.now.bound = search rules in
    IfSome_then c.clause_at_least.result c.clause_at_least.ensures (λ lits says. clause_from (linear c.args.constraint.now) AtLeast c.get-first.result c.get-second.result lits.0 lits.1 c.in-AtLeast.is (omega (arith, c.if-len-ne2.false, c.len.ensures)) c.get-first.ensures c.get-second.ensures
    (subst (λ (z : ℤ). (a : List Bool) → Stands AtLeast (term_value a c.get-first.result +ℤ term_value a c.get-second.result) z ↔ IsOneTrue a lits.0 lits.1) same says))

pub returns-in-AtMost : goal.returns-in-AtMost
returns-in-AtMost c =
    let same : to_z w128 (of_z w128 c.args.constraint.now.bound) ≡ c.args.constraint.now.bound = search rules in
    IfSome_then c.clause_at_most.result c.clause_at_most.ensures (λ lits says. clause_from (linear c.args.constraint.now) AtMost c.get-first.result c.get-second.result lits.0 lits.1 c.in-AtMost.is (omega (arith, c.if-len-ne2.false, c.len.ensures)) c.get-first.ensures c.get-second.ensures
    (subst (λ (z : ℤ). (a : List Bool) → Stands AtMost (term_value a c.get-first.result +ℤ term_value a c.get-second.result) z ↔ IsOneTrue a lits.0 lits.1) same says))
