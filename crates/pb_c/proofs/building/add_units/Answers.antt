use Rattle.std.proofs.Common.{ℤ, pos, List, [], ◌∷◌, ◌++◌, All, subst, rules}
use Rattle.std.proofs.lemmas.List.{take_all}
use Rattle.std.proofs.lemmas.List.Elements.{All-more}
use Rattle.pb_c.specs.Called.{IsVariable}
use Rattle.pb_c.proofs.ClauseLaws.{one_literal_more, one_unit_more}
use Rattle.pb_c.proofs.building.add_units.Goals as goal

pub loop-literal-preserved : goal.loop-literal-preserved
loop-literal-preserved c =
    let so_far = c.loop-literal.invariant in let l = c.in_ok-literal_of.field-0 in (
      so_far.0 ++ l ∷ [],
      one_literal_more _ _ _ so_far.0 l c.loop-literal-test.true (search rules) so_far.1 c.in_ok-literal_of.ensures.literal,
      one_unit_more c.args.session.now c.loop-literal.session _ so_far.0 l so_far.2 c.in_ok-term.ensures.added,
      All-more IsVariable c.args.literals.now c.loop-literal.literal-index (pos 0) c.loop-literal-test.true so_far.3 (search rules),
    )

pub returns-clause-accepted : goal.returns-clause-accepted
returns-clause-accepted c =
    subst (λ (numbers : List ℤ). All IsVariable numbers) (take_all c.loop-literal.literal-index c.args.literals.now c.loop-literal-test.false) c.loop-literal.invariant.3
