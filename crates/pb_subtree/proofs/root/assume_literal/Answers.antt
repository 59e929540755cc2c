use Rattle.std.proofs.Common.{◌≡◌, ◌∙◌, sym, ap, Some, Bool}
use Rattle.pb_engine.specs.Trail.{value_on}
use Rattle.pb_engine.specs.Soundness.{assumptions}
use Rattle.pb_subtree.proofs.RootLemmas.{all_next, on_trail, off_trail, same_bits, other_bits}
use Rattle.pb_subtree.proofs.root.assume_literal.Goals as goal

pub returns-in-None-clause-kept : goal.returns-in-None-clause-kept
returns-in-None-clause-kept g c fixed a h = all_next a (assumptions c.args.engine.now) (assumptions c.assume_free.new.engine) c.args.lit c.assume_free.ensures.assumed

pub returns-then-value-positive-clause-kept : goal.returns-then-value-positive-clause-kept
returns-then-value-positive-clause-kept g c is a h =
    let there : value_on c.args.engine.now.trail c.args.lit.var ≡ Some c.in-Some.value = cc in
    let e : value_on c.args.engine.now.trail c.args.lit.var ≡ Some c.args.lit.positive = there ∙ ap (λ (b : Bool). Some b) (same_bits c.in-Some.value c.positive.result c.if-value-positive.true ∙ c.positive.ensures) in
    ((λ all. (all, on_trail c.args.engine.now c.args.lit a c.value.ensures.sound e h all)), (λ p. p.0))

pub returns-else-value-positive-clause-conflict : goal.returns-else-value-positive-clause-conflict
returns-else-value-positive-clause-conflict g c is a h all =
    let e : value_on c.args.engine.now.trail c.args.lit.var ≡ Some c.in-Some.value = cc in
    off_trail c.args.engine.now c.args.lit c.in-Some.value a c.value.ensures.sound e (λ same. other_bits c.in-Some.value c.positive.result c.if-value-positive.false (same ∙ sym c.positive.ensures)) h all
