use Rattle.std.proofs.Common.{arith, refl, subst, take_all, Contains}
use Rattle.std.proofs.lemmas.Bool.{false≢true}
use Rattle.std.proofs.lemmas.List.Elements.{All-more}
use Rattle.pb_parts.specs.Parts.{AreApart}
use Rattle.pb_parts.proofs.fitting.are_apart.Goals as goal

pub loop-number-preserved : goal.loop-number-preserved
loop-number-preserved c = All-more (λ n. ¬ (Contains c.args.done.now n)) c.args.cut.now c.loop-number.number-index 0 c.loop-number-test.true c.loop-number.invariant (λ among. false≢true (c.if-is_among.ensures.1 among))

pub returns-then-is_among : goal.returns-then-is_among
returns-then-is_among c = (λ no. absurd (false≢true no), λ apart. absurd (apart c.loop-number.number-index 0 c.loop-number-test.true (c.if-is_among.ensures.0 refl)))

pub returns : goal.returns
returns c = (λ _. subst (AreApart c.args.done.now) (take_all _ _ (omega (arith, c.loop-number-test.false))) c.loop-number.invariant, λ _. refl)
