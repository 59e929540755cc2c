use Rattle.std.proofs.Common.{arith, below_more, refl, Contains}
use Rattle.pb_join.proofs.parts.finishing.has_all.Goals as goal

pub loop-piece-preserved : goal.loop-piece-preserved
loop-piece-preserved c = below_more (λ i. Contains c.args.named.now i) c.loop-piece.piece c.loop-piece.invariant (c.if-not-is_among.ensures.0 refl)

pub returns : goal.returns
returns c = (λ _ i below. c.loop-piece.invariant i (omega (arith, below, c.loop-piece-test.false)), λ _. refl)
