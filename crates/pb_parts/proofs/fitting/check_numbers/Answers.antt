use Rattle.std.proofs.Common.{arith, refl, subst, All, take_all}
use Rattle.std.proofs.lemmas.List.Elements.{All-more}
use Rattle.pb_parts.specs.Parts.{IsPiece}
use Rattle.pb_parts.proofs.fitting.check_numbers.Goals as goal

pub loop-number-preserved : goal.loop-number-preserved
loop-number-preserved c = All-more (IsPiece c.args.division.now) c.args.numbers.now c.loop-number.number-index 0 c.loop-number-test.true c.loop-number.invariant (c.in_ok-check_piece.ensures.0 refl)

pub returns : goal.returns
returns c = record {
  each = subst (All (IsPiece c.args.division.now)) (take_all _ _ (omega (arith, c.loop-number-test.false))) c.loop-number.invariant;
  rising = c.if-not-are_rising.ensures.0 refl;
}
