use Rattle.std.proofs.Common.{arith, sym, ◌∙◌}
use Rattle.std.proofs.lemmas.List.Sums.{suffix_len_is}
use Rattle.std.specs.Char.{is_ascii_digit}
use Rattle.pb_files.proofs.listing.digits_start.Goals as goal

pub returns-else-is_ascii_digit : goal.returns-else-is_ascii_digit
returns-else-is_ascii_digit c =
    let counted = suffix_len_is is_ascii_digit c.args.text.now c.loop-start.start 0 c.loop-start.invariant.within c.loop-start.invariant.digits (λ _. sym c.is_ascii_digit.ensures.value ∙ c.if-is_ascii_digit.false) in
    omega (arith, counted, c.loop-start.invariant.within)

pub returns-after-loop-start : goal.returns-after-loop-start
returns-after-loop-start c =
    let counted = suffix_len_is is_ascii_digit c.args.text.now c.loop-start.start 0 c.loop-start.invariant.within c.loop-start.invariant.digits (λ some. absurd (omega (arith, some, c.loop-start-test.false))) in
    omega (arith, counted, c.loop-start.invariant.within)
