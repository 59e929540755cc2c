use Rattle.std.proofs.Common.{◌∙◌, ap, sym, length, arith}
use Rattle.std.proofs.lemmas.Bool.{eqb-true, eqb-false}
use Rattle.std.proofs.lemmas.List.{nil_from_length}
use Rattle.pb_read.proofs.TokenCuts.{number_of_all, number_of_part}
use Rattle.pb_read.proofs.digits.digits_count.Goals as goal

pub returns-then-is_empty-2 : goal.returns-then-is_empty-2
returns-then-is_empty-2 c =
    let none = nil_from_length c.leading_count-count.result.1.now (eqb-true (length c.leading_count-count.result.1.now) 0 (sym c.is_empty-2.ensures ∙ c.if-is_empty-2.true)) in
    let some = eqb-false (length c.args.digits.now) 0 (sym c.is_empty.ensures ∙ c.if-is_empty.false) in
    number_of_all c.leading_count-count.result.0 c.args.digits.now (omega (arith, some)) (sym c.leading_count-count.ensures.rest ∙ none) c.leading_count-count.ensures.value

pub returns-else-is_empty-2 : goal.returns-else-is_empty-2
returns-else-is_empty-2 c =
    let some = eqb-false (length c.leading_count-count.result.1.now) 0 (sym c.is_empty-2.ensures ∙ c.if-is_empty-2.false) in
    number_of_part c.args.digits.now (omega (arith, some, ap length c.leading_count-count.ensures.rest))
