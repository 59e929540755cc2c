use Rattle.std.proofs.Common.{◌≡◌, ◌∙◌, None, Some, sym}
use Rattle.pb_line.proofs.dividing.parse.line_of.Goals as goal

-- No line has a number that was not got.

pub returns-in_err-number_of-clause-none : goal.returns-in_err-number_of-clause-none
returns-in_err-number_of-clause-none c =
    λ none line h.
    let bad : None ≡ Some line.split = sym c.in_err-number_of.was ∙ c.number_of.ensures.only line.split h.split in
    cc
