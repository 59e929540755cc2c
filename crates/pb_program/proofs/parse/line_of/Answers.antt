use Rattle.std.proofs.Common.{◌≡◌, ◌∙◌, None, Some, sym}
use Rattle.pb_program.proofs.parse.line_of.Goals as goal

-- No line has a number that was not got.

pub returns-in_err-number_of-clause-none : goal.returns-in_err-number_of-clause-none
returns-in_err-number_of-clause-none c =
    λ none line low high h.
    let bad : None ≡ Some line.options.workers = sym c.in_err-number_of.was ∙ c.number_of.ensures.only line.options.workers h.workers in
    cc

pub returns-in_err-number_of-2-clause-none : goal.returns-in_err-number_of-2-clause-none
returns-in_err-number_of-2-clause-none c =
    λ none line low high h.
    let bad : None ≡ Some line.options.split = sym c.in_err-number_of-2.was ∙ c.number_of-2.ensures.only line.options.split h.split in
    cc
