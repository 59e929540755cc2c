use Rattle.std.proofs.Common.{◌≡◌, ◌∙◌, None, Some, sym}
use Rattle.pb_line.proofs.tasks.parse.line_of.Goals as goal

-- No line has a number that was not got.

pub returns-in_err-number_of-clause-none : goal.returns-in_err-number_of-clause-none
returns-in_err-number_of-clause-none c =
    λ none line low high below h.
    let bad : None ≡ Some line.workers = sym c.in_err-number_of.was ∙ c.number_of.ensures.only line.workers h.workers in
    cc

pub returns-in_err-number_of-2-clause-none : goal.returns-in_err-number_of-2-clause-none
returns-in_err-number_of-2-clause-none c =
    λ none line low high below h.
    let bad : None ≡ Some line.split = sym c.in_err-number_of-2.was ∙ c.number_of-2.ensures.only line.split h.split in
    cc

pub returns-in_err-number_of-3-clause-none : goal.returns-in_err-number_of-3-clause-none
returns-in_err-number_of-3-clause-none c =
    λ none line low high below h.
    let bad : None ≡ Some line.task = sym c.in_err-number_of-3.was ∙ c.number_of-3.ensures.only line.task h.task in
    cc

pub returns-in_err-number_of-4-clause-none : goal.returns-in_err-number_of-4-clause-none
returns-in_err-number_of-4-clause-none c =
    λ none line low high below h.
    let bad : None ≡ Some line.tasks = sym c.in_err-number_of-4.was ∙ c.number_of-4.ensures.only line.tasks h.tasks in
    cc
