-- How the program may end.
use Rattle.std.specs.Prelude.{◌≡◌, ℕ, List}
use Rattle.clap.specs.Words.{Text}
use Rattle.pb_line.specs.Ends.{EndsOn}
use Rattle.pb_report.specs.Statuses.{exit_status}
use Rattle.pb_report.specs.declared.statuses.Status.{Status}
use Rattle.pb_line.specs.Joining.{HasNoLine, pbcube_join}

-- how it may end on these words: with 1 for want of memory, and with the status of its report where it wrote one
abbrev pub Ends : List Text → ℕ → Type 0
Ends = EndsOn pbcube_join HasNoLine (λ n. n ≡ 1) (λ n. (status : Status) × (n ≡ exit_status status))
