-- The exit statuses of a program that runs.
use Rattle.std.specs.Prelude.{◌≡◌, ◌⊎◌, ℕ}
use Rattle.pb_report.specs.declared.statuses.Status.{Status}
use Rattle.pb_report.specs.declared.statuses.Status.TheVariants.{Satisfiable, Unsatisfiable, Optimum, Unsupported, Unknown}

-- the exit status after a report
abbrev pub exit_status : Status → ℕ
exit_status Satisfiable = 10
exit_status Unsatisfiable = 20
exit_status Optimum = 30
exit_status Unsupported = 0
exit_status Unknown = 0

-- one of the exit statuses: 1 is that of a program that has no report, 2 that of one whose words are refused
abbrev pub IsExitStatus : ℕ → Type 0
IsExitStatus n = (n ≡ 0) ⊎ ((n ≡ 1) ⊎ ((n ≡ 2) ⊎ ((n ≡ 10) ⊎ ((n ≡ 20) ⊎ (n ≡ 30)))))
