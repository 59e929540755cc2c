-- How the program may end.
use Rattle.std.specs.Prelude.{◌≡◌, ◌≢◌, ◌⊎◌, ℕ, Bool, true, false, List, Option}
use Rattle.std.specs.Option.{IfNone}
use Rattle.std.specs.Io.KnownBytes.{Appends}
use Rattle.clap.specs.Words.{Text, matches_of}
use Rattle.pb_line.specs.Ends.{EndsOn}
use Rattle.pb_program.specs.declared.args.Line.{Line}
use Rattle.pb_report.specs.Written.{memory_report}
use Rattle.pb_report.specs.Statuses.{exit_status}
use Rattle.pb_report.specs.declared.statuses.Status.TheVariants.{Unknown}
use Rattle.pb_program.specs.Line.{HasNoLine, IsLineOf, pbcube}
use Rattle.pb_solve.specs.Run.{Reports, ReportsFound}
use Rattle.pb_solve.specs.declared.options.Ran.{Ran}
use Rattle.pb_program.specs.Fetching.{HaveTexts}

-- for want of memory it reports so and ends with 0, or with 1 if the report cannot be written
abbrev pub EndsWithoutMemory : Option (List ℕ) → Option (List ℕ) → ℕ → Type 0
EndsWithoutMemory old new status = ((status ≡ 0) × Appends old new memory_report) ⊎ (status ≡ 1)

-- a run on these texts, in the format and with the split of the line, ended so, and wrote its report; without a budget no piece
-- was cut
pub record IsRunFor (line : Line) (input : Option (List ℕ)) (cubes : Option (Option (List ℕ))) (old new : Option (List ℕ)) (ran : Ran) : Type 0 where
  pub headline : ran.cut ≡ false → ran.status ≢ Unknown → Reports line.options.format input cubes line.options.split old new ran.status
  pub budgeted : ran.cut ≡ true → ReportsFound line.options.format input cubes line.options.split old new ran.status
  pub no_budget : IfNone line.options.nodes (ran.cut ≡ false)
  pub memory : ran.cut ≡ false → ran.status ≡ Unknown → Appends old new memory_report

-- a run on the files that the line names ended so
abbrev pub IsRunOn : {F : Type 0} → (F → Text → Bool → F → Type 0) → (F → Text → Option (List ℕ) → Type 0) → Line → F → Option (List ℕ) → Option (List ℕ) → Ran → Type 0
IsRunOn fetches has line files old new ran =
    (input : Option (List ℕ)) × (cubes : Option (Option (List ℕ))) × HaveTexts fetches has line files input cubes × IsRunFor line input cubes old new ran

-- after a run on the files of a line that has the values of the words' matches the status is that of its report
abbrev pub EndsWithReport : {F : Type 0} → (F → Text → Bool → F → Type 0) → (F → Text → Option (List ℕ) → Type 0) → List Text → F → Option (List ℕ) → Option (List ℕ) → ℕ → Type 0
EndsWithReport fetches has words files old new status =
    (line : Line) × IsLineOf (matches_of pbcube words) line × (ran : Ran) × IsRunOn fetches has line files old new ran × (status ≡ exit_status ran.status)

-- how it may end on these words and files, over what stands in the output before and after
abbrev pub Ends : {F : Type 0} → (F → Text → Bool → F → Type 0) → (F → Text → Option (List ℕ) → Type 0) → F → Option (List ℕ) → Option (List ℕ) → List Text → ℕ → Type 0
Ends fetches has files old new words = EndsOn pbcube HasNoLine (EndsWithoutMemory old new) (EndsWithReport fetches has words files old new) words
