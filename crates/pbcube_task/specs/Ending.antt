-- How the program may end.
use Rattle.std.specs.Prelude.{◌≡◌, ◌⊎◌, ℕ, List, Option}
use Rattle.std.specs.Io.KnownBytes.{Appends}
use Rattle.clap.specs.Words.{Text, matches_of}
use Rattle.pb_line.specs.Ends.{EndsOn}
use Rattle.pb_line.specs.Tasks.{HasNoLine, IsLineOf, pbcube_task}
use Rattle.pb_line.specs.declared.tasks.args.Line.{Line}
use Rattle.pb_report.specs.Statuses.{exit_status}
use Rattle.pb_report.specs.Written.{memory_report}
use Rattle.pb_report.specs.declared.statuses.Status.{Status}
use Rattle.pbcube_task.specs.Reporting.{Reports}

-- for want of memory it reports so and ends with 0, or with 1 if the report cannot be written
abbrev pub EndsWithoutMemory : Option (List ℕ) → Option (List ℕ) → ℕ → Type 0
EndsWithoutMemory before after status = ((status ≡ 0) × Appends before after memory_report) ⊎ (status ≡ 1)

-- the status is that of a report for a line that has the values of the words' matches
pub record EndsAsAsked {F : Type 0} (reads : F → Text → List ℕ → F → Type 0) (old new : F) (before after : Option (List ℕ)) (words : List Text) (status : ℕ) : Type 0 where
  pub line : Line
  pub ended : Status
  pub asked : IsLineOf (matches_of pbcube_task words) line
  pub reports : Reports reads line old new before after ended
  pub ends : status ≡ exit_status ended

-- how it may end on these words, over what the files and the output are before and after
abbrev pub Ends : {F : Type 0} → (F → Text → List ℕ → F → Type 0) → F → F → Option (List ℕ) → Option (List ℕ) → List Text → ℕ → Type 0
Ends reads old new before after words = EndsOn pbcube_task HasNoLine (EndsWithoutMemory before after) (EndsAsAsked reads old new before after words) words
