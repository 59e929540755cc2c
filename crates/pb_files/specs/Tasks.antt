-- What the reports of tasks are, and from which files they are read.
use Rattle.std.specs.Prelude.{◌≡◌, ⊤, ℕ, List, length, All, IfSome}
use Rattle.pb_files.specs.Reading.{HasIfAny, ReadsParts, ReadsSame}
use Rattle.pb_files.specs.Texts.{Text}
use Rattle.pb_files.specs.declared.parts.TaskReport.{TaskReport}
use Rattle.pb_files.specs.declared.parts.TaskReport.TheVariants as one
use Rattle.pb_files.specs.declared.parts.TaskReports.{TaskReports}
use Rattle.pb_files.specs.declared.parts.TaskReports.TheVariants as all
use Rattle.pb_parts.specs.Parts.{IsFit, IsPartReport}
use Rattle.pb_read.specs.declared.format.Format.{Format}
use Rattle.pb_report.specs.Written.{refusal_report}
use Rattle.pb_report.specs.declared.ends.Refusal.{Refusal}
use Rattle.pb_report.specs.declared.ends.Refusal.TheVariants.{Input, Cubes, Split, TooManyCubes}

-- the text is the report of a part, whose numbers a part can have, or is empty and has none; or it tells what was refused
abbrev pub IsReportOfTask : Format → ℕ → Text → TaskReport → Type 0
IsReportOfTask format vars text (one.Part part) = IfSome part (λ part. IsFit part.heading) × HasIfAny (IsPartReport format vars) text part
IsReportOfTask format vars text (one.Refused refusal quote) = text ≡ refusal_report refusal

-- the reports of parts have numbers that a part can have, and each has the name of its file
abbrev pub AreFitTasks : TaskReports → Type 0
AreFitTasks (all.Parts read) = (length read.names.items ≡ length read.parts.items) × All (λ part. IsFit part.heading) read.parts.items
AreFitTasks (all.Refused refusal) = ⊤

-- what is refused is to divide an instance, whose text is not refused
abbrev pub IsOfDivision : Refusal → Type 0
IsOfDivision (Input fault) = ⊥
IsOfDivision (Cubes fault) = ⊤
IsOfDivision Split = ⊤
IsOfDivision TooManyCubes = ⊤

-- The files of these names are read one after the other. They are reports of parts, or empty; or there are as many as there are
-- tasks, and each of them refuses the same, which is to divide the instance.
abbrev pub ReadsTasks : {F : Type 0} → (F → Text → List ℕ → F → Type 0) → Format → ℕ → ℕ → List Text → TaskReports → F → F → Type 0
ReadsTasks reads format vars tasks names (all.Parts read) old new = ReadsParts reads format vars names read.parts.items old new
ReadsTasks reads format vars tasks names (all.Refused refusal) old new = IsOfDivision refusal × (length names ≡ tasks) × ReadsSame reads (refusal_report refusal) names old new
