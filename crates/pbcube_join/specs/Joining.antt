-- What the program writes.
use Rattle.std.specs.Prelude.{◌≡◌, ◌↔◌, ◌⊎◌, ℕ, List, Option, None, Some, IsTrue, true}
use Rattle.pb_inst.specs.Literal.{Literal}
use Rattle.pb_inst.specs.Problem.{Problem}
use Rattle.pb_files.specs.Reading.{ReadsFaulty}
use Rattle.pb_read.specs.declared.fault.ReadFault.{ReadFault}
use Rattle.pb_read.specs.declared.format.Format.{Format}
use Rattle.pb_report.specs.Outcome.{Answers}
use Rattle.pb_join.specs.declared.joining.Joined.{Joined}
use Rattle.pb_join.specs.declared.reports.PieceReport.{PieceReport}
use Rattle.pb_join.specs.declared.parts.joining.JoinedParts.{JoinedParts}
use Rattle.pb_join.specs.Joining.{AreFit, AreStates, TellsFirst, TellsFirstOf}
use Rattle.pb_join.specs.Parts.{AreAllNamed, AreFitParts, AreNamed, ArePartsOf, AreTaskStates, all_found_in_parts, first_division}
use Rattle.pb_join.specs.Pieces.{AreOfPieces}
use Rattle.clap.specs.Words.{Text, matches_of}
use Rattle.pb_parts.specs.declared.parts.PartReport.{PartReport}
use Rattle.pb_report.specs.Statuses.{exit_status}
use Rattle.pb_report.specs.Written.{refusal_report}
use Rattle.pb_report.specs.declared.ends.Refusal.TheVariants.{Input}
use Rattle.pb_report.specs.declared.statuses.Status.{Status}
use Rattle.pb_report.specs.declared.statuses.Status.TheVariants.{Unsupported}
use Rattle.pb_files.specs.declared.parts.TaskReports.{TaskReports}
use Rattle.pb_files.specs.declared.parts.TaskReports.TheVariants as read
use Rattle.std.specs.Io.KnownBytes.{Appends}
use Rattle.pb_line.specs.declared.joining.args.Line.{Line}
use Rattle.pb_line.specs.Joining.{IsLineOf, pbcube_join}
use Rattle.pbcube_join.specs.Reading.{ReadsFor, ReadsRefusals, ReadsTasksFor}
use Rattle.pbcube_join.specs.declared.parts.TasksEnd.{TasksEnd}
use Rattle.pbcube_join.specs.declared.parts.TasksEnd.TheVariants as end

-- What was written tells the first assignment of these reports, which are fit reports of the instance's pieces, and of each
-- piece it is told what became of it. It is the answer on the instance where every piece is done and each report is right.
pub record TellsOf (format : Format) (p : Problem) (pieces : ℕ) (reports : List PieceReport) (old new : Option (List ℕ)) (joined : Joined) : Type 0 where
  pub fit : AreFit p pieces reports
  pub states : AreStates p pieces reports joined.states.items
  pub first : TellsFirst format p reports joined.whole old new joined.status
  pub answer : (cubes : List (List Literal)) → AreOfPieces p pieces reports cubes → joined.whole ≡ true → Answers format p old new joined.status

-- what was written tells the first assignment of some reports
abbrev pub Tells : Format → Problem → ℕ → Option (List ℕ) → Option (List ℕ) → Joined → Type 0
Tells format p pieces old new joined = (reports : List PieceReport) × TellsOf format p pieces reports old new joined

-- the instance and the reports are read from the files that the line names, and what was written tells of these
pub record JoinsFiles {F : Type 0} (reads : F → Text → List ℕ → F → Type 0) (lists : F → Text → Option (List Text) → F → Type 0) (line : Line) (before after : F) (old new : Option (List ℕ)) (joined : Joined) : Type 0 where
  pub problem : Problem
  pub pieces : ℕ
  pub reports : List PieceReport
  pub from_files : ReadsFor reads lists line problem pieces reports before after
  pub tells : TellsOf line.format problem pieces reports old new joined

-- What was written tells the first assignment of these reports, which are fit reports of the parts of this instance, and of each
-- task it is told what became of it, and which pieces are named as done. It is written as the answer exactly where each piece is named as done, and it is the answer
-- where each piece that is named as done is done.
pub record TellsOfParts (format : Format) (p : Problem) (digest : List ℕ) (tasks : ℕ) (parts : List PartReport) (old new : Option (List ℕ)) (joined : JoinedParts) : Type 0 where
  pub fit : AreFitParts p digest tasks parts
  pub states : AreTaskStates tasks parts joined.states.items
  pub named : AreNamed parts joined.named.items
  pub first : TellsFirstOf format p (all_found_in_parts p parts) joined.whole old new joined.status
  pub whole : IsTrue joined.whole ↔ AreAllNamed (first_division parts) parts
  pub answer : (cubes : List (List Literal)) → ArePartsOf p cubes parts → joined.whole ≡ true → Answers format p old new joined.status

-- the status of the report that is written at this end
abbrev pub status_of : TasksEnd → Status
status_of (end.Joined joined) = joined.joined.status
status_of (end.Refused refusal) = Unsupported

-- what was written tells of the parts that were read; or every task refused the same, and all that was written is this refusal, as
-- a run on the whole writes it
abbrev pub TellsOfTasks : Format → Problem → List ℕ → ℕ → TaskReports → Option (List ℕ) → Option (List ℕ) → TasksEnd → Type 0
TellsOfTasks format p digest tasks (read.Parts parts) old new (end.Joined joined) = TellsOfParts format p digest tasks parts.parts.items old new joined.joined
TellsOfTasks format p digest tasks (read.Refused refusal) old new (end.Refused written) = Appends old new (refusal_report refusal)
TellsOfTasks format p digest tasks _ old new _ = ⊥

-- the instance and the reports of tasks are read from the files that the line names, and what was written tells of these
pub record JoinsTasks {F : Type 0} (reads : F → Text → List ℕ → F → Type 0) (lists : F → Text → Option (List Text) → F → Type 0) (line : Line) (tasks : ℕ) (before after : F) (old new : Option (List ℕ)) (end : TasksEnd) : Type 0 where
  pub problem : Problem
  pub digest : List ℕ
  pub read : TaskReports
  pub from_files : ReadsTasksFor reads lists line problem digest tasks read before after
  pub tells : TellsOfTasks line.format problem digest tasks read old new end

-- The text of the line's file is read, which has this fault, and then the reports of tasks, which all refuse it. All that was written
-- is this refusal, as a run on that text writes it.
pub record RefusesText {F : Type 0} (reads : F → Text → List ℕ → F → Type 0) (lists : F → Text → Option (List Text) → F → Type 0) (line : Line) (tasks : ℕ) (before after : F) (old new : Option (List ℕ)) (ended : TasksEnd) : Type 0 where
  pub fault : ReadFault
  pub after_instance : F
  pub faulty : ReadsFaulty reads line.format line.file.now fault before after_instance
  pub refusals : ReadsRefusals reads lists line tasks fault after_instance after
  pub is : ended ≡ end.Refused (Input fault)
  pub writes : Appends old new (refusal_report (Input fault))

-- the instance and the reports of tasks are read and joined, or all tasks refused the text of the instance
abbrev pub JoinsOrRefuses : {F : Type 0} → (F → Text → List ℕ → F → Type 0) → (F → Text → Option (List Text) → F → Type 0) → Line → ℕ → F → F → Option (List ℕ) → Option (List ℕ) → TasksEnd → Type 0
JoinsOrRefuses reads lists line tasks before after old new end =
    JoinsTasks reads lists line tasks before after old new end ⊎ RefusesText reads lists line tasks before after old new end

-- the reports of `tasks` tasks are joined where that number is told, and else the reports of pieces, and the report has this
-- status
abbrev pub JoinsLine : {F : Type 0} → (F → Text → List ℕ → F → Type 0) → (F → Text → Option (List Text) → F → Type 0) → Line → Option ℕ → F → F → Option (List ℕ) → Option (List ℕ) → Status → Type 0
JoinsLine reads lists line None before after old new status = (joined : Joined) × JoinsFiles reads lists line before after old new joined × (status ≡ joined.status)
JoinsLine reads lists line (Some tasks) before after old new status = (end : TasksEnd) × JoinsOrRefuses reads lists line tasks before after old new end × (status ≡ status_of end)

-- the files of a line that has the values of the words' matches are joined, and the status is that of the report
pub record JoinsAsAsked {F : Type 0} (reads : F → Text → List ℕ → F → Type 0) (lists : F → Text → Option (List Text) → F → Type 0) (words : List Text) (before after : F) (old new : Option (List ℕ)) (status : ℕ) : Type 0 where
  pub line : Line
  pub asked : IsLineOf (matches_of pbcube_join words) line
  pub told : Status
  pub joins : JoinsLine reads lists line line.tasks before after old new told
  pub ended : status ≡ exit_status told
