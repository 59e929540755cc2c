-- What is read for a line.
use Rattle.std.specs.Prelude.{◌≡◌, ℕ, List, Option, length, map}
use Rattle.clap.specs.Words.{Text}
use Rattle.pb_files.specs.Reading.{CountsPieces, ListsFiles, ReadsInstance, ReadsReports, ReadsSame}
use Rattle.pb_files.specs.Tasks.{ReadsTasks}
use Rattle.pb_files.specs.declared.parts.TaskReports.{TaskReports}
use Rattle.pb_inst.specs.Problem.{Problem}
use Rattle.pb_join.specs.declared.reports.PieceReport.{PieceReport}
use Rattle.pb_line.specs.declared.joining.args.Line.{Line}
use Rattle.pb_read.specs.declared.fault.ReadFault.{ReadFault}
use Rattle.pb_report.specs.Written.{refusal_report}
use Rattle.pb_report.specs.declared.ends.Refusal.TheVariants.{Input}

-- The instance is read, then the indexes of the folders that the line names, which tell into how many pieces the instance is
-- cut, and then the reports. Each is read from the files that the line names, and no other file is.
pub record ReadsFor {F : Type 0} (reads : F → Text → List ℕ → F → Type 0) (lists : F → Text → Option (List Text) → F → Type 0) (line : Line) (p : Problem) (pieces : ℕ) (reports : List PieceReport) (old new : F) : Type 0 where
  pub digest : List ℕ
  pub after_instance : F
  pub instance : ReadsInstance reads line.format line.file.now p digest old after_instance
  pub names : List Text
  pub indexes : List Text
  pub after_names : F
  pub listed : ListsFiles lists (map (λ name. name.now) line.reports.items) names indexes after_instance after_names
  pub after_indexes : F
  pub counted : CountsPieces reads line.format p.vars digest line.pieces indexes pieces after_names after_indexes
  pub reports_read : ReadsReports reads line.format p.vars names reports after_indexes new

-- The instance is read, which has this digest, and then the reports of tasks. Each is read from the files that the line names,
-- and no other file is: an index is named, and is not read.
pub record ReadsTasksFor {F : Type 0} (reads : F → Text → List ℕ → F → Type 0) (lists : F → Text → Option (List Text) → F → Type 0) (line : Line) (p : Problem) (digest : List ℕ) (tasks : ℕ) (read : TaskReports) (old new : F) : Type 0 where
  pub after_instance : F
  pub instance : ReadsInstance reads line.format line.file.now p digest old after_instance
  pub names : List Text
  pub indexes : List Text
  pub after_names : F
  pub listed : ListsFiles lists (map (λ name. name.now) line.reports.items) names indexes after_instance after_names
  pub tasks_read : ReadsTasks reads line.format p.vars tasks names read after_names new

-- The reports of tasks are read from the files that the line names, and no other file is. There are as many as there are tasks, and
-- each of them refuses the text of the instance for this fault.
pub record ReadsRefusals {F : Type 0} (reads : F → Text → List ℕ → F → Type 0) (lists : F → Text → Option (List Text) → F → Type 0) (line : Line) (tasks : ℕ) (fault : ReadFault) (old new : F) : Type 0 where
  pub names : List Text
  pub indexes : List Text
  pub after_names : F
  pub listed : ListsFiles lists (map (λ name. name.now) line.reports.items) names indexes old after_names
  pub counted : length names ≡ tasks
  pub refusals : ReadsSame reads (refusal_report (Input fault)) names after_names new
