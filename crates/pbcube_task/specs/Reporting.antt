-- What the program reports.
use Rattle.std.specs.Prelude.{◌≡◌, ◌⊎◌, ℕ, ◌+◌, List, [], ◌++◌, length, Option, option_map, is_some}
use Rattle.std.specs.Option.{IfNone}
use Rattle.std.specs.Io.KnownBytes.{Appends}
use Rattle.pb_inst.specs.Incumbent.{Solution}
use Rattle.pb_inst.specs.Literal.{Literal}
use Rattle.pb_inst.specs.Problem.{Problem}
use Rattle.pb_files.specs.Dividing.{ReadsDivided, ReadsRefused}
use Rattle.pb_files.specs.Texts.{Text}
use Rattle.pb_files.specs.declared.dividing_fault.DivisionFault.{DivisionFault}
use Rattle.pb_files.specs.declared.dividing_fault.DivisionFault.TheVariants.{CannotRead, Refused, Memory}
use Rattle.pb_line.specs.declared.tasks.args.Line.{Line}
use Rattle.pb_parts.specs.Heading.{part_heading}
use Rattle.pb_report.specs.Written.{memory_report, refusal_report}
use Rattle.pb_report.specs.declared.ends.Refusal.{Refusal}
use Rattle.pb_report.specs.declared.statuses.Status.{Status}
use Rattle.pb_report.specs.declared.statuses.Status.TheVariants.{Unknown, Unsupported}
use Rattle.pb_solve.specs.Budgeted.{found_of, found_report, found_status}
use Rattle.pb_workers.specs.Dealing.{TaskView, IsAnswerOfTask}

-- the task of the line, which may claim pieces where the line names a folder to exchange in
abbrev pub task_of : Line → TaskView
task_of line = record { number = line.task; tasks = line.tasks; claims = is_some line.exchange }

-- What is held, and the pieces that are named as done and as cut, are the answer of the line's task on the instance and the
-- pieces of these cubes. All that is written is the heading that names these pieces, and then the report of what is held, as
-- what was found. Without a budget no piece is named as cut.
pub record ReportsPart (line : Line) (p : Problem) (cubes : List (List Literal)) (digest : List ℕ) (cubes_digest : Option (List ℕ)) (before after : Option (List ℕ)) (ended : Status) : Type 0 where
  pub done : List ℕ
  pub cut : List ℕ
  pub held : Option Solution
  pub answer : IsAnswerOfTask p (record { vars = p.vars; cubes = cubes }) (task_of line) done cut held
  pub no_budget : IfNone line.nodes (cut ≡ [])
  pub ends : ended ≡ found_status (found_of p held)
  pub writes : Appends before after (part_heading (record { instance = digest; pieces = length cubes + 1; split = line.split; cubes = cubes_digest; tasks = line.tasks }) line.task done cut ++ found_report line.format (found_of p held))

-- the files of the line are read and divided, and a part of that is reported
pub record ReportsTask {F : Type 0} (reads : F → Text → List ℕ → F → Type 0) (line : Line) (old new : F) (before after : Option (List ℕ)) (ended : Status) : Type 0 where
  pub problem : Problem
  pub cubes : List (List Literal)
  pub digest : List ℕ
  pub cubes_digest : Option (List ℕ)
  pub reading : ReadsDivided reads line.format line.file.now (option_map (λ name. name.now) line.cubes) line.split problem cubes digest cubes_digest old new
  pub part : ReportsPart line problem cubes digest cubes_digest before after ended

-- all that is written is that this is refused
pub record WritesRefusal (refusal : Refusal) (before after : Option (List ℕ)) (ended : Status) : Type 0 where
  pub ends : ended ≡ Unsupported
  pub writes : Appends before after (refusal_report refusal)

-- all that is written is that memory ran out
pub record ReportsNoMemory (before after : Option (List ℕ)) (ended : Status) : Type 0 where
  pub ends : ended ≡ Unknown
  pub writes : Appends before after memory_report

-- why an instance was not divided is reported, unless a file could not be read
abbrev pub ReportsFault : DivisionFault → Option (List ℕ) → Option (List ℕ) → Status → Type 0
ReportsFault (CannotRead name reason) before after ended = ⊥
ReportsFault (Refused name refusal hint) before after ended = WritesRefusal refusal before after ended
ReportsFault Memory before after ended = ReportsNoMemory before after ended

-- the files of the line are read, and what is refused of them is reported
pub record ReportsRefusal {F : Type 0} (reads : F → Text → List ℕ → F → Type 0) (line : Line) (old new : F) (before after : Option (List ℕ)) (ended : Status) : Type 0 where
  pub refusal : Refusal
  pub reading : ReadsRefused reads line.format line.file.now (option_map (λ name. name.now) line.cubes) line.split old new refusal
  pub report : WritesRefusal refusal before after ended

-- the answer of the line's task is reported, or what is refused, or that memory ran out
abbrev pub Reports : {F : Type 0} → (F → Text → List ℕ → F → Type 0) → Line → F → F → Option (List ℕ) → Option (List ℕ) → Status → Type 0
Reports reads line old new before after ended =
    ReportsTask reads line old new before after ended ⊎ (ReportsRefusal reads line old new before after ended ⊎ ReportsNoMemory before after ended)
