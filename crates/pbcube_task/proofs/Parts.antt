-- The heading of a part, and then what was found, are its report.
use Rattle.std.proofs.Common.{◌≡◌, ℕ, ◌+◌, List, [], length, Option, Err, IfOk, Ok, Result}
use Rattle.std.specs.Option.{IfNone}
use Rattle.std.proofs.KnownBytes.{Appends-trans}
use Rattle.std.specs.Io.KnownBytes.{Appends}
use Rattle.pb_cubes.specs.Pieces.{CubeList}
use Rattle.pb_inst.specs.Incumbent.{Solution}
use Rattle.pb_inst.specs.Problem.{Problem}
use Rattle.pb_line.specs.declared.tasks.args.Line.{Line}
use Rattle.pb_parts.specs.Heading.{part_heading}
use Rattle.pb_report.specs.declared.statuses.Status.{Status}
use Rattle.pb_workers.specs.Dealing.{IsAnswerOfTask}
use Rattle.pb_solve.specs.Run.{AnswersHeld}
use Rattle.pbcube_task.specs.Reporting.{ReportsPart, task_of}

pub part_reported : {E : Type 0} (r : Result Status E) (line : Line) (p : Problem) (pieces : CubeList) (digest : List ℕ) (cubes_digest : Option (List ℕ)) (done cut : List ℕ) (held : Option Solution) (before between after : Option (List ℕ))
    → IsAnswerOfTask p pieces (task_of line) done cut held
    → IfNone line.nodes (cut ≡ [])
    → Appends before between (part_heading (record { instance = digest; pieces = length pieces.cubes + 1; split = line.split; cubes = cubes_digest; tasks = line.tasks }) line.task done cut)
    → IfOk r (AnswersHeld line.format p held between after)
    → IfOk r (ReportsPart line p pieces.cubes digest cubes_digest before after)
part_reported (Ok status) line p pieces digest cubes_digest done cut held before between after answer no_budget heading found = record {
  done = done;
  cut = cut;
  held = held;
  answer = record { named = answer.named; solution = answer.solution; are_done = answer.are_done };
  no_budget = no_budget;
  ends = found.ends;
  writes = Appends-trans before between after _ _ heading found.writes;
}
part_reported (Err e) line p pieces digest cubes_digest done cut held before between after answer no_budget heading found = tt
