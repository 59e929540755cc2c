-- What reports of parts make together.
use Rattle.std.specs.Prelude.{◌≡◌, ◌≢◌, ℕ, ◌+◌, ◌<◌, ◌%◌, ◌↔◌, List, [], ◌∷◌, length, map, take, slice_index_or, All, AllPairs, Any, Contains, Option, None, Some, IsSomeAnd, IsTrue, ⊤}
use Rattle.std.specs.List.Sorted.{IsStrictlyIncreasing}
use Rattle.std.specs.Option.{IfSome}
use Rattle.pb_inst.specs.Literal.{Literal}
use Rattle.pb_inst.specs.Problem.{Problem}
use Rattle.pb_inst.specs.Incumbent.{Solution}
use Rattle.pb_cubes.specs.Done.{IsDone}
use Rattle.pb_cubes.specs.First.{IsFirst}
use Rattle.pb_report.specs.Claims.{witness_of}
use Rattle.pb_report.specs.declared.claims.Claim.{Claim}
use Rattle.pb_report.specs.declared.claims.Claim.TheVariants.{Optimum, Satisfiable, Unsatisfiable, Unknown, Unsupported}
use Rattle.pb_parts.specs.declared.parts.Division.{Division}
use Rattle.pb_parts.specs.declared.parts.Heading.{Heading}
use Rattle.pb_parts.specs.declared.parts.PartReport.{PartReport}
use Rattle.pb_join.specs.Joining.{IsUnfit, IsWitness}
use Rattle.pb_join.specs.Pieces.{found_in}
use Rattle.pb_join.specs.declared.parts.faults.PartRejection.{PartRejection}
use Rattle.pb_join.specs.declared.parts.faults.PartRejection.TheVariants.{OtherInstance, NoPieces, OtherTasks, OtherDivision, Doubled, NotAPart, Unfit}
use Rattle.pb_join.specs.declared.parts.faults.PartsFault.{PartsFault}
use Rattle.pb_join.specs.declared.parts.faults.PartsFault.TheVariants.{Report, Memory, Write}
use Rattle.pb_join.specs.declared.parts.states.ReportState.{ReportState}
use Rattle.pb_join.specs.declared.parts.states.ReportState.TheVariants.{Missing, Cut, Ended}
use Rattle.pb_join.specs.declared.parts.states.TaskState.{TaskState}

-- ---- what a report says of the pieces

-- each piece that the report names as done is done by what it claims
abbrev pub PartHolds : Problem → List (List Literal) → PartReport → Type 0
PartHolds p cubes part = All (λ i. IsDone (record { problem = p; cubes = cubes }) i (found_in p part.claim)) part.heading.done.items

-- each report is of as many pieces as the cubes make, and holds of them
pub record ArePartsOf (p : Problem) (cubes : List (List Literal)) (parts : List PartReport) : Type 0 where
  pub count : All (λ part. length cubes + 1 ≡ part.heading.division.pieces) parts
  pub each : All (λ part. PartHolds p cubes part) parts

-- nothing, and what each of the reports has found
abbrev pub all_found_in_parts : Problem → List PartReport → List (Option Solution)
all_found_in_parts p parts = None ∷ map (λ part. found_in p part.claim) parts

-- ---- which reports are parts of one instance

-- how the first report says that the instance was divided
abbrev pub first_division : List PartReport → Option Division
first_division [] = None
first_division (part ∷ rest) = Some part.heading.division

-- the division is of this instance into some pieces and among `tasks` tasks, and is the first one, if there is a first
pub record IsSameDivision (digest : List ℕ) (tasks : ℕ) (first : Option Division) (division : Division) : Type 0 where
  pub same_instance : division.instance ≡ digest
  pub some_pieces : division.pieces ≢ 0
  pub same_tasks : division.tasks ≡ tasks
  pub same_division : IfSome first (λ d. d ≡ division)

-- a part can claim it: an assignment, or nothing
abbrev pub IsPartClaim : Claim → Type 0
IsPartClaim (Optimum w) = ⊥
IsPartClaim (Satisfiable w) = ⊤
IsPartClaim Unsatisfiable = ⊥
IsPartClaim Unknown = ⊤
IsPartClaim Unsupported = ⊥

-- Every report is of the same division of this instance among `tasks` tasks, no two are of the same task, each claims what can be
-- claimed of a part, and the instance accepts each assignment that they have.
pub record AreFitParts (p : Problem) (digest : List ℕ) (tasks : ℕ) (parts : List PartReport) : Type 0 where
  pub divisions : All (λ part. IsSameDivision digest tasks (first_division parts) part.heading.division) parts
  pub once : AllPairs (λ part other. part.heading.task ≢ other.heading.task) parts
  pub claims : All (λ part. IsPartClaim part.claim) parts
  pub witnesses : All (λ part. IfSome (witness_of part.claim) (λ w. IsWitness p w)) parts

-- ---- which pieces are named as done

-- each piece is named as done by some report; where no division tells the pieces, that is not so
abbrev pub AreAllNamed : Option Division → List PartReport → Type 0
AreAllNamed None parts = ⊥
AreAllNamed (Some division) parts = (i : ℕ) → i < division.pieces → Any (λ part. Contains part.heading.done.items i) parts

-- the piece is dealt to the task
abbrev pub IsDealtTo : Division → ℕ → ℕ → Type 0
IsDealtTo division task i = (i < division.pieces) × (i % division.tasks ≡ task)

-- each piece that the task is dealt is named as done by some report, whichever task it is of; where no division tells the pieces,
-- that is not so
abbrev pub IsFinished : Option Division → ℕ → List PartReport → Type 0
IsFinished None task parts = ⊥
IsFinished (Some division) task parts = (i : ℕ) → IsDealtTo division task i → Any (λ part. Contains part.heading.done.items i) parts

-- the numbers rise, and are those of the pieces that some report names as done
pub record AreNamed (parts : List PartReport) (named : List ℕ) : Type 0 where
  pub rising : IsStrictlyIncreasing named
  pub each : (i : ℕ) → Contains named i ↔ Any (λ part. Contains part.heading.done.items i) parts

-- the same as `AreAllNamed` and `IsFinished`, by these numbers
abbrev pub AreAllAmong : Option Division → List ℕ → Type 0
AreAllAmong None named = ⊥
AreAllAmong (Some division) named = (i : ℕ) → i < division.pieces → Contains named i

abbrev pub IsFinishedBy : Option Division → ℕ → List ℕ → Type 0
IsFinishedBy None task named = ⊥
IsFinishedBy (Some division) task named = (i : ℕ) → IsDealtTo division task i → Contains named i

-- ---- what became of each task

-- what a report tells
abbrev pub IsReportBy : Heading → ReportState → Type 0
IsReportBy heading Missing = ⊥
IsReportBy heading Cut = heading.cut.items ≢ []
IsReportBy heading Ended = heading.cut.items ≡ []

-- what the report of a task among these tells, if there is one
abbrev pub IsReportState : List PartReport → ℕ → ReportState → Type 0
IsReportState parts task Missing = All (λ part. part.heading.task ≢ task) parts
IsReportState parts task Cut = Any (λ part. (part.heading.task ≡ task) × IsReportBy part.heading Cut) parts
IsReportState parts task Ended = Any (λ part. (part.heading.task ≡ task) × IsReportBy part.heading Ended) parts

-- what the report of each of the tasks tells, in order
pub record AreReportStates (tasks : ℕ) (parts : List PartReport) (reports : List ReportState) : Type 0 where
  pub count : length reports ≡ tasks
  pub each : (task : ℕ) → task < tasks → IsReportState parts task (slice_index_or reports task Missing)

-- what became of a task by these reports
pub record IsTaskState (parts : List PartReport) (task : ℕ) (state : TaskState) : Type 0 where
  pub report : IsReportState parts task state.report
  pub finished : IsTrue state.finished ↔ IsFinished (first_division parts) task parts

-- what became of each of the tasks, in order
pub record AreTaskStates (tasks : ℕ) (parts : List PartReport) (states : List TaskState) : Type 0 where
  pub count : length states ≡ tasks
  pub each : (task : ℕ) (none : TaskState) → task < tasks → IsTaskState parts task (slice_index_or states task none)

-- the same, by what the reports tell and by the pieces that are named as done
pub record AreStatesBy (division : Option Division) (tasks : ℕ) (reports : List ReportState) (named : List ℕ) (states : List TaskState) : Type 0 where
  pub count : length states ≡ tasks
  pub told : (task : ℕ) (none : TaskState) → task < tasks → (slice_index_or states task none).report ≡ slice_index_or reports task Missing
  pub finished : (task : ℕ) (none : TaskState) → task < tasks → IsTrue (slice_index_or states task none).finished ↔ IsFinishedBy division task named

-- The reports are fit, what is held is the first that any of them found, and it is known how the instance was divided and what the
-- report of each task tells.
pub record AreGatheredParts (p : Problem) (digest : List ℕ) (tasks : ℕ) (parts : List PartReport) (division : Option Division) (held : Option Solution) (reports : List ReportState) : Type 0 where
  pub fit : AreFitParts p digest tasks parts
  pub first : IsFirst (all_found_in_parts p parts) held
  pub divided : division ≡ first_division parts
  pub became : AreReportStates tasks parts reports

-- ---- what is rejected

-- the division is another one, for this
abbrev pub IsOtherDivision : List ℕ → ℕ → Option Division → Division → PartRejection → Type 0
IsOtherDivision digest tasks first division OtherInstance = division.instance ≢ digest
IsOtherDivision digest tasks first division NoPieces = division.pieces ≡ 0
IsOtherDivision digest tasks first division OtherTasks = division.tasks ≢ tasks
IsOtherDivision digest tasks first division OtherDivision = IsSomeAnd first (λ d. d ≢ division)
IsOtherDivision digest tasks first division Doubled = ⊥
IsOtherDivision digest tasks first division NotAPart = ⊥
IsOtherDivision digest tasks first division (Unfit why) = ⊥

-- a report after these is rejected for this
abbrev pub IsPartRejected : Problem → List ℕ → ℕ → List PartReport → PartReport → PartRejection → Type 0
IsPartRejected p digest tasks earlier part OtherInstance = IsOtherDivision digest tasks (first_division earlier) part.heading.division OtherInstance
IsPartRejected p digest tasks earlier part NoPieces = IsOtherDivision digest tasks (first_division earlier) part.heading.division NoPieces
IsPartRejected p digest tasks earlier part OtherTasks = IsOtherDivision digest tasks (first_division earlier) part.heading.division OtherTasks
IsPartRejected p digest tasks earlier part OtherDivision = IsOtherDivision digest tasks (first_division earlier) part.heading.division OtherDivision
IsPartRejected p digest tasks earlier part Doubled = Any (λ r. r.heading.task ≡ part.heading.task) earlier
IsPartRejected p digest tasks earlier part NotAPart = ¬ IsPartClaim part.claim
IsPartRejected p digest tasks earlier part (Unfit why) = IsSomeAnd (witness_of part.claim) (λ w. IsUnfit p w why)

-- memory was refused, or the report could not be written, or the report at this place is rejected
abbrev pub IsPartsFault : Problem → List ℕ → ℕ → List PartReport → PartsFault → Type 0
IsPartsFault p digest tasks parts Memory = ⊤
IsPartsFault p digest tasks parts Write = ⊤
IsPartsFault p digest tasks parts (Report place why) = (part : PartReport) × (place < length parts) × (slice_index_or parts place part ≡ part) × IsPartRejected p digest tasks (take place parts) part why
