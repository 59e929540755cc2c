-- What is reported of an instance as its outcome, the bytes of that report, and the status that goes with it.
use Rattle.std.specs.Prelude.{◌≡◌, ℕ, ℤ, Bool, List, Option, None, IsSome}
use Rattle.std.specs.Io.KnownBytes.{Appends}
use Rattle.pb_inst.specs.Problem.{Problem}
use Rattle.pb_inst.specs.Meaning.{cost}
use Rattle.pb_inst.specs.Order.{IsLeast}
use Rattle.pb_cubes.specs.Solving.{IsInfeasible}
use Rattle.pb_read.specs.declared.format.Format.{Format}
use Rattle.pb_report.specs.declared.ends.Refusal.{Refusal}
use Rattle.pb_report.specs.declared.statuses.Status.{Status}
use Rattle.pb_report.specs.declared.statuses.Status.TheVariants.{Satisfiable, Unsatisfiable, Optimum, Unsupported}
use Rattle.pb_report.specs.Written.{refusal_report, infeasible_report, satisfiable_report, optimum_report}

-- a refusal, or the answer: nothing is feasible, or this assignment is least, with its cost where there is an objective
pub data Outcome : Type 0 where
  Refused : Refusal → Outcome
  Infeasible : Outcome
  Feasible : List Bool → Outcome
  Optimal : ℤ → List Bool → Outcome

-- the answer on an instance
abbrev pub IsAnswer : Problem → Outcome → Type 0
IsAnswer p (Refused refusal) = ⊥
IsAnswer p Infeasible = IsInfeasible p
IsAnswer p (Feasible a) = (p.objective ≡ None) × IsLeast p a
IsAnswer p (Optimal z a) = IsSome p.objective × IsLeast p a × (z ≡ cost p a)

-- the bytes of a report
abbrev pub report : Format → Outcome → List ℕ
report format (Refused refusal) = refusal_report refusal
report format Infeasible = infeasible_report
report format (Feasible values) = satisfiable_report format values
report format (Optimal cost values) = optimum_report format cost values

abbrev pub status_of : Outcome → Status
status_of (Refused refusal) = Unsupported
status_of Infeasible = Unsatisfiable
status_of (Feasible values) = Satisfiable
status_of (Optimal cost values) = Optimum

-- a run ended with this status, and all that it wrote is the report of the answer on the instance
pub record Answers (format : Format) (p : Problem) (old new : Option (List ℕ)) (ended : Status) : Type 0 where
  pub outcome : Outcome
  pub ends : ended ≡ status_of outcome
  pub writes : Appends old new (report format outcome)
  pub right : IsAnswer p outcome
