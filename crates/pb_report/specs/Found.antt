-- What is reported where not all of the work was done. It tells what was found, and never that this is all there is.
use Rattle.std.specs.Prelude.{◌≡◌, ℕ, ℤ, Bool, if◌then◌else◌, List, length, Option, None, Some, is_some, IsSome, ⊤}
use Rattle.std.specs.Io.KnownBytes.{Appends}
use Rattle.pb_inst.specs.Problem.{Problem}
use Rattle.pb_inst.specs.Meaning.{IsFeasible, cost}
use Rattle.pb_inst.specs.Incumbent.{Solution}
use Rattle.pb_read.specs.declared.format.Format.{Format}
use Rattle.pb_report.specs.declared.statuses.Status.{Status}
use Rattle.pb_report.specs.declared.statuses.Status.TheVariants.{Satisfiable, Unknown}
use Rattle.pb_report.specs.Written.{unknown_report, satisfiable_report, attained_report}

-- no assignment was found, or this one, with its cost where there is an objective
pub data Found : Type 0 where
  Nothing : Found
  Feasible : List Bool → Found
  Costing : ℤ → List Bool → Found

-- what was found meets every constraint of the instance, and the cost is its own
abbrev pub IsFound : Problem → Found → Type 0
IsFound p Nothing = ⊤
IsFound p (Feasible a) = (p.objective ≡ None) × (length a ≡ p.vars) × IsFeasible p a
IsFound p (Costing z a) = IsSome p.objective × (length a ≡ p.vars) × IsFeasible p a × (z ≡ cost p a)

-- what is held, as what was found
abbrev pub found_of : Problem → Option Solution → Found
found_of p None = Nothing
found_of p (Some s) = if is_some p.objective then Costing s.cost s.assignment else Feasible s.assignment

-- the bytes that report what was found
abbrev pub found_report : Format → Found → List ℕ
found_report format Nothing = unknown_report
found_report format (Feasible values) = satisfiable_report format values
found_report format (Costing cost values) = attained_report format cost values

abbrev pub found_status : Found → Status
found_status Nothing = Unknown
found_status (Feasible values) = Satisfiable
found_status (Costing cost values) = Satisfiable

-- a run that was cut ended with this status, and all that it wrote is the report of what is held, as what was found
pub record AnswersHeld (format : Format) (p : Problem) (held : Option Solution) (old new : Option (List ℕ)) (ended : Status) : Type 0 where
  pub ends : ended ≡ found_status (found_of p held)
  pub writes : Appends old new (found_report format (found_of p held))
  pub right : IsFound p (found_of p held)
