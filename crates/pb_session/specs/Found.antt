-- What a search found.
use Rattle.std.specs.Prelude.{Bool, true, false, Option, is_some}
use Rattle.pb_inst.specs.Incumbent.{Solution}
use Rattle.pb_inst.specs.Problem.{Problem}
use Rattle.pb_session.specs.declared.found.Found.{Found}
use Rattle.pb_report.specs.declared.statuses.Status.{Status}
use Rattle.pb_report.specs.declared.statuses.Status.TheVariants.{Satisfiable, Unsatisfiable, Optimum, Unknown}

abbrev pub solution : Found → Solution
solution f = record { cost = f.cost; assignment = f.values }

-- how a search ends that found something, or nothing: of a whole search, with an objective or without
abbrev pub whole_status : (has_objective found : Bool) → Status
whole_status true true = Optimum
whole_status false true = Satisfiable
whole_status has_objective false = Unsatisfiable

-- and of one that was cut
abbrev pub cut_status : (found : Bool) → Status
cut_status true = Satisfiable
cut_status false = Unknown

-- the status of a search of the problem that was cut or not, and found this or nothing
abbrev pub status_of : Problem → (cut : Bool) → Option Solution → Status
status_of p false found = whole_status (is_some p.objective) (is_some found)
status_of p true found = cut_status (is_some found)
