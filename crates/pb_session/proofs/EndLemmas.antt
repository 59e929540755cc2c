-- How a search of a session ends.
use Rattle.std.proofs.Common.{◌≡◌, Bool, true, false, Option, None, Some, refl, subst}
use Rattle.std.specs.Option.{is_some, option_map}
use Rattle.pb_inst.specs.Incumbent.{Solution}
use Rattle.pb_inst.specs.Problem.{Problem}
use Rattle.pb_report.specs.declared.statuses.Status.{Status}
use Rattle.pb_session.specs.declared.found.Found.{Found}
use Rattle.pb_session.specs.Found.{solution, status_of, whole_status, cut_status}

-- something is told exactly where something was found
pub found_told : (found : Option Found) → is_some found ≡ is_some (option_map solution found)
found_told None = refl
found_told (Some f) = refl

-- the end of a search is that of what it was asked about and of what it found
pub status_is : (p : Problem) (cut has_objective is_found : Bool) (found : Option Solution) (status : Status) → has_objective ≡ is_some p.objective → is_found ≡ is_some found → (cut ≡ false → status ≡ whole_status has_objective is_found) → (cut ≡ true → status ≡ cut_status is_found) → status ≡ status_of p cut found
status_is p false has_objective is_found found status objective held whole cut =
    subst (λ (x : Bool). status ≡ whole_status x (is_some found)) objective (subst (λ (y : Bool). status ≡ whole_status has_objective y) held (whole refl))
status_is p true has_objective is_found found status objective held whole cut =
    subst (λ (y : Bool). status ≡ cut_status y) held (cut refl)
