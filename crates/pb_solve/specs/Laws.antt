-- What the outcome of a run depends on.
use Rattle.std.specs.Prelude.{◌≡◌, ℕ, Bool, true, false, List, Option, None}
use Rattle.pb_read.specs.declared.format.Format.{Format}
use Rattle.pb_report.specs.declared.ends.Refusal.TheVariants.{Input, Cubes, Split, TooManyCubes}
use Rattle.pb_solve.specs.Outcome.{Outcome, Refused, Infeasible, Feasible, Optimal, IsOutcome}

-- the cubes or the split were refused
abbrev pub refuses_division : Outcome → Bool
refuses_division (Refused (Input fault)) = false
refuses_division (Refused (Cubes fault)) = true
refuses_division (Refused Split) = true
refuses_division (Refused TooManyCubes) = true
refuses_division Infeasible = false
refuses_division (Feasible values) = false
refuses_division (Optimal cost values) = false

-- a text, a cube file and a split have no two outcomes
abbrev pub OneOutcome : Type 0
OneOutcome = (format : Format) (text : List ℕ) (cube_text : Option (List ℕ)) (split : ℕ) (first second : Outcome)
    → IsOutcome format text cube_text split first → IsOutcome format text cube_text split second → first ≡ second

-- where the cubes and the split are accepted, the outcome is the one without a cube file and without a split
abbrev pub DivisionChangesNothing : Type 0
DivisionChangesNothing = (format : Format) (text : List ℕ) (cube_text : Option (List ℕ)) (split : ℕ) (outcome : Outcome)
    → IsOutcome format text cube_text split outcome → refuses_division outcome ≡ false → IsOutcome format text None 0 outcome

-- two cube files and splits that are accepted with a text give the same outcome
abbrev pub OutcomeIsOfTextAlone : Type 0
OutcomeIsOfTextAlone = (format : Format) (text : List ℕ) (cubes cubes' : Option (List ℕ)) (split split' : ℕ) (first second : Outcome)
    → IsOutcome format text cubes split first → refuses_division first ≡ false
    → IsOutcome format text cubes' split' second → refuses_division second ≡ false
    → first ≡ second
