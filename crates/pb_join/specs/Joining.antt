-- What reports of pieces make together.
use Rattle.std.specs.Prelude.{◌≡◌, ◌≢◌, ℕ, ◌<◌, ◌≤◌, Bool, true, false, List, ◌∷◌, length, map, take, slice_index_or, All, AllPairs, Any, Option, None, is_some, IsSomeAnd, ⊤}
use Rattle.std.specs.Option.{IfSome}
use Rattle.std.specs.Io.KnownBytes.{Appends}
use Rattle.pb_inst.specs.Problem.{Problem}
use Rattle.pb_inst.specs.Meaning.{IsFeasible, cost}
use Rattle.pb_inst.specs.Incumbent.{Solution, IsSolution}
use Rattle.pb_read.specs.declared.format.Format.{Format}
use Rattle.pb_report.specs.declared.statuses.Status.{Status}
use Rattle.pb_cubes.specs.First.{IsFirst}
use Rattle.pb_report.specs.Outcome.{report, status_of}
use Rattle.pb_report.specs.Found.{found_of, found_report, found_status}
use Rattle.pb_report.specs.Claims.{witness_of, is_final}
use Rattle.pb_join.specs.Pieces.{found_in, outcome_of}
use Rattle.pb_report.specs.declared.claims.Witness.{Witness}
use Rattle.pb_join.specs.declared.reports.PieceReport.{PieceReport}
use Rattle.pb_join.specs.declared.faults.Rejection.{Rejection}
use Rattle.pb_join.specs.declared.faults.Rejection.TheVariants.{NoSuchPiece, Doubled, OtherVariables, Infeasible, WrongCost}
use Rattle.pb_join.specs.declared.faults.JoinFault.{JoinFault}
use Rattle.pb_join.specs.declared.faults.JoinFault.TheVariants.{Report, Memory, Write}
use Rattle.pb_join.specs.declared.states.PieceState.{PieceState}
use Rattle.pb_join.specs.declared.states.PieceState.TheVariants.{Missing, Cut, Done}

-- the assignment is to the instance's variables, it is feasible, and a cost that is told is its own
pub record IsWitness (p : Problem) (w : Witness) : Type 0 where
  pub for_all_variables : length w.values ≡ p.vars
  pub feasible : IsFeasible p w.values
  pub cost_is : IfSome w.cost (λ z. z ≡ cost p w.values)

-- Every report is of one of `pieces` pieces, no two are of the same, and the instance accepts each assignment that they have.
pub record AreFit (p : Problem) (pieces : ℕ) (reports : List PieceReport) : Type 0 where
  pub numbers : All (λ r. r.number < pieces) reports
  pub once : AllPairs (λ r s. r.number ≢ s.number) reports
  pub witnesses : All (λ r. IfSome (witness_of r.claim) (λ w. IsWitness p w)) reports

-- some report is of the piece, and it claims to be the answer, or it does not
abbrev pub IsReported : Problem → List PieceReport → ℕ → Bool → Type 0
IsReported p reports i final = Any (λ r. (r.number ≡ i) × (is_final (is_some p.objective) r.claim ≡ final)) reports

-- what became of piece i
abbrev pub IsStateOf : Problem → List PieceReport → ℕ → PieceState → Type 0
IsStateOf p reports i Missing = All (λ r. r.number ≢ i) reports
IsStateOf p reports i Cut = IsReported p reports i false
IsStateOf p reports i Done = IsReported p reports i true

-- what became of each of the pieces, in order
pub record AreStates (p : Problem) (pieces : ℕ) (reports : List PieceReport) (states : List PieceState) : Type 0 where
  pub count : length states ≡ pieces
  pub each : (i : ℕ) → i < pieces → IsStateOf p reports i (slice_index_or states i Missing)

-- nothing, and what each of the reports has found
abbrev pub all_found : Problem → List PieceReport → List (Option Solution)
all_found p reports = None ∷ map (λ r. found_in p r.claim) reports

-- The reports are fit, what is held is the first that any of them found, and what became of each piece is known.
pub record AreGathered (p : Problem) (pieces : ℕ) (reports : List PieceReport) (held : Option Solution) (states : List PieceState) : Type 0 where
  pub fit : AreFit p pieces reports
  pub first : IsFirst (all_found p reports) held
  pub became : AreStates p pieces reports states

-- the instance does not accept the assignment, for this
abbrev pub IsUnfit : Problem → Witness → Rejection → Type 0
IsUnfit p w NoSuchPiece = ⊥
IsUnfit p w Doubled = ⊥
IsUnfit p w OtherVariables = length w.values ≢ p.vars
IsUnfit p w Infeasible = ¬ IsFeasible p w.values
IsUnfit p w WrongCost = IsSomeAnd w.cost (λ z. z ≢ cost p w.values)

-- a report after these is rejected for this
abbrev pub IsRejected : Problem → ℕ → List PieceReport → PieceReport → Rejection → Type 0
IsRejected p pieces earlier report NoSuchPiece = pieces ≤ report.number
IsRejected p pieces earlier report Doubled = Any (λ r. r.number ≡ report.number) earlier
IsRejected p pieces earlier report OtherVariables = IsSomeAnd (witness_of report.claim) (λ w. IsUnfit p w OtherVariables)
IsRejected p pieces earlier report Infeasible = IsSomeAnd (witness_of report.claim) (λ w. IsUnfit p w Infeasible)
IsRejected p pieces earlier report WrongCost = IsSomeAnd (witness_of report.claim) (λ w. IsUnfit p w WrongCost)

-- memory was refused, or the report could not be written, or the report at this place is rejected
abbrev pub IsJoinFault : Problem → ℕ → List PieceReport → JoinFault → Type 0
IsJoinFault p pieces reports Memory = ⊤
IsJoinFault p pieces reports Write = ⊤
IsJoinFault p pieces reports (Report place why) = (report : PieceReport) × (place < length reports) × (slice_index_or reports place report ≡ report) × IsRejected p pieces (take place reports) report why

-- the report of what is held: as the answer, or as what was found
abbrev pub joined_report : Format → Problem → Bool → Option Solution → List ℕ
joined_report format p true held = report format (outcome_of p held)
joined_report format p false held = found_report format (found_of p held)

abbrev pub joined_status : Problem → Bool → Option Solution → Status
joined_status p true held = status_of (outcome_of p held)
joined_status p false held = found_status (found_of p held)

-- All that was written is the report of the first of what was found, which is feasible and has its own cost: as the answer, or as
-- what was found.
pub record TellsFirstOf (format : Format) (p : Problem) (found : List (Option Solution)) (whole : Bool) (old new : Option (List ℕ)) (ended : Status) : Type 0 where
  pub held : Option Solution
  pub solution : IfSome held (λ s. IsSolution p s)
  pub first : IsFirst found held
  pub writes : Appends old new (joined_report format p whole held)
  pub ends : ended ≡ joined_status p whole held

-- the same, of the first assignment that any report has
abbrev pub TellsFirst : Format → Problem → List PieceReport → Bool → Option (List ℕ) → Option (List ℕ) → Status → Type 0
TellsFirst format p reports whole old new ended = TellsFirstOf format p (all_found p reports) whole old new ended
