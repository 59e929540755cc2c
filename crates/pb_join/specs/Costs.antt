-- Answers that have the least cost, whichever of the assignments of that cost they have.
use Rattle.std.specs.Prelude.{◌≡◌, ◌↔◌, ℕ, ◌+◌, ◌≤ℤ◌, true, List, length, Bool, All, Option, None, IsSome, is_some}
use Rattle.std.specs.Io.KnownBytes.{Appends}
use Rattle.pb_inst.specs.Literal.{Literal}
use Rattle.pb_inst.specs.Problem.{Problem}
use Rattle.pb_inst.specs.Meaning.{IsFeasible, cost}
use Rattle.pb_read.specs.declared.format.Format.{Format}
use Rattle.pb_report.specs.Claims.{is_final}
use Rattle.pb_report.specs.declared.statuses.Status.{Status}
use Rattle.pb_report.specs.declared.statuses.Status.TheVariants.{Unsatisfiable}
use Rattle.pb_cubes.specs.Solving.{IsInfeasible}
use Rattle.pb_report.specs.Outcome.{Outcome, Refused, Infeasible, Feasible, Optimal, report, status_of}
use Rattle.pb_join.specs.declared.reports.PieceReport.{PieceReport}
use Rattle.pb_join.specs.Pieces.{IsPieceInstance, found_in, outcome_of}

-- a is an assignment to the instance's variables, is feasible, and no feasible assignment costs less
pub record IsOptimum (p : Problem) (a : List Bool) : Type 0 where
  pub for_all_variables : length a ≡ p.vars
  pub feasible : IsFeasible p a
  pub none_cheaper : (b : List Bool) → length b ≡ p.vars → IsFeasible p b → cost p a ≤ℤ cost p b

-- the answer on an instance, but that its assignment may be any of the least cost
abbrev pub IsLeastCost : Problem → Outcome → Type 0
IsLeastCost p (Refused refusal) = ⊥
IsLeastCost p Infeasible = IsInfeasible p
IsLeastCost p (Feasible a) = (p.objective ≡ None) × IsOptimum p a
IsLeastCost p (Optimal z a) = IsSome p.objective × IsOptimum p a × (z ≡ cost p a)

-- where the report claims to be the answer, it has the least cost of the instance of its piece, or says rightly that nothing is
-- feasible there
abbrev pub IsLeastOfPiece : Problem → List (List Literal) → PieceReport → Type 0
IsLeastOfPiece p cubes report = is_final (is_some p.objective) report.claim ≡ true
    → (q : Problem) × IsPieceInstance p cubes report.number q × IsLeastCost q (outcome_of p (found_in p report.claim))

-- there are `pieces` pieces by the cubes, and each report that claims to be the answer on its piece has the least cost there
pub record AreLeastOfPieces (p : Problem) (pieces : ℕ) (reports : List PieceReport) (cubes : List (List Literal)) : Type 0 where
  pub count : length cubes + 1 ≡ pieces
  pub each : All (λ report. IsLeastOfPiece p cubes report) reports

-- All that was written is the report of an outcome that has the least cost of the instance, and says that nothing is feasible
-- exactly where nothing is.
pub record AnswersLeastCost (format : Format) (p : Problem) (old new : Option (List ℕ)) (ended : Status) : Type 0 where
  pub outcome : Outcome
  pub ends : ended ≡ status_of outcome
  pub writes : Appends old new (report format outcome)
  pub right : IsLeastCost p outcome
  pub unsatisfiable : (ended ≡ Unsatisfiable) ↔ IsInfeasible p
