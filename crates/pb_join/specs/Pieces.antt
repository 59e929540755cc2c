-- Reports that are those of an instance's pieces.
use Rattle.std.specs.Prelude.{◌≡◌, ◌↔◌, ℕ, ◌+◌, Bool, true, if◌then◌else◌, List, length, All, Option, None, Some, is_some}
use Rattle.std.specs.Option.{option_map}
use Rattle.pb_inst.specs.Literal.{Literal}
use Rattle.pb_inst.specs.Problem.{Problem}
use Rattle.pb_inst.specs.Meaning.{IsFeasible}
use Rattle.pb_inst.specs.Incumbent.{Solution, solution_of}
use Rattle.pb_cubes.specs.Pieces.{LiesIn}
use Rattle.pb_report.specs.Outcome.{Outcome, Infeasible, Feasible, Optimal, IsAnswer}
use Rattle.pb_report.specs.declared.claims.Claim.{Claim}
use Rattle.pb_report.specs.Claims.{is_final, witness_of}
use Rattle.pb_join.specs.declared.reports.PieceReport.{PieceReport}

-- q is the instance of piece i: it has the variables and the objective of p, and in it those assignments are feasible that
-- are so in p and lie in the piece, whatever constraints say so
pub record IsPieceInstance (p : Problem) (cubes : List (List Literal)) (i : ℕ) (q : Problem) : Type 0 where
  pub vars : q.vars ≡ p.vars
  pub objective : q.objective ≡ p.objective
  pub feasible : (a : List Bool) → length a ≡ p.vars → IsFeasible q a ↔ (IsFeasible p a × LiesIn cubes i a)

-- the assignment that is claimed, with the cost that the instance gives it
abbrev pub found_in : Problem → Claim → Option Solution
found_in p claim = option_map (λ w. solution_of p w.values) (witness_of claim)

-- the outcome that tells what is held as the answer
abbrev pub outcome_of : Problem → Option Solution → Outcome
outcome_of p None = Infeasible
outcome_of p (Some s) = if is_some p.objective then Optimal s.cost s.assignment else Feasible s.assignment

-- where the report claims to be the answer, it is the answer on the instance of its piece
abbrev pub IsOfPiece : Problem → List (List Literal) → PieceReport → Type 0
IsOfPiece p cubes report = is_final (is_some p.objective) report.claim ≡ true
    → (q : Problem) × IsPieceInstance p cubes report.number q × IsAnswer q (outcome_of p (found_in p report.claim))

-- there are `pieces` pieces by the cubes, and each report that claims to be the answer on its piece is
pub record AreOfPieces (p : Problem) (pieces : ℕ) (reports : List PieceReport) (cubes : List (List Literal)) : Type 0 where
  pub count : length cubes + 1 ≡ pieces
  pub each : All (λ report. IsOfPiece p cubes report) reports
