-- What an assumption and what propagation does to an engine.
use Rattle.std.specs.Prelude.{◌≡◌, ℕ, ◌<◌, ◌≤◌, All, length, [], ◌∷◌, ◌++◌}
use Rattle.pb_inst.specs.Literal.{Literal}
use Rattle.pb_trail.specs.declared.propagation.Step.{Step}
use Rattle.pb_trail.specs.declared.propagation.Step.TheVariants.{Fixed, Conflict}
use Rattle.pb_trail.specs.Completion.{HasNoCompletion, IsSettled}
use Rattle.pb_trail.specs.Propagation.{AddsForced, IsSettledFrom}
use Rattle.pb_trail.specs.Tracked.{TrailState, IsUpToDate}
use Rattle.pb_trail.specs.Trail.{reachable}
use Rattle.pb_rows.specs.Constraints.{Constraints, row_at}
use Rattle.pb_trail.specs.EngineState.{EngineState, is_conflict, HasNegativeSlack}
use Rattle.pb_trail.specs.Soundness.{IsFull, IsSolved, IsSoundTrail}

-- the literal joins the trail as an assumption
pub record Assumes (old : EngineState) (lit : Literal) (new : EngineState) (step : Step) : Type 0 where
  pub assumed : new ≡ record old { trail = old.trail ++ lit ∷ []; levels = old.levels ++ length old.trail ∷ []; conflict = is_conflict step }
  pub conflict : step ≡ Conflict → HasNegativeSlack old.rows new.trail
  pub fixed : step ≡ Fixed
  pub sound : IsSoundTrail new

-- forced literals join the trail until every row is settled, or some row can't be met
pub record Propagates (old new : EngineState) (step : Step) : Type 0 where
  pub added : new ≡ record old { trail = new.trail; conflict = is_conflict step }
  pub forced : AddsForced old.rows old.trail new.trail
  pub fixed : step ≡ Fixed → All (λ row. IsSettled new.trail row) old.rows
  pub solved : step ≡ Fixed → IsFull new → IsSolved new
  pub conflict : step ≡ Conflict → HasNegativeSlack old.rows new.trail
  pub no_completion : step ≡ Conflict → HasNoCompletion old.rows new.trail
  pub sound : IsSoundTrail new

-- what one row forces joins the trail, or that row can't be met
pub record PropagatesRow (c : Constraints) (row : ℕ) (old new : TrailState) (step : Step) : Type 0 where
  pub up_to_date : IsUpToDate c new
  pub forced : AddsForced c.rows old.lits new.lits
  pub settled : step ≡ Fixed → (head : ℕ) → head ≤ length old.lits → IsSettledFrom head new.lits (row_at c.rows row)
  pub broken : step ≡ Conflict → reachable new.lits (row_at c.rows row).terms < (row_at c.rows row).degree
