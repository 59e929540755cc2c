-- What a dive takes off a budget of decisions.
use Rattle.std.specs.Prelude.{◌≡◌, ℕ, ◌+◌, ◌≤◌, Option, length}
use Rattle.pb_control.specs.Budget.{with_more}
use Rattle.pb_engine.specs.EngineState.{EngineState}

-- at least as many decisions were taken off a budget, if there is one, as assumptions were added since the start
pub record IsDescentPaid (start now : EngineState) (budget left : Option ℕ) : Type 0 where
  pub decisions : ℕ
  pub counted : budget ≡ with_more decisions left
  pub assumed : length now.levels ≤ length start.levels + decisions
