-- Literals that may be assumed.
use Rattle.std.specs.Prelude.{◌≡◌, ◌≤◌, false, None}
use Rattle.pb_inst.specs.Literal.{Literal}
use Rattle.pb_trail.specs.Trail.{value_on}
use Rattle.pb_trail.specs.EngineState.{EngineState}

-- the literal may be assumed
pub record IsFree (s : EngineState) (l : Literal) : Type 0 where
  pub variable : l.var ≤ s.vars
  pub no_value : value_on s.trail l.var ≡ None
  pub no_conflict : s.conflict ≡ false
