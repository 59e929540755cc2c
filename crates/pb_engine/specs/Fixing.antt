-- Literals that a cost limit forces, and bounds of what completions cost.
use Rattle.std.specs.Prelude.{◌≡◌, ◌≤◌, Bool, List, None, ℤ, ◌≤ℤ◌}
use Rattle.pb_inst.specs.Literal.{Literal}
use Rattle.pb_inst.specs.Meaning.{literal_value}
use Rattle.pb_normal.specs.NormalForm.{normal_cost}
use Rattle.pb_trail.specs.Trail.{value_on}
use Rattle.pb_trail.specs.Completion.{IsCompletion}
use Rattle.pb_trail.specs.EngineState.{EngineState}

-- at most the cost of every completion of the trail
abbrev pub IsBelowCompletions : EngineState → ℤ → Type 0
IsBelowCompletions e bound = (a : List Bool) → IsCompletion e.rows e.trail a → bound ≤ℤ normal_cost e.form a

-- the literal has no value, and every completion of the trail that costs no more than the limit makes it true
pub record IsForcedWithin (e : EngineState) (limit : ℤ) (l : Literal) : Type 0 where
  pub variable : l.var ≤ e.vars
  pub no_value : value_on e.trail l.var ≡ None
  pub forced : (a : List Bool) → IsCompletion e.rows e.trail a → normal_cost e.form a ≤ℤ limit → literal_value a l ≡ 1
