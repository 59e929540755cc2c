-- A dive, and the way back from it.
use Rattle.std.specs.Prelude.{◌≡◌, ℕ, ◌≤◌, false, length, take}
use Rattle.pb_engine.specs.EngineState.{EngineState, trail_before}
use Rattle.pb_engine.specs.Free.{IsFree}
use Rattle.pb_engine.specs.Soundness.{IsFull, IsSolved, IsSoundTrail}
use Rattle.pb_dive.specs.declared.dive.Progress.{Progress}
use Rattle.pb_dive.specs.declared.dive.Progress.TheVariants.{Next, Full, Stuck}

-- taking back what was assumed since the start, and what was added with it, gives the start again
pub record LeadsBack (start now : EngineState) : Type 0 where
  pub form : now.form ≡ start.form
  pub vars : now.vars ≡ start.vars
  pub rows : now.rows ≡ start.rows
  pub trail : trail_before now (length start.levels) ≡ start.trail
  pub levels : take (length start.levels) now.levels ≡ start.levels
  pub start_has_no_conflict : start.conflict ≡ false

-- decisions above the floor were taken back, if any: each start there is still led back to
pub record IsTakenBackTo (floor : ℕ) (old new : EngineState) : Type 0 where
  pub back : (start : EngineState) → length start.levels ≡ floor → LeadsBack start old → LeadsBack start new
  pub sound : IsSoundTrail new
  pub same_variables : new.vars ≡ old.vars
  pub no_deeper : length new.levels ≤ length old.levels

-- the next decision may be made, or the trail is full and meets all constraints
abbrev pub IsGoingOn : EngineState → Progress → Type 0
IsGoingOn s (Next b) = IsFree s b.lit
IsGoingOn s Full = IsFull s × IsSolved s
IsGoingOn s Stuck = Unit {0}
