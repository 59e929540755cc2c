use Rattle.std.proofs.Common.{◌≡◌, ◌≤◌, ◌+◌, length}
use Rattle.pb_engine.specs.EngineState.{EngineState}
use Rattle.pb_engine.specs.Soundness.{IsSoundTrail}
use Rattle.pb_engine.specs.Free.{IsFree}
use Rattle.pb_control.specs.Budget.{with_more}
use Rattle.pb_dive.specs.Dives.{LeadsBack}
use Rattle.pb_dive.proofs.dive.descend.Given as goal

abbrev pub invariant-loop-made : goal.invariant-loop-made
invariant-loop-made g l = record {
  back : (start : EngineState) → length start.levels ≡ l.fn.floor → LeadsBack start l.fn.engine → LeadsBack start l.engine;
  sound : IsSoundTrail l.engine;
  free : IsFree l.engine l.branch.lit;
  same_variables : l.engine.vars ≡ l.fn.engine.vars;
  counted : l.fn.left ≡ with_more l.made l.left;
  assumed : length l.engine.levels ≤ length l.fn.engine.levels + l.made;
}
