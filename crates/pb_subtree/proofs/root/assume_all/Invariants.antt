use Rattle.std.proofs.Common.{◌≡◌, List, Bool, false, take, ◌↔◌}
use Rattle.pb_inst.specs.Cubes.{MakesTrue}
use Rattle.pb_engine.specs.Soundness.{assumptions, IsSoundTrail}
use Rattle.pb_prune.specs.Solutions.{SameConstraints, Satisfies}
use Rattle.pb_subtree.proofs.root.assume_all.Given as goal

abbrev pub invariant-loop-lit : goal.invariant-loop-lit
invariant-loop-lit g l = record {
  constraints : SameConstraints l.initial.engine l.engine;
  sound : IsSoundTrail l.engine;
  no_conflict : l.engine.conflict ≡ false;
  assumed : (a : List Bool) → Satisfies l.initial.engine a → MakesTrue a (assumptions l.engine) ↔ (MakesTrue a (assumptions l.initial.engine) × MakesTrue a (take l.lit-index l.literals));
}
