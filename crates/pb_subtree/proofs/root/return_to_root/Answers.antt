use Rattle.std.proofs.Common.{◌≡◌, ◌∙◌, [], false, take}
use Rattle.pb_engine.specs.EngineState.{trail_before, is_conflict}
use Rattle.pb_engine.specs.Soundness.{assumptions}
use Rattle.pb_prune.specs.Solutions.{SameConstraints}
use Rattle.pb_subtree.proofs.Engines.{same_constraints, same_constraints_onward, propagated, undone_all}
use Rattle.pb_subtree.proofs.RootLemmas.{refuted_at_root}
use Rattle.pb_subtree.proofs.root.return_to_root.Goals as goal

pub returns-clause-conflict : goal.returns-clause-conflict
returns-clause-conflict g c is a =
    let back : SameConstraints c.args.engine.now c.undo_to.new.self = same_constraints c.args.engine.now c.undo_to.new.self (trail_before c.args.engine.now 0) (take 0 c.args.engine.now.levels) false c.undo_to.ensures.undone in
    let on : SameConstraints c.undo_to.new.self c.propagate.new.self = same_constraints c.undo_to.new.self c.propagate.new.self c.propagate.new.self.trail c.undo_to.new.self.levels (is_conflict c.propagate.result) c.propagate.ensures.added in
    let root : assumptions c.propagate.new.self ≡ [] = propagated c.undo_to.new.self c.propagate.new.self c.propagate.new.self.trail (is_conflict c.propagate.result) c.undo_to.ensures.sound c.propagate.ensures.added c.propagate.ensures.forced ∙ undone_all c.args.engine.now c.undo_to.new.self c.undo_to.ensures.undone in
    refuted_at_root c.args.engine.now c.propagate.new.self a (same_constraints_onward c.args.engine.now c.undo_to.new.self c.propagate.new.self back on) c.propagate.ensures.sound root (rw on.rows (c.propagate.ensures.no_completion is))
