use Rattle.std.proofs.Common.{ap, length}
use Rattle.std.specs.Prelude.{slice_index_or, ◌-◌}
use Rattle.pb_engine.specs.EngineState.{EngineState}
use Rattle.pb_subtree.proofs.Moves.{popped_back}
use Rattle.pb_subtree.proofs.backtrack.undo_decision.Goals as goal

pub returns-clause-free : goal.returns-clause-free
returns-clause-free g c =
    (popped_back c.requires.at_path.root c.args.engine.now c.undo_to.new.self c.args.path.now.items c.pop.new.self.items c.in_ok-branch.branch c.level-level.result c.in_ok-branch.ensures.items c.level-level.ensures.count c.undo_to.ensures.undone c.undo_to.ensures.sound c.requires.at_path.at).free

pub returns-clause-at_path : goal.returns-clause-at_path
returns-clause-at_path g c root at =
    (popped_back root c.args.engine.now c.undo_to.new.self c.args.path.now.items c.pop.new.self.items c.in_ok-branch.branch c.level-level.result c.in_ok-branch.ensures.items c.level-level.ensures.count c.undo_to.ensures.undone c.undo_to.ensures.sound at).at

pub returns-clause-known : goal.returns-clause-known
returns-clause-known g c =
    c.cut.ensures.known (slice_index_or c.args.engine.now.levels (c.level-level.result - 1) (length c.args.engine.now.trail)) c.args.engine.now.trail c.args.best.now.held (ap (λ (e : EngineState). e.trail) c.undo_to.ensures.undone) c.forget_from.ensures.known
