use Rattle.std.proofs.Common.{◌+◌, refl, subst, sym}
use Rattle.pb_join.specs.Parts.{AreStatesBy}
use Rattle.pb_join.proofs.PartNames.{states_more}
use Rattle.pb_join.proofs.parts.finishing.states_of.Goals as goal

pub loop-task-preserved : goal.loop-task-preserved
loop-task-preserved c =
    subst (AreStatesBy c.args.division.now (c.loop-task.task + 1) c.args.reports.now c.args.named.now) (sym c.in_ok-push.ensures.items)
    (states_more c.args.division.now c.loop-task.task c.args.reports.now c.args.named.now c.loop-task.states.items _ c.loop-task.invariant refl c.is_finished.ensures)
