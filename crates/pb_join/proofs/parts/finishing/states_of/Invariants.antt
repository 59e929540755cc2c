use Rattle.pb_join.specs.Parts.{AreStatesBy}
use Rattle.pb_join.proofs.parts.finishing.states_of.Given as goal

-- what became of the tasks so far
abbrev pub invariant-loop-task : goal.invariant-loop-task
invariant-loop-task l = AreStatesBy l.division l.task l.reports l.named l.states.items
