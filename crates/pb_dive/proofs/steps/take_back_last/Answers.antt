use Rattle.std.proofs.Common.{rules, ◌-◌, arith}
use Rattle.pb_dive.proofs.DiveLemmas.{leads_undone}
use Rattle.pb_dive.proofs.steps.take_back_last.Goals as goal

pub returns-clause-taken_back : goal.returns-clause-taken_back
returns-clause-taken_back g c = record {
  back = λ start at h. leads_undone start c.args.engine.now c.undo_to.new.self (c.level-level.result - 1) c.requires.sound (omega arith) (omega arith) c.undo_to.ensures.undone h;
  sound = search rules;
  same_variables = search rules;
  no_deeper = search rules;
}
