use Rattle.std.proofs.Common.{◌∙◌, sym}
use Rattle.pb_subtree.proofs.HeldLemmas.{taken, taken_moves}
use Rattle.pb_subtree.proofs.LeafLemmas.{leaf_closes, leaf_own}
use Rattle.pb_subtree.proofs.incumbent.hand_over.Goals as goal

pub returns-clause-closed : goal.returns-clause-closed
returns-clause-closed g c =
    leaf_closes c.args.engine.now c.args.best.now c.take-is_better.new.self c.fill.new.into c.take-is_better.result c.requires.engine c.requires.full c.fill.ensures.filled (c.fill.ensures.same_length ∙ c.requires.room ∙ sym c.requires.engine.vars)
    (taken c.args.best.now c.take-is_better.new.self c.fill.new.into c.take-is_better.result c.take-is_better.ensures.decides c.take-is_better.ensures.same_instance c.take-is_better.ensures.held c.take-is_better.ensures.sound c.take-is_better.ensures.was_sound)

pub returns-clause-own : goal.returns-clause-own
returns-clause-own g c =
    leaf_own c.args.engine.now c.args.best.now c.take-is_better.new.self c.fill.new.into c.take-is_better.result c.fill.ensures.filled (c.fill.ensures.same_length ∙ c.requires.room ∙ sym c.requires.engine.vars) c.requires.sound c.requires.solved
    (taken c.args.best.now c.take-is_better.new.self c.fill.new.into c.take-is_better.result c.take-is_better.ensures.decides c.take-is_better.ensures.same_instance c.take-is_better.ensures.held c.take-is_better.ensures.sound c.take-is_better.ensures.was_sound)

pub returns-clause-moves_on : goal.returns-clause-moves_on
returns-clause-moves_on g c =
    taken_moves c.args.best.now c.take-is_better.new.self c.fill.new.into c.take-is_better.result
    (taken c.args.best.now c.take-is_better.new.self c.fill.new.into c.take-is_better.result c.take-is_better.ensures.decides c.take-is_better.ensures.same_instance c.take-is_better.ensures.held c.take-is_better.ensures.sound c.take-is_better.ensures.was_sound)

pub fill-requires : goal.fill-requires
fill-requires g c = c.requires.room ∙ sym c.requires.engine.vars

pub take-is_better-requires : goal.take-is_better-requires
take-is_better-requires g c = c.fill.ensures.same_length ∙ c.requires.room
