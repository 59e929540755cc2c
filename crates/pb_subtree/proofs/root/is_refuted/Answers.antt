use Rattle.std.proofs.Common.{◌≡◌, arith, length}
use Rattle.pb_subtree.proofs.Engines.{same_constraints_itself}
use Rattle.pb_subtree.proofs.RootLemmas.{refuted_at_root, no_assumptions}
use Rattle.pb_subtree.proofs.root.is_refuted.Goals as goal

pub returns-clause-refuted : goal.returns-clause-refuted
returns-clause-refuted g c is a =
    let none : length c.args.engine.now.levels ≡ 0 = omega arith in
    refuted_at_root c.args.engine.now c.args.engine.now a (same_constraints_itself c.args.engine.now) c.conflict.ensures.sound (no_assumptions c.args.engine.now none) (c.conflict.ensures.no_completion is)
