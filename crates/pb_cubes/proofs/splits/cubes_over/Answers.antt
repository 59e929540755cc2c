use Rattle.std.proofs.Common.{rules}
use Rattle.pb_cubes.proofs.Numbering.{split_cubes_more}
use Rattle.pb_cubes.proofs.splits.cubes_over.Goals as goal

pub loop-number-preserved : goal.loop-number-preserved
loop-number-preserved c =
    (split_cubes_more c.args.variables.now c.loop-number.number c.loop-number.cubes.items c.push_reserved.new.self.items c.in_ok-cube_of_number.field-0 c.loop-number.invariant.0 c.in_ok-cube_of_number.ensures c.push_reserved.ensures.items, search rules, search rules)
