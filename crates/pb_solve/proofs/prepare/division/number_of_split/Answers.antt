use Rattle.std.proofs.Common.{◌≤◌, ◌^◌, arith}
use Rattle.std.proofs.Math.Pow.{pow_mono}
use Rattle.pb_solve.proofs.prepare.division.number_of_split.Goals as goal

pub returns-else-split-eq0-clause-small : goal.returns-else-split-eq0-clause-small
returns-else-split-eq0-clause-small c =
    let h : 2 ^ c.args.split ≤ 2 ^ 12 = pow_mono c.requires in
    grind (arith, h)
