use Rattle.std.proofs.Common.{◌≡◌, ◌<◌, length, take, arith, rules}
use Rattle.pb_cubes.specs.Split.{numbered_cube}
use Rattle.pb_cubes.proofs.Numbering.{IsCubeUpTo-more, IsCubeUpTo-all}
use Rattle.pb_cubes.proofs.splits.cube_of_number.Goals as goal

pub loop-i-preserved : goal.loop-i-preserved
loop-i-preserved c =
    (IsCubeUpTo-more c.args.variables.now c.args.number c.loop-i.i c.loop-i.lits c.literal.result (omega arith) (omega arith) c.literal.ensures c.loop-i.invariant.0, search rules)

pub returns : goal.returns
returns c =
    let all : take (length c.args.variables.now) c.loop-i.lits ≡ numbered_cube c.args.variables.now c.args.number = IsCubeUpTo-all c.args.variables.now c.args.number c.loop-i.lits (omega arith) (λ j d h. let l : j < c.loop-i.i = omega arith in c.loop-i.invariant.0 j d l) in
    rw (← all) c.new.ensures.made
