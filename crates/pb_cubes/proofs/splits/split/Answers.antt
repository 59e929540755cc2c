use Rattle.std.proofs.Common.{◌∙◌, ap, arith}
use Rattle.pb_cubes.specs.Split.{split_cubes, IsSplit}
use Rattle.pb_cubes.proofs.Numbering.{IsSplit-number, IsSplit-within}
use Rattle.pb_cubes.proofs.SplitCover.{IsSplit-covers}
use Rattle.pb_cubes.proofs.splits.split.Goals as goal

pub returns-clause-number : goal.returns-clause-number
returns-clause-number c =
    let is : IsSplit c.args.instance.now c.args.k c.in_ok-cubes.cubes.items = record { vars = c.in_ok-variables.variables.items; most = c.in_ok-variables.ensures; numbered = c.in_ok-cubes.ensures ∙ ap split_cubes c.deref.ensures.value } in
    omega (arith, IsSplit-number c.args.instance.now c.args.k c.in_ok-cubes.cubes.items is)

pub returns-clause-within : goal.returns-clause-within
returns-clause-within c =
    IsSplit-within c.args.instance.now c.args.k c.in_ok-cubes.cubes.items
    (record { vars = c.in_ok-variables.variables.items; most = c.in_ok-variables.ensures; numbered = c.in_ok-cubes.ensures ∙ ap split_cubes c.deref.ensures.value })

pub returns-clause-covers : goal.returns-clause-covers
returns-clause-covers c =
    IsSplit-covers c.args.instance.now c.args.k c.in_ok-cubes.cubes.items
    (record { vars = c.in_ok-variables.variables.items; most = c.in_ok-variables.ensures; numbered = c.in_ok-cubes.ensures ∙ ap split_cubes c.deref.ensures.value })
