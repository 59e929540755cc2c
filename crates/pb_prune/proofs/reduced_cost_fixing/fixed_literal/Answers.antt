use Rattle.std.proofs.Common.{rules, sym}
use Rattle.pb_engine.specs.Fixing.{IsForcedWithin}
use Rattle.pb_prune.proofs.ClosedLemmas.{one_sided_held}
use Rattle.pb_prune.proofs.reduced_cost_fixing.fixed_literal.Goals as goal

pub returns-clause-fixed : goal.returns-clause-fixed
returns-clause-fixed g c =
    let forced : IsForcedWithin c.args.engine.now c.in-Some.cost c.in-Some-fixed_literal.fixed.lit = search rules in
    one_sided_held c.args.best.now.problem c.args.engine.now c.args.best.now.held c.in-Some.cost c.in-Some-fixed_literal.fixed.lit c.requires.engine c.cost.ensures.sound (sym c.in-Some.ensures.value) forced
