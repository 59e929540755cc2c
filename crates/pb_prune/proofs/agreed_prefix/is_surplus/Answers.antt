use Rattle.std.proofs.Common.{rules, ◌≡◌, ◌∙◌, sym, arith, true, Some}
use Rattle.pb_engine.specs.Trail.{value_on}
use Rattle.pb_prune.proofs.AgreedPrefixLemmas.{surplus_not_before}
use Rattle.pb_prune.proofs.agreed_prefix.is_surplus.Goals as goal

pub returns : goal.returns
returns g c is =
    let one : value_on c.args.engine.now.trail c.args.var ≡ Some true = search rules in
    surplus_not_before c.args.engine.now.trail c.args.held.now c.args.var c.args.count c.requires.ones c.requires.within (omega arith) (omega arith) (sym c.get.ensures ∙ c.if-get.false) one
