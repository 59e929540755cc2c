use Rattle.pb_prune.specs.declared.agreed_prefix.AgreedPrefix.{AgreedPrefix}
use Rattle.pb_prune.proofs.AgreedPrefixLemmas.{knows_all, knows_by_all}
use Rattle.pb_prune.proofs.agreed_prefix.AgreedPrefix.extend.Goals as goal

pub agreed_from-self-requires-clause-ones : goal.agreed_from-self-requires-clause-ones
agreed_from-self-requires-clause-ones g c = knows_all c.args.engine.now.trail c.args.held.now c.args.self.now c.requires.known

pub returns-clause-known : goal.returns-clause-known
returns-clause-known g c =
    let new : AgreedPrefix = record { seen = c.trail_len-self.result; count = c.agreed_from-self.result; surplus = c.args.self.now.surplus; borrowed = c.args.self.now.borrowed } in
    knows_by_all c.args.engine.now.trail c.args.held.now new c.trail_len-self.ensures c.agreed_from-self.ensures.within c.agreed_from-self.ensures.ones
