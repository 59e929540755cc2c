use Rattle.pb_prune.specs.declared.agreed_prefix.AgreedPrefix.{AgreedPrefix}
use Rattle.pb_prune.proofs.AgreedPrefixLemmas.{knows_all, knows_by_all}
use Rattle.pb_prune.proofs.agreed_prefix.AgreedPrefix.has_surplus.Goals as goal

pub is_surplus-requires-clause-ones : goal.is_surplus-requires-clause-ones
is_surplus-requires-clause-ones g c = knows_all c.args.engine.now.trail c.args.held.now c.args.self.now c.requires.known

pub returns-then-is_surplus-clause-known : goal.returns-then-is_surplus-clause-known
returns-then-is_surplus-clause-known g c =
    let new : AgreedPrefix = record { seen = c.trail_len-self.result; count = c.args.self.now.count; surplus = c.args.self.now.surplus; borrowed = c.args.self.now.borrowed } in
    knows_by_all c.args.engine.now.trail c.args.held.now new c.trail_len-self.ensures c.requires.known.count (knows_all c.args.engine.now.trail c.args.held.now c.args.self.now c.requires.known)

pub surplus_from-requires-clause-ones : goal.surplus_from-requires-clause-ones
surplus_from-requires-clause-ones g c = knows_all c.args.engine.now.trail c.args.held.now c.args.self.now c.requires.known

pub returns-in_default-clause-known : goal.returns-in_default-clause-known
returns-in_default-clause-known g c =
    let new : AgreedPrefix = record { seen = c.trail_len-self.result; count = c.args.self.now.count; surplus = c.args.self.now.surplus; borrowed = c.args.self.now.borrowed } in
    knows_by_all c.args.engine.now.trail c.args.held.now new c.trail_len-self.ensures c.requires.known.count (knows_all c.args.engine.now.trail c.args.held.now c.args.self.now c.requires.known)

pub returns-clause-known : goal.returns-clause-known
returns-clause-known g c =
    let new : AgreedPrefix = record { seen = c.trail_len-self.result; count = c.args.self.now.count; surplus = c.in-Some.var; borrowed = c.args.self.now.borrowed } in
    knows_by_all c.args.engine.now.trail c.args.held.now new c.trail_len-self.ensures c.requires.known.count (knows_all c.args.engine.now.trail c.args.held.now c.args.self.now c.requires.known)
