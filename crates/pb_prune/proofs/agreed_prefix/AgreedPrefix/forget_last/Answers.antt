use Rattle.pb_prune.specs.declared.agreed_prefix.AgreedPrefix.{AgreedPrefix}
use Rattle.std.proofs.Common.{◌-◌, refl}
use Rattle.pb_prune.proofs.AgreedPrefixLemmas.{knows_less}
use Rattle.pb_prune.proofs.agreed_prefix.AgreedPrefix.forget_last.Goals as goal

pub returns : goal.returns
returns g c =
    let new : AgreedPrefix = record { seen = c.args.self.now.seen - 1; count = c.count_without-self.result; surplus = c.args.self.now.surplus; borrowed = c.args.self.now.borrowed } in
    record { known = knows_less c.args.engine.now.trail c.args.held.now c.args.self.now new c.args.last c.requires.sound.proper.once c.requires.some c.requires.last refl c.count_without-self.ensures.fewer c.count_without-self.ensures.without c.requires.known }
