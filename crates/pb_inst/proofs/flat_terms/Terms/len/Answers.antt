use Rattle.std.proofs.Common.{arith}
use Rattle.pb_inst.proofs.FlatLemmas.{count_is}
use Rattle.pb_inst.proofs.flat_terms.Terms.len.Goals as goal

pub returns : goal.returns
returns c =
    let count = count_is c.self.inside.coefs c.self.inside.lits.now _ c.self.view_is c.self.invariant in
    omega arith
