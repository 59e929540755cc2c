use Rattle.std.proofs.Common.{arith}
use Rattle.pb_inst.proofs.FlatLemmas.{count_is}
use Rattle.pb_inst.proofs.flat_terms.TermList.len.Goals as goal

pub returns : goal.returns
returns c =
    let count = count_is c.self.inside.coefs c.self.inside.lits.items _ c.self.view_is c.self.invariant in
    let same = c.self.invariant in
    omega arith
