use Rattle.std.proofs.Common.{arith}
use Rattle.pb_rows.proofs.LiteralListLemmas.{short_lists}
use Rattle.pb_rows.proofs.literal_lists.LiteralLists.facts.Goals as goal

pub returns : goal.returns
returns c = λ k d h.
    let short = short_lists c.self.inside.lits.items c.self.inside.spans.items _ c.self.view_is k d h in
    omega (arith, c.self.inside.lits.small, c.self.inside.lits.ok.0)
