use Rattle.std.proofs.Common.{arith}
use Rattle.pb_rows.proofs.LiteralListLemmas.{list_count, short_lists}
use Rattle.pb_rows.proofs.literal_lists.LiteralLists.len.Goals as goal

pub returns-clause-value : goal.returns-clause-value
returns-clause-value c =
    let count = list_count c.self.inside.lits.items c.self.inside.spans.items _ c.self.view_is in
    omega arith

pub returns-clause-short : goal.returns-clause-short
returns-clause-short c = λ k d h.
    let short = short_lists c.self.inside.lits.items c.self.inside.spans.items _ c.self.view_is k d h in
    omega (arith, c.self.inside.lits.small, c.self.inside.lits.ok.0)
