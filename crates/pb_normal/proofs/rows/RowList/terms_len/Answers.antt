use Rattle.std.proofs.Common.{arith}
use Rattle.pb_normal.proofs.SpanLemmas.{row_terms_is}
use Rattle.pb_normal.proofs.rows.RowList.terms_len.Goals as goal

pub returns : goal.returns
returns g c =
    let count = row_terms_is c.self.inside.terms.items c.self.inside.spans.items _ c.self.view_is c.self.invariant.spans_of in
    omega arith
