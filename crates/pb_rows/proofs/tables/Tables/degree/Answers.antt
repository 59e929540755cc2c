use Rattle.std.proofs.Common.{length, ap, sym, ◌∙◌, arith}
use Rattle.pb_rows.specs.Constraints.{Constraints}
use Rattle.pb_rows.proofs.tables.Tables.degree.Goals as goal

pub returns-else-row-len : goal.returns-else-row-len
returns-else-row-len g c =
    let form = ap (λ (k : Constraints). length k.form.rows) c.self.view_is in
    c.of.ensures ∙ sym (c.facts.ensures.units c.args.row (omega arith) (omega arith)).0
