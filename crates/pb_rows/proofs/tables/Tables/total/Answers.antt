use Rattle.std.proofs.Common.{◌≡◌, ℕ, ◌-◌, ap, sym, ◌∙◌, arith}
use Rattle.pb_normal.specs.NormalForm.{PositiveRow, total_coefficient}
use Rattle.pb_rows.specs.Clauses.{clause_row}
use Rattle.pb_rows.specs.Constraints.{row_at}
use Rattle.pb_rows.proofs.TablesLemmas.{form_row_at, clause_at, total_units}
use Rattle.pb_rows.proofs.tables.Tables.total.Goals as goal

pub returns-then-row-len-clause-value : goal.returns-then-row-len-clause-value
returns-then-row-len-clause-value g c =
    let here = form_row_at c.self.inside.rows.now c.self.inside.clauses.now c.args.self.now c.args.row c.len.result c.self.view_is c.len.ensures.value (omega arith) in
    c.total_of.ensures ∙ (ap total_coefficient c.terms.ensures ∙ ap (λ (p : PositiveRow). total_coefficient p.terms) (sym here))

pub returns-else-row-len-clause-value : goal.returns-else-row-len-clause-value
returns-else-row-len-clause-value g c =
    let rows = c.self.inside.rows.now in
    let clauses = c.self.inside.clauses.now in
    let here : row_at c.args.self.now.rows c.args.row ≡ clause_row c.lits.result.now = clause_at rows clauses c.args.self.now c.args.row c.len.result c.self.view_is c.len.ensures.value (omega arith) ∙ (ap (λ (n : ℕ). row_at clauses.rows (c.args.row - n)) (omega (arith, c.len.ensures.value, c.len-else-row-len.ensures.value)) ∙ c.lits.ensures) in
    c.of.ensures ∙ sym (total_units c.lits.result.now) ∙ ap (λ (p : PositiveRow). total_coefficient p.terms) (sym here)
