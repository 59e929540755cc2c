use Rattle.std.proofs.Common.{◌≡◌, length, ap, ◌∙◌, arith}
use Rattle.pb_rows.specs.Clauses.{clause_row}
use Rattle.pb_rows.specs.Constraints.{Constraints, row_at}
use Rattle.pb_rows.proofs.TablesLemmas.{clause_at, clause_variables}
use Rattle.pb_rows.proofs.tables.Tables.clause.Goals as goal

pub returns-clause-variables : goal.returns-clause-variables
returns-clause-variables g c =
    let rows = c.self.inside.rows.now in
    let clauses = c.self.inside.clauses.now in
    let now = c.args.self.now in
    let form = ap (λ (k : Constraints). length k.form.rows) c.self.view_is in
    let here : row_at now.rows c.args.row ≡ clause_row c.lits.result.now = clause_at rows clauses now c.args.row c.len-form_len.result c.self.view_is c.len-form_len.ensures.value (omega (arith, c.len-form_len.ensures.value)) ∙ c.lits.ensures in
    clause_variables now.vars now.rows c.args.row c.lits.result.now c.facts.ensures.rows c.requires.exists here
