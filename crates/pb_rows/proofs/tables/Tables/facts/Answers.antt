use Rattle.std.proofs.Common.{◌≡◌, ◌-◌, ◌≤◌, [], All, length, length-append, ap, sym, refl, subst, arith}
use Rattle.pb_normal.specs.declared.terms.PositiveTerm.{PositiveTerm}
use Rattle.pb_normal.specs.NormalForm.{PositiveRow}
use Rattle.pb_rows.specs.Constraints.{Constraints}
use Rattle.pb_rows.proofs.TablesLemmas.{clause_at}
use Rattle.pb_rows.proofs.tables.Tables.facts.Goals as goal

pub returns-clause-units : goal.returns-clause-units
returns-clause-units g c = λ r high low.
    let rows = c.self.inside.rows.now in
    let clauses = c.self.inside.clauses.now in
    let n = length rows.form.rows in
    let form = ap (λ (k : Constraints). length k.form.rows) c.self.view_is in
    let all = ap (λ (k : Constraints). length k.rows) c.self.view_is in
    let joined = length-append rows.form.rows clauses.rows in
    let here = clause_at rows clauses c.args.self.now r n c.self.view_is refl (omega arith) in
    subst (λ (p : PositiveRow). (p.degree ≡ 1) × All (λ (t : PositiveTerm). t.coef ≤ 1) p.terms) (sym here) (c.facts.ensures.units (r - n) (record { terms = []; degree = 0 }) (omega arith))
