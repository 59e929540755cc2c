use Rattle.std.proofs.Common.{◌≡◌, ◌≤◌, ◌^◌, All, subst}
use Rattle.pb_normal.specs.declared.terms.PositiveTerm.{PositiveTerm}
use Rattle.pb_normal.specs.NormalForm.{PositiveRow}
use Rattle.pb_normal.specs.Fits.{HasSumsBelow}
use Rattle.pb_rows.specs.Table.{ClauseRows}
use Rattle.pb_rows.proofs.TablesLemmas.{small_clauses, unit_clauses}
use Rattle.pb_rows.proofs.clauses.Clauses.facts.Goals as goal

pub returns-clause-units : goal.returns-clause-units
returns-clause-units c = subst (λ (k : ClauseRows). All (λ (row : PositiveRow). (row.degree ≡ 1) × All (λ (t : PositiveTerm). t.coef ≤ 1) row.terms) k.rows) c.self.view_is (unit_clauses c.self.inside.clauses)

pub returns-clause-limits : goal.returns-clause-limits
returns-clause-limits c = subst (λ (k : ClauseRows). All (λ (row : PositiveRow). HasSumsBelow (2 ^ 63) row) k.rows) c.self.view_is (small_clauses c.self.inside.clauses c.facts.ensures)
