use Rattle.std.proofs.Common.{◌+◌, List, ap, sym, ◌∙◌}
use Rattle.pb_rows.specs.Occurrences.{Occurrence}
use Rattle.pb_rows.specs.Index.{total_for}
use Rattle.pb_rows.proofs.TablesLemmas.{weights_beside}
use Rattle.pb_rows.proofs.tables.Tables.occurrences.Goals as goal

pub returns-clause-weights : goal.returns-clause-weights
returns-clause-weights g c = λ r h.
    let rows = c.self.inside.rows.now in
    let clauses = c.self.inside.clauses.now in
    weights_beside rows clauses c.args.self.now c.args.lit c.self.view_is c.self.invariant.numbers
    (λ k. ap (λ (os : List Occurrence). total_for k os) (sym c.occurrences.ensures.value) ∙ c.occurrences.ensures.weights k)
    (λ k. ap (λ (os : List Occurrence). total_for (clauses.first + k) os) (sym c.occurrences-units.ensures.value) ∙ c.occurrences-units.ensures.weights k)
    (λ k low. ap (λ (os : List Occurrence). total_for k os) (sym c.occurrences-units.ensures.value) ∙ c.occurrences-units.ensures.before k low)
    r
