use Rattle.std.proofs.Common.{◌≡◌, [], ap, ◌∙◌, arith}
use Rattle.pb_rows.specs.Constraints.{row_at}
use Rattle.pb_row_bound.specs.DisjointRows.{spare}
use Rattle.pb_row_bound.proofs.SpareLemmas.{spare-le-total}
use Rattle.pb_row_bound.proofs.deficits.initial_deficit.Goals as goal

pub sub-requires : goal.sub-requires
sub-requires g c =
    let row = row_at c.args.tables.now.rows c.args.row in
    let limits = c.facts.ensures.limits c.args.row (record { terms = []; degree = 0 }) c.requires in
    let value : c.at_no_cost.result ≡ spare c.args.tables.now.form.objective [] row.terms = c.at_no_cost.ensures ∙ ap (spare c.args.tables.now.form.objective []) c.terms.ensures in
    omega (arith, spare-le-total c.args.tables.now.form.objective [] row.terms, limits.1)

pub returns : goal.returns
returns g c =
    let row = row_at c.args.tables.now.rows c.args.row in
    let limits = c.facts.ensures.limits c.args.row (record { terms = []; degree = 0 }) c.requires in
    let value : c.at_no_cost.result ≡ spare c.args.tables.now.form.objective [] row.terms = c.at_no_cost.ensures ∙ ap (spare c.args.tables.now.form.objective []) c.terms.ensures in
    omega (arith, spare-le-total c.args.tables.now.form.objective [] row.terms, limits.1, c.degree.ensures)
