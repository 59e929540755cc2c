use Rattle.std.proofs.Common.{sym, subst}
use Rattle.pb_engine.specs.Table.{FormRows, ClauseRows}
use Rattle.pb_search.specs.Layout.{AreTables}
use Rattle.pb_search.proofs.piece_tables.PieceTables.of_parts.Goals as goal

pub invariant_of-result : goal.invariant_of-result
invariant_of-result g c =
    let p = c.args.instance.now in let pieces = c.args.pieces.now in
    subst (λ (rows : FormRows). AreTables p pieces rows c.in_ok-none.none.value c.in_ok-rest.rest.value) (sym c.in_ok-rows.ensures)
    (subst (λ (none : ClauseRows). AreTables p pieces c.args.rows none c.in_ok-rest.rest.value) (sym c.in_ok-none.ensures)
    (subst (λ (rest : ClauseRows). AreTables p pieces c.args.rows c.args.none rest) (sym c.in_ok-rest.ensures) c.requires))
