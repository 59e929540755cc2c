use Rattle.std.proofs.Common.{[], subst}
use Rattle.pb_cubes.specs.Done.{Division}
use Rattle.pb_search.specs.Layout.{IsCubeState}
use Rattle.pb_subtree.specs.Made.{IsMade}
use Rattle.pb_search.proofs.LayoutLemmas.{made_cube_state}
use Rattle.pb_search.proofs.piece_tables.PieceTables.cube_state.Goals as goal

pub returns-clause-some : goal.returns-clause-some
returns-clause-some g c =
    let made : IsMade c.self.inside.rows.value.form [] c.in_ok-over.field-0 = record { form = c.in_ok-over.ensures.form; vars = c.in_ok-over.ensures.vars; rows = (c.self.inside.none.value.rows, c.in_ok-over.ensures.rows, c.self.invariant.no_cubes); candidate = c.in_ok-over.ensures.candidate; room = c.in_ok-over.ensures.room } in
    subst (λ (d : Division). IsCubeState d.problem c.in_ok-over.field-0) c.self.view_is
    (made_cube_state c.self.inside.instance.now c.self.inside.rows.value.form c.in_ok-over.field-0 c.clause_laws.ensures.met c.self.invariant.vars c.self.invariant.feasible c.self.invariant.costs c.self.invariant.few_variables made)
