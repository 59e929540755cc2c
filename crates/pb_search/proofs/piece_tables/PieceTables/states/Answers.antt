use Rattle.std.proofs.Common.{◌≡◌, List, [], subst, sym, refl}
use Rattle.std.specs.Prelude.{IfNone, IfSome}
use Rattle.pb_inst.specs.Literal.{Literal}
use Rattle.pb_inst.specs.Problem.{Problem}
use Rattle.pb_cubes.specs.Done.{Division}
use Rattle.pb_search.specs.Layout.{IsCubeState, IsLaidOut, pieces_of}
use Rattle.pb_subtree.specs.Made.{IsMade}
use Rattle.pb_search.proofs.LayoutLemmas.{laid_out}
use Rattle.pb_search.proofs.piece_tables.PieceTables.states.Goals as goal

pub returns : goal.returns
returns g c =
    let p : Problem = c.self.inside.instance.now in
    let cubes : List (List Literal) = c.self.inside.pieces.now.cubes in
    let all : IsMade c.self.inside.rows.value.form cubes c.in_ok-rest.rest = record { form = c.in_ok-rest.ensures.form; vars = c.in_ok-rest.ensures.vars; rows = (c.self.inside.rest.value.rows, c.in_ok-rest.ensures.rows, c.self.invariant.all_cubes); candidate = c.in_ok-rest.ensures.candidate; room = c.in_ok-rest.ensures.room } in
    let none : IfNone c.in_ok-cube.cube (cubes ≡ []) = subst (λ (d : Division). IfNone c.in_ok-cube.cube (d.cubes ≡ [])) (sym c.self.view_is) c.in_ok-cube.ensures.none in
    let some : IfSome c.in_ok-cube.cube (IsCubeState p) = subst (λ (d : Division). IfSome c.in_ok-cube.cube (IsCubeState d.problem)) (sym c.self.view_is) c.in_ok-cube.ensures.some in
    subst (λ (d : Division). IsLaidOut d.problem (pieces_of d.problem d.cubes) c.in_ok-cube.cube c.in_ok-rest.rest) c.self.view_is
    (laid_out p c.self.inside.rows.value.form (pieces_of p cubes) c.in_ok-cube.cube c.in_ok-rest.rest c.clause_laws.ensures.met c.self.invariant.vars c.self.invariant.feasible c.self.invariant.costs c.self.invariant.few_variables refl none some all)
