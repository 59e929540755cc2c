use Rattle.std.proofs.Common.{List, subst, sym, arith}
use Rattle.pb_inst.specs.Literal.{Literal}
use Rattle.pb_cubes.specs.Pieces.{AreWithin}
use Rattle.pb_subtree.specs.Made.{IsMade}
use Rattle.pb_search.proofs.LayoutLemmas.{laid_out}
use Rattle.pb_search.proofs.piece_search.PieceSearch.new.Goals as goal

pub invariant_of-result : goal.invariant_of-result
invariant_of-result g c = (
  laid_out c.args.instance.now c.args.form.now c.args.pieces.now c.in_ok-cube.cube c.in_ok-rest.rest c.clause_laws.ensures.met c.requires.form.vars c.requires.form.feasible c.requires.form.costs c.facts_of.ensures.variable_count c.requires.pieces c.in_ok-cube.ensures.none c.in_ok-cube.ensures.some
      (subst (λ (x : List (List Literal)). IsMade c.args.form.now x c.in_ok-rest.rest) c.cubes.ensures.value c.in_ok-rest.ensures),
  c.in_ok-whole.ensures,
)

pub new-requires-clause-variables : goal.new-requires-clause-variables
new-requires-clause-variables g c =
    subst (λ (x : List (List Literal)). AreWithin c.args.form.now.vars x) (sym c.cubes.ensures.value)
    (λ k d within i e inside. omega (arith, c.requires.form.vars, c.requires.pieces, c.cubes.ensures.within k d within i e inside))
