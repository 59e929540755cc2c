use Rattle.std.proofs.Common.{◌∙◌, List, sym, ap, subst}
use Rattle.pb_inst.specs.Literal.{Literal}
use Rattle.pb_normal.specs.NormalForm.{NormalForm, KeepsCost, KeepsFeasible}
use Rattle.pb_engine.specs.Clauses.{AreClausesOf}
use Rattle.pb_search.proofs.piece_tables.PieceTables.new.Goals as goal

pub of_parts-requires : goal.of_parts-requires
of_parts-requires g c = record {
  vars = ap (λ (f : NormalForm). f.vars) c.in_ok-rows.ensures ∙ c.requires.form.vars;
  few_variables = c.facts_of.ensures.variable_count;
  feasible = subst (λ (f : NormalForm). KeepsFeasible c.args.instance.now f) (sym c.in_ok-rows.ensures) c.requires.form.feasible;
  costs = subst (λ (f : NormalForm). KeepsCost c.args.instance.now f) (sym c.in_ok-rows.ensures) c.requires.form.costs;
  piece_vars = c.requires.pieces;
  none_beside = record { variables = c.in_ok-none.ensures.variables; numbers = c.in_ok-none.ensures.first };
  rest_beside = record { variables = c.in_ok-rest.ensures.variables; numbers = c.in_ok-rest.ensures.first };
  no_cubes = c.in_ok-none.ensures.negated;
  all_cubes = subst (λ (x : List (List Literal)). AreClausesOf x c.in_ok-rest.rest.rows) c.cubes.ensures.value c.in_ok-rest.ensures.negated;
}
