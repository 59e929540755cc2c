use Rattle.pb_search.proofs.LayoutLemmas.{made_cube_state}
use Rattle.pb_search.proofs.piece_search.cube_state.Goals as goal

pub returns-clause-some : goal.returns-clause-some
returns-clause-some g c =
    made_cube_state c.args.instance.now c.args.form.now c.in_ok-new.field-0 c.clause_laws.ensures.met c.requires.form.vars c.requires.form.feasible c.requires.form.costs c.facts_of.ensures.variable_count c.in_ok-new.ensures
