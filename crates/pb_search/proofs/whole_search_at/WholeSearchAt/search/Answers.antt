use Rattle.std.proofs.Common.{◌≤◌, ◌∙◌, ◌∷◌, [], ℕ, All, ap, refl, sym, subst}
use Rattle.pb_inst.specs.Literal.{Literal}
use Rattle.pb_subtree.specs.declared.search_state.SearchState.{SearchState}
use Rattle.pb_normal.specs.NormalForm.{NormalForm}
use Rattle.pb_cubes.specs.Done.{Division}
use Rattle.pb_search.specs.Layout.{IsCubeState}
use Rattle.pb_subtree.specs.Made.{IsMade}
use Rattle.pb_search.proofs.LayoutLemmas.{still_made, whole_state}
use Rattle.pb_search.proofs.DoneLemmas.{cube_done, own_makes_true}
use Rattle.pb_search.proofs.whole_search_at.WholeSearchAt.search.Goals as goal

pub search_under-outcome-requires-clause-state : goal.search_under-outcome-requires-clause-state
search_under-outcome-requires-clause-state g c =
    (whole_state c.args.best.now.problem c.args.self.now c.self.inside.state c.clause_laws.ensures.met c.self.view_is c.requires.form_of.vars c.requires.form_of.feasible c.requires.form_of.costs c.requires.few c.self.invariant).state

pub search_under-outcome-requires-clause-variables : goal.search_under-outcome-requires-clause-variables
search_under-outcome-requires-clause-variables g c =
    subst (λ (n : ℕ). All (λ (l : Literal). l.var ≤ n) c.args.cube.now) (sym (c.self.invariant.vars ∙ ap (λ (f : NormalForm). f.vars) c.self.view_is)) c.requires.variables

pub invariant_of-self : goal.invariant_of-self
invariant_of-self g c =
    let old = c.self.inside.state in let new = c.search_under-outcome.new.state in let same = c.search_under-outcome.ensures.ended.constraints in
    subst (λ (t : SearchState _). IsMade t.engine.form [] t) (sym c.begin_question.ensures)
    (subst (λ (f : NormalForm). IsMade f [] new) (sym same.form)
    (still_made c.args.best.now.problem old.engine.form old new (ap (λ (f : NormalForm). f.vars) c.self.view_is ∙ c.requires.form_of.vars) c.self.invariant c.search_under-outcome.ensures.ended.made_for same))

pub returns-clause-searched : goal.returns-clause-searched
returns-clause-searched g c =
    let p = c.args.best.now.problem in let d : Division = record { problem = p; cubes = c.args.cube.now ∷ [] } in
    let under = c.search_under-outcome in
    let state : IsCubeState p c.self.inside.state = whole_state p c.args.self.now c.self.inside.state c.clause_laws.ensures.met c.self.view_is c.requires.form_of.vars c.requires.form_of.feasible c.requires.form_of.costs c.requires.few c.self.invariant in
    record {
      done = λ whole. cube_done p d 0 c.self.inside.state.engine c.args.cube.now under.new.best refl under.ensures.ended.moves_on.same_instance state.state.engine.vars state.rows refl under.ensures.ended.held_sound (under.ensures.searched whole);
      cut = under.ensures.ended.cut refl;
      budget = under.ensures.ended.budget;
      not_after = under.ensures.ended.moves_on.not_after;
      own = λ none. own_makes_true c.self.inside.state.engine c.args.cube.now c.args.best.now under.new.best (under.ensures.own none);
      same_instance = under.ensures.ended.moves_on.same_instance;
    }
