use Rattle.std.proofs.Common.{◌≡◌, ◌≤◌, ◌∙◌, ℕ, All, List, refl, inl, sym, ap, subst, Some}
use Rattle.std.specs.Prelude.{Option, IfSome, slice_get}
use Rattle.std.proofs.lemmas.Option.{get_or_from_slice_get, slice_get_within}
use Rattle.pb_inst.specs.Literal.{Literal}
use Rattle.pb_inst.specs.Problem.{Problem}
use Rattle.pb_cubes.specs.Done.{Division}
use Rattle.pb_subtree.specs.declared.search_state.SearchState.{SearchState}
use Rattle.pb_subtree.specs.Held.{IsNotAfter}
use Rattle.pb_search.specs.Layout.{IsCubeState}
use Rattle.pb_search.specs.Searched.{IsPieceSearched}
use Rattle.pb_subtree.specs.SearchState.{IsStateOf}
use Rattle.pb_subtree.specs.declared.outcome.Outcome.TheVariants.{Whole}
use Rattle.pb_prune.specs.Subtree.{IsEngineOf}
use Rattle.pb_control.proofs.BudgetLemmas.{left_itself}
use Rattle.pb_subtree.proofs.HeldLemmas.{not_after_itself}
use Rattle.pb_search.specs.Root.{IsFixedFor}
use Rattle.pb_search.proofs.DoneLemmas.{closed_done, cube_done, cube_own, found_below, rest_done, rest_own, used_up, without_root}
use Rattle.pb_search.proofs.LayoutLemmas.{rest_laid_out}
use Rattle.pb_search.proofs.piece_search.PieceSearch.search.Goals as goal

pub invariant_of-self-in-Rest : goal.invariant_of-self-in-Rest
invariant_of-self-in-Rest g c =
    let e : c.args.best.now.problem ≡ c.self.inside.instance.now = c.requires.same_instance ∙ sym (ap (λ (x : Division). x.problem) c.self.view_is) in (
      rest_laid_out c.self.inside.instance.now c.self.inside.pieces.now c.self.inside.cube c.self.inside.rest c.search_under.new.state c.self.invariant.0 (subst (λ (x : Problem). IsStateOf x c.search_under.new.state) e c.search_under.ensures.ended.made_for) c.search_under.ensures.ended.constraints,
      subst (λ (p : Problem). IfSome c.serve.new.whole (λ w. w.best.problem ≡ p)) e c.serve.ensures.same_instance,
    )

pub returns-in-Some-clause-searched : goal.returns-in-Some-clause-searched
returns-in-Some-clause-searched g c =
    let under = c.search_under-outcome in
    let made : IsCubeState c.self.inside.instance.now c.in-Some.state = subst (λ (o : Option (SearchState _)). IfSome o (IsCubeState c.self.inside.instance.now)) c.in-Some.is c.self.invariant.0.cube_state in
    let d : Division = record { problem = c.self.inside.instance.now; cubes = c.self.inside.pieces.now.cubes } in
    let e : c.args.best.now.problem ≡ d.problem = c.requires.same_instance ∙ sym (ap (λ (x : Division). x.problem) c.self.view_is) in
    let there : IsFixedFor c.args.best.now.problem c.fixed-is_closed.result.0.now c.fixed-is_closed.result.1 c.args.best.now.held = c.fixed-is_closed.ensures c.args.best.now.problem c.args.best.now.held c.serve.ensures.fixed in
    let engine : IsEngineOf c.args.best.now.problem c.in-Some.state.engine = subst (λ (x : Problem). IsEngineOf x c.in-Some.state.engine) (sym e) made.state.engine in
    let piece : slice_get d.cubes c.args.piece ≡ Some c.lits-cube.result.now = c.in-Cube.ensures.piece ∙ ap (λ (x : List Literal). Some x) (sym c.lits-cube.ensures) in
    subst (λ (x : Division). IsPieceSearched x c.args.piece (g.S.Share.lends c.args.share.now) c.args.turns c.args.best.now under.new.best c.args.left.now under.new.left under.result) c.self.view_is (record {
      done = λ whole. cube_done c.args.best.now.problem d c.args.piece c.in-Some.state.engine c.lits-cube.result.now under.new.best e under.ensures.ended.moves_on.same_instance made.state.engine.vars made.rows piece under.ensures.ended.held_sound (without_root _ _ c.fixed-is_closed.result.0.now _ c.fixed-is_closed.result.1 c.args.best.now.held under.new.best.held engine there under.ensures.ended.moves_on.not_after (under.ensures.searched whole));
      used_up = λ none cut. used_up under.new.best.held (under.ensures.ended.cut none cut);
      budget = under.ensures.ended.budget;
      not_after = subst (λ (p : Problem). IsNotAfter p c.args.best.now.held under.new.best.held) e under.ensures.ended.moves_on.not_after;
      own = λ none. cube_own d c.args.piece c.in-Some.state.engine c.lits-cube.result.now c.args.best.now under.new.best piece (found_below _ c.fixed-is_closed.result.0.now _ c.args.best.now under.new.best (under.ensures.own none));
      same_instance = under.ensures.ended.moves_on.same_instance;
    })

pub returns-in-Rest-clause-searched : goal.returns-in-Rest-clause-searched
returns-in-Rest-clause-searched g c =
    let under = c.search_under in
    let d : Division = record { problem = c.self.inside.instance.now; cubes = c.self.inside.pieces.now.cubes } in
    let e : c.args.best.now.problem ≡ d.problem = c.requires.same_instance ∙ sym (ap (λ (x : Division). x.problem) c.self.view_is) in
    let there : IsFixedFor c.args.best.now.problem c.fixed-is_closed.result.0.now c.fixed-is_closed.result.1 c.args.best.now.held = c.fixed-is_closed.ensures c.args.best.now.problem c.args.best.now.held c.serve.ensures.fixed in
    let engine : IsEngineOf c.args.best.now.problem c.self.inside.rest.engine = subst (λ (x : Problem). IsEngineOf x c.self.inside.rest.engine) (sym e) c.self.invariant.0.rest_state.engine in
    subst (λ (x : Division). IsPieceSearched x c.args.piece (g.S.Share.lends c.args.share.now) c.args.turns c.args.best.now under.new.best c.args.left.now under.new.left under.result) c.self.view_is (record {
      done = λ whole. rest_done c.args.best.now.problem d c.args.piece c.self.inside.rest.engine under.new.best e under.ensures.ended.moves_on.same_instance c.self.invariant.0.rest_state.engine.vars c.self.invariant.0.rest_rows c.in-Rest.ensures.piece.0 under.ensures.ended.held_sound (without_root _ _ c.fixed-is_closed.result.0.now _ c.fixed-is_closed.result.1 c.args.best.now.held under.new.best.held engine there under.ensures.ended.moves_on.not_after (under.ensures.searched whole));
      used_up = λ none cut. used_up under.new.best.held (under.ensures.ended.cut none cut);
      budget = under.ensures.ended.budget;
      not_after = subst (λ (p : Problem). IsNotAfter p c.args.best.now.held under.new.best.held) e under.ensures.ended.moves_on.not_after;
      own = λ none. rest_own d c.args.piece c.self.inside.rest.engine c.args.best.now under.new.best c.self.invariant.0.rest_rows c.in-Rest.ensures.piece.0 (found_below _ c.fixed-is_closed.result.0.now _ c.args.best.now under.new.best (under.ensures.own none));
      same_instance = under.ensures.ended.moves_on.same_instance;
    })

pub returns-then-is_closed-clause-searched : goal.returns-then-is_closed-clause-searched
returns-then-is_closed-clause-searched g c =
    let d : Division = record { problem = c.self.inside.instance.now; cubes = c.self.inside.pieces.now.cubes } in
    let e : c.args.best.now.problem ≡ d.problem = c.requires.same_instance ∙ sym (ap (λ (x : Division). x.problem) c.self.view_is) in
    let there : IsFixedFor d.problem c.fixed-is_closed.result.0.now c.fixed-is_closed.result.1 c.args.best.now.held =
    subst (λ (p : Problem). IsFixedFor p c.fixed-is_closed.result.0.now c.fixed-is_closed.result.1 c.args.best.now.held) e (c.fixed-is_closed.ensures c.args.best.now.problem c.args.best.now.held c.serve.ensures.fixed) in
    subst (λ (x : Division). IsPieceSearched x c.args.piece (g.S.Share.lends c.args.share.now) c.args.turns c.args.best.now c.args.best.now c.args.left.now c.args.left.now Whole) c.self.view_is (record {
      done = λ _. closed_done d c.args.piece c.fixed-is_closed.result.0.now c.fixed-is_closed.result.1 c.args.best.now e c.cost.ensures.sound there c.if-is_closed.true;
      used_up = λ none is. absurd (let wrong : ⊥ = cc in wrong);
      budget = left_itself c.args.left.now;
      not_after = not_after_itself d.problem c.args.best.now.held;
      own = λ _. inl refl;
      same_instance = refl;
    })

pub search_under-outcome-requires-clause-root : goal.search_under-outcome-requires-clause-root
search_under-outcome-requires-clause-root g c =
    let made : IsCubeState c.self.inside.instance.now c.in-Some.state = subst (λ (o : Option (SearchState _)). IfSome o (IsCubeState c.self.inside.instance.now)) c.in-Some.is c.self.invariant.0.cube_state in
    let e : c.args.best.now.problem ≡ c.self.inside.instance.now = c.requires.same_instance ∙ sym (ap (λ (x : Division). x.problem) c.self.view_is) in
    let there = c.fixed-is_closed.ensures c.args.best.now.problem c.args.best.now.held c.serve.ensures.fixed in
    subst (λ (n : ℕ). All (λ (l : Literal). l.var ≤ n) c.fixed-is_closed.result.0.now) (ap (λ (p : Problem). p.vars) e ∙ sym made.state.engine.vars) there.variables

pub search_under-requires-clause-root : goal.search_under-requires-clause-root
search_under-requires-clause-root g c =
    let e : c.args.best.now.problem ≡ c.self.inside.instance.now = c.requires.same_instance ∙ sym (ap (λ (x : Division). x.problem) c.self.view_is) in
    let there = c.fixed-is_closed.ensures c.args.best.now.problem c.args.best.now.held c.serve.ensures.fixed in
    subst (λ (n : ℕ). All (λ (l : Literal). l.var ≤ n) c.fixed-is_closed.result.0.now) (ap (λ (p : Problem). p.vars) e ∙ sym c.self.invariant.0.rest_state.engine.vars) there.variables

pub search_under-outcome-requires-clause-variables : goal.search_under-outcome-requires-clause-variables
search_under-outcome-requires-clause-variables g c =
    let made : IsCubeState c.self.inside.instance.now c.in-Some.state = subst (λ (o : Option (SearchState _)). IfSome o (IsCubeState c.self.inside.instance.now)) c.in-Some.is c.self.invariant.0.cube_state in
    let pieces = c.self.inside.pieces.now in
    let cube = c.in-Cube.cube.now in
    let within : All (λ (l : Literal). l.var ≤ pieces.vars) cube =
    subst (λ (ls : List Literal). All (λ (l : Literal). l.var ≤ pieces.vars) ls) (get_or_from_slice_get pieces.cubes c.args.piece cube cube c.in-Cube.ensures.piece)
    (c.in-Cube.ensures.within c.args.piece cube (slice_get_within pieces.cubes c.args.piece cube c.in-Cube.ensures.piece)) in
    subst (λ (ls : List Literal). All (λ (l : Literal). l.var ≤ c.in-Some.state.engine.vars) ls) (sym c.lits-cube.ensures)
    (subst (λ (n : ℕ). All (λ (l : Literal). l.var ≤ n) c.in-Cube.cube.now) (c.self.invariant.0.vars ∙ sym made.state.engine.vars) within)
