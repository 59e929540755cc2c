-- Nodes that are expanded, and expanded again after a dive or a look at the share.
use Rattle.std.proofs.Common.{◌≡◌, ◌∙◌, ap, Bool, false, inl, inr, refl, subst, sym, List, Option, None, Some}
use Rattle.std.specs.Prelude.{IfNone, IfSome}
use Rattle.pb_inst.specs.Incumbent.{Incumbent, Solution}
use Rattle.pb_inst.specs.Literal.{Literal}
use Rattle.pb_inst.specs.Problem.{Problem}
use Rattle.pb_engine.specs.EngineState.{EngineState, is_conflict}
use Rattle.pb_engine.specs.Completion.{HasNoCompletion}
use Rattle.pb_engine.specs.Propagation.{AddsForced}
use Rattle.pb_normal.specs.NormalForm.{PositiveRow}
use Rattle.pb_trail.specs.declared.propagation.Step.{Step}
use Rattle.pb_trail.specs.declared.propagation.Step.TheVariants.{Conflict, Fixed}
use Rattle.pb_engine.specs.Free.{IsFree}
use Rattle.pb_engine.specs.Soundness.{IsFull, IsSolved, IsSoundTrail}
use Rattle.pb_control.specs.declared.branch.Branch.{Branch}
use Rattle.pb_subtree.specs.declared.search_state.SearchState.{SearchState}
use Rattle.pb_prune.specs.Held.{MovesOn}
use Rattle.pb_subtree.specs.Nodes.{IsBackFromDive, IsExpanded, IsFoundAt}
use Rattle.pb_prune.specs.Subtree.{IsClosed, IsOpenOnOneSide}
use Rattle.pb_subtree.specs.SearchState.{IsFreshOrOneSided, SameBranchesAndRoom, SameBranches}
use Rattle.pb_subtree.proofs.DivingLemmas.{own_later, same_branches_back, same_branches_itself, same_branches_onward}
use Rattle.pb_subtree.proofs.HeldLemmas.{moves_itself, moves_onward}
use Rattle.pb_subtree.proofs.SearchLemmas.{place_propagated}

-- what is held stayed the same, or was found at the place before
own_stays : (s : EngineState) (x y z : Incumbent) → IsFoundAt s x y → z ≡ y → IsFoundAt s x z
own_stays s x y z h same = subst (λ (i : Incumbent). IsFoundAt s x i) (sym same) h

-- a node was expanded where the search stood after it had gone on at the same branches
pub expanded_onward : {C : Type 0} (lends : Bool) (s t u : SearchState C) (x y z : Incumbent) (next : Option Branch) → SameBranches s t → IsSoundTrail t.engine → MovesOn x y → (lends ≡ false → IsFoundAt t.engine x y) → IsExpanded lends t u y z next → IsExpanded lends s u x z next
expanded_onward lends s t u x y z next same sound moves own e = record {
  free = e.free;
  sides = subst (λ (p : Problem). IfSome next (λ b. IsFreshOrOneSided p u.engine z.held b)) moves.same_instance e.sides;
  closed = subst (λ (p : Problem). IfNone next (IsClosed p u.engine z.held)) moves.same_instance e.closed;
  same_branches = same_branches_onward s t u same e.same_branches;
  sound = e.sound;
  moves_on = moves_onward x y z moves e.moves_on;
  own = λ alone. own_later t u x y z e.same_branches sound e.sound (own alone) (e.own alone);
}

-- where the search stands once the share was asked after an expansion
pub record IsLookedOn {C : Type 0} (lends : Bool) (s v : SearchState C) (x z : Incumbent) : Type 0 where
  pub same_branches : SameBranches s v
  pub sound : IsSoundTrail v.engine
  pub moves_on : MovesOn x z
  pub own : lends ≡ false → IsFoundAt v.engine x z

pub looked_onward : {C : Type 0} (lends : Bool) (s u v : SearchState C) (x y z : Incumbent) (next : Option Branch) → v.engine ≡ u.engine → SameBranchesAndRoom u v → MovesOn y z → (lends ≡ false → z ≡ y) → IsExpanded lends s u x y next → IsLookedOn lends s v x z
looked_onward lends s u v x y z next same beside moves own e = record {
  same_branches = same_branches_onward s u v e.same_branches (same_branches_back u v same beside);
  sound = subst (λ (r : EngineState). IsSoundTrail r) (sym same) e.sound;
  moves_on = moves_onward x y z e.moves_on moves;
  own = λ alone. subst (λ (r : EngineState). IsFoundAt r x z) (sym same) (own_stays u.engine x y z (e.own alone) (own alone));
}

-- the same where it gave nothing: the node is as it was
pub expanded_looked : {C : Type 0} (lends : Bool) (s u v : SearchState C) (x y z : Incumbent) (next : Option Branch) → v.engine ≡ u.engine → SameBranchesAndRoom u v → MovesOn y z → z.held ≡ y.held → (lends ≡ false → z ≡ y) → IsExpanded lends s u x y next → IsExpanded lends s v x z next
expanded_looked lends s u v x y z next same beside moves nothing own e =
    let looked = looked_onward lends s u v x y z next same beside moves own e in
    record {
      free = subst (λ (r : EngineState). IfSome next (λ b. IsFree r b.lit)) (sym same) e.free;
      sides = subst (λ (r : EngineState). IfSome next (λ b. IsFreshOrOneSided x.problem r z.held b)) (sym same) (subst (λ (held : Option Solution). IfSome next (λ b. IsFreshOrOneSided x.problem u.engine held b)) (sym nothing) e.sides);
      closed = subst (λ (r : EngineState). IfNone next (IsClosed x.problem r z.held)) (sym same) (subst (λ (held : Option Solution). IfNone next (IsClosed x.problem u.engine held)) (sym nothing) e.closed);
      same_branches = looked.same_branches;
      sound = looked.sound;
      moves_on = looked.moves_on;
      own = looked.own;
    }

-- what was found up to the return from a dive
pub own_dived : {C : Type 0} (t u : SearchState C) (x y z : Incumbent) → u.engine ≡ t.engine → IsSoundTrail t.engine → IsFoundAt t.engine x y → IsFoundAt t.engine y z → IsFoundAt u.engine x z
own_dived t u x y z same sound h k = subst (λ (r : EngineState). IsFoundAt r x z) (sym same) (own_later t t x y z (same_branches_itself t) sound sound h k)

-- a node where nothing was found, and nothing is left
pub nothing_left : {C : Type 0} (lends : Bool) (s u : SearchState C) (x : Incumbent) → SameBranches s u → IsSoundTrail u.engine → IsClosed x.problem u.engine x.held → IsExpanded lends s u x x None
nothing_left lends s u x same sound closed = record { free = tt; sides = tt; closed = closed; same_branches = same; sound = sound; moves_on = moves_itself x; own = λ alone. inl refl }

-- a node where a decision is to be made
pub some_left : {C : Type 0} (lends : Bool) (s u : SearchState C) (x : Incumbent) (b : Branch) → SameBranches s u → IsSoundTrail u.engine → IsFree u.engine b.lit → IsFreshOrOneSided x.problem u.engine x.held b → IsExpanded lends s u x x (Some b)
some_left lends s u x b same sound free sides = record { free = free; sides = sides; closed = tt; same_branches = same; sound = sound; moves_on = moves_itself x; own = λ alone. inl refl }

-- the same for a literal whose negation can lead to nothing better
pub one_side_left : {C : Type 0} (lends : Bool) (s u : SearchState C) (x : Incumbent) (b : Branch) (l : Literal) → b.lit ≡ l → SameBranches s u → IsSoundTrail u.engine → u.engine.conflict ≡ false → IsOpenOnOneSide x.problem u.engine x.held l → IsExpanded lends s u x x (Some b)
one_side_left lends s u x b l is same sound none side =
    let here : IsOpenOnOneSide x.problem u.engine x.held b.lit = subst (λ (m : Literal). IsOpenOnOneSide x.problem u.engine x.held m) (sym is) side in
    some_left lends s u x b same sound (record { variable = here.variable; no_value = here.no_value; no_conflict = none }) (inr here.one_sided)

-- a full trail was handed over, and the engine is the same
pub leaf_left : {C : Type 0} (lends : Bool) (s t u : SearchState C) (x y : Incumbent) → SameBranches s t → IsSoundTrail t.engine → u.engine ≡ t.engine → SameBranchesAndRoom t u → IsClosed x.problem t.engine y.held → MovesOn x y → IsFoundAt t.engine x y → IsExpanded lends s u x y None
leaf_left lends s t u x y same sound is beside closed moves own = record {
  free = tt;
  sides = tt;
  closed = subst (λ (e : EngineState). IsClosed x.problem e y.held) (sym is) closed;
  same_branches = same_branches_onward s t u same (same_branches_back t u is beside);
  sound = subst (λ (e : EngineState). IsSoundTrail e) (sym is) sound;
  moves_on = moves;
  own = λ alone. subst (λ (e : EngineState). IsFoundAt e x y) (sym is) own;
}

-- nothing but what stands beside the engine changed
pub beside_left : {C : Type 0} (s t u : SearchState C) → SameBranches s t → u.engine ≡ t.engine → SameBranchesAndRoom t u → SameBranches s u
beside_left s t u same is beside = same_branches_onward s t u same (same_branches_back t u is beside)

-- where the search stands once it dived after an expansion
pub dived_onward : {C : Type 0} (lends : Bool) (s t d : SearchState C) (x y z : Incumbent) (next : Option Branch) → IsExpanded lends s t x y next → IsBackFromDive lends t d y z → IsLookedOn lends s d x z
dived_onward lends s t d x y z next e dived = record {
  same_branches = same_branches_onward s t d e.same_branches dived.same_branches;
  sound = subst (λ (r : EngineState). IsSoundTrail r) (sym dived.taken_back) e.sound;
  moves_on = moves_onward x y z e.moves_on dived.moves_on;
  own = λ alone. own_dived t d x y z dived.taken_back e.sound (e.own alone) (dived.own alone);
}

-- a decision with both values to try stays so
pub expanded_dived : {C : Type 0} (lends : Bool) (s t d : SearchState C) (x y z : Incumbent) (b : Branch) → b.flipped ≡ false → IsExpanded lends s t x y (Some b) → IsBackFromDive lends t d y z → IsExpanded lends s d x z (Some b)
expanded_dived lends s t d x y z b fresh e dived =
    let there = dived_onward lends s t d x y z (Some b) e dived in
    record {
      free = subst (λ (r : EngineState). IsFree r b.lit) (sym dived.taken_back) e.free;
      sides = inl fresh;
      closed = tt;
      same_branches = there.same_branches;
      sound = there.sound;
      moves_on = there.moves_on;
      own = there.own;
    }

-- where the search stands once it has propagated at a node
pub record IsPropagated {C : Type 0} (s u : SearchState C) (step : Step) : Type 0 where
  pub same_branches : SameBranches s u
  pub forced : AddsForced s.engine.rows s.engine.trail u.engine.trail
  pub no_completion : step ≡ Conflict → HasNoCompletion u.engine.rows u.engine.trail
  pub fixed : step ≡ Fixed → u.engine.conflict ≡ false
  pub solved : step ≡ Fixed → IsFull u.engine → IsSolved u.engine
  pub sound : IsSoundTrail u.engine

-- the engine propagated, and nothing else changed that a search goes by
pub node_propagated : {C : Type 0} (s u : SearchState C) (e : EngineState) (step : Step) → IsSoundTrail s.engine → e ≡ record s.engine { trail = e.trail; conflict = is_conflict step } → AddsForced s.engine.rows s.engine.trail e.trail → (step ≡ Conflict → HasNoCompletion s.engine.rows e.trail) → (step ≡ Fixed → IsFull e → IsSolved e) → IsSoundTrail e → u.engine ≡ e → SameBranchesAndRoom (record s { engine = e }) u → IsPropagated s u step
node_propagated s u e step sound_before added forced none solved sound same beside = record {
  same_branches = place_propagated s u e.trail (is_conflict step) sound_before (same ∙ added) forced beside.branches beside.room beside.returns;
  forced = subst (λ (r : EngineState). AddsForced s.engine.rows s.engine.trail r.trail) (sym same) forced;
  no_completion = λ is. subst (λ (r : EngineState). HasNoCompletion r.rows r.trail) (sym same) (subst (λ (rows : List PositiveRow). HasNoCompletion rows e.trail) (sym (ap (λ (r : EngineState). r.rows) added)) (none is));
  fixed = λ is. ap (λ (r : EngineState). r.conflict) (same ∙ added) ∙ ap (λ (st : Step). is_conflict st) is;
  solved = λ is. subst (λ (r : EngineState). IsFull r → IsSolved r) (sym same) (solved is);
  sound = subst (λ (r : EngineState). IsSoundTrail r) (sym same) sound;
}
