-- The invariant of the search: how it starts, goes on and ends.
use Rattle.std.proofs.Common.{◌≡◌, ℕ, ◌+◌, ◌<◌, length-append, ◌≤◌, List, [], ◌∷◌, ◌++◌, length, refl, sym, ◌∙◌, ap, subst, arith, Bool, true, false, All, inl, inr, ◌⊎◌, Option, None, Some}
use Rattle.std.specs.Prelude.{IsSomeAnd, IfSome, IfNone, vec_capacity}
use Rattle.std.proofs.lemmas.List.Elements.{All-nil, All-append}
use Rattle.std.proofs.lemmas.List.{append-nil, get_or-map, length-map}
use Rattle.pb_inst.specs.Literal.{Literal}
use Rattle.pb_inst.specs.Problem.{Problem}
use Rattle.pb_inst.specs.Meaning.{literal_value}
use Rattle.pb_inst.specs.Cubes.{MakesTrue}
use Rattle.pb_inst.specs.Incumbent.{Incumbent, Solution}
use Rattle.pb_normal.specs.NormalForm.{PositiveRow, NormalForm, MeetsRows, KeepsCost}
use Rattle.pb_engine.specs.EngineState.{EngineState}
use Rattle.pb_engine.specs.Propagation.{AddsForced}
use Rattle.pb_engine.specs.Soundness.{assumptions, literal_at, IsSoundTrail}
use Rattle.pb_control.specs.declared.branch.Branch.{Branch}
use Rattle.pb_subtree.specs.declared.search_state.SearchState.{SearchState}
use Rattle.pb_prune.specs.Held.{IsNotAfter}
use Rattle.pb_prune.specs.declared.agreed_prefix.AgreedPrefix.{AgreedPrefix}
use Rattle.pb_subtree.specs.Paths.{decided, search_steps, LiesOpen, LeavesOpen, IsOtherValue}
use Rattle.pb_prune.specs.Solutions.{SameConstraints, Satisfies, SatisfiesUnder, Completes}
use Rattle.pb_engine.specs.Free.{IsFree}
use Rattle.pb_prune.specs.Subtree.{IsEngineOf, IsClosed, IsOpenOnOneSide}
use Rattle.pb_subtree.specs.SearchState.{IsStateOf, IsAtPath, IsAtSomePath, IsFreshOrOneSided, SameBranches, IsUnderWay, IsLeaving, IsNext, LeavesFewer, IsOwn}
use Rattle.pb_subtree.specs.Nodes.{IsBackOnPath, IsFoundAt, IsOnPath}
use Rattle.pb_subtree.proofs.HeldLemmas.{improvement_on_earlier}
use Rattle.pb_subtree.proofs.PathLemmas.{decide_keeps, decide_keeps_one_sided, back_keeps, leaves_open, leaves_last, turn_keeps}
use Rattle.pb_subtree.proofs.Engines.{same_constraints, same_constraints_onward, same_constraints_itself, propagated}
use Rattle.pb_subtree.proofs.Moves.{All_front, free_other}

-- the same constraints have the same solutions
pub same_solution : (s t : EngineState) (a : List Bool) → SameConstraints s t → Satisfies s a → Satisfies t a
same_solution s t a same h = record {
  for_all_variables = h.for_all_variables ∙ sym same.vars;
  meets_rows = subst (λ (rows : List PositiveRow). MeetsRows a rows) (sym same.rows) h.meets_rows;
}

pub back_solution : (s t : EngineState) (a : List Bool) → SameConstraints s t → Satisfies t a → Satisfies s a
back_solution s t a same h = same_solution t s a (record { form = sym same.form; vars = sym same.vars; rows = sym same.rows }) h

pub same_engine : (p : Problem) (s t : EngineState) → SameConstraints s t → IsEngineOf p s → IsEngineOf p t
same_engine p s t same h = record {
  vars = same.vars ∙ h.vars;
  feasible = λ a meets. h.feasible a (subst (λ (rows : List PositiveRow). MeetsRows a rows) same.rows meets);
  costs = subst (λ (f : NormalForm). KeepsCost p f) (sym same.form) h.costs;
}

-- what makes the trail true makes the assumptions true
pub assumptions_true : (a : List Bool) (s : EngineState) → IsSoundTrail s → MakesTrue a s.trail → MakesTrue a (assumptions s)
assumptions_true a s sound h k d lt =
    let n : length (assumptions s) ≡ length s.levels = simp length-map refl in
    let low : k < length s.levels = omega arith in
    subst (λ (l : Literal). literal_value a l ≡ 1) (sym (get_or-map (λ (place : ℕ). literal_at s.trail place) s.levels k 0 d low)) (h _ _ (sound.places.within k 0 low))

-- a solution below the start that follows the path completes the trail
pub completes : (root : List Literal) (s t : EngineState) (path : List Branch) (a : List Bool) → SameConstraints s t → IsAtPath root t path → SatisfiesUnder s root a → MakesTrue a (decided path) → Completes t a
completes root s t path a same at h follows =
    let sol = same_solution s t a same h.solution in
    record {
      solution = sol;
      makes_true = at.sound.forced a sol.meets_rows (subst (λ (x : List Literal). MakesTrue a x) (sym at.assumed) (All-append (λ l. literal_value a l ≡ 1) root (decided path) h.makes_true follows));
    }

-- a completion of the trail is a solution below the start
pub below_start : (root : List Literal) (s t : EngineState) (path : List Branch) (a : List Bool) → SameConstraints s t → IsAtPath root t path → Completes t a → SatisfiesUnder s root a
below_start root s t path a same at h = record {
  solution = back_solution s t a same h.solution;
  makes_true = All_front (λ l. literal_value a l ≡ 1) root (decided path) (subst (λ (x : List Literal). MakesTrue a x) at.assumed (assumptions_true a t at.sound h.makes_true));
}

-- expanding a node keeps the place in the search tree
expanded_at : {C : Type 0} (root : List Literal) (t u : SearchState C) → SameBranches t u → IsSoundTrail u.engine → IsAtPath root t.engine t.branches.items → IsAtPath root u.engine u.branches.items
expanded_at root t u same sound at = record {
  assumed = same.assumptions ∙ at.assumed ∙ ap (λ v. root ++ decided v.items) (sym same.branches);
  variables = subst (λ v. All (λ (b : Branch). b.lit.var ≤ u.engine.vars) v.items) (sym same.branches) (subst (λ (n : ℕ). All (λ (b : Branch). b.lit.var ≤ n) t.branches.items) (sym same.constraints.vars) at.variables);
  sound = sound;
}

pub some_path : {C : Type 0} (t u : SearchState C) → SameBranches t u → IsSoundTrail u.engine → IsAtSomePath t.engine t.branches.items → IsAtSomePath u.engine u.branches.items
some_path t u same sound h = record { root = h.root; at = expanded_at h.root t u same sound h.at }

pub expanded_state : {C : Type 0} (p : Problem) (t u : SearchState C) → SameBranches t u → IsStateOf p t → IsStateOf p u
expanded_state p t u same h = record {
  engine = same_engine p t.engine u.engine same.constraints h.engine;
  few_variables = h.few_variables;
  candidate = same.room ∙ h.candidate;
  room = subst (λ v. p.vars ≤ vec_capacity v) (sym same.branches) h.room;
}

pub state_moves : {C : Type 0} (p : Problem) (u w : SearchState C) → SameConstraints u.engine w.engine → vec_capacity w.branches ≡ vec_capacity u.branches → length w.candidate ≡ length u.candidate → IsStateOf p u → IsStateOf p w
state_moves p u w same room candidate h = record {
  engine = same_engine p u.engine w.engine same h.engine;
  few_variables = h.few_variables;
  candidate = candidate ∙ h.candidate;
  room = subst (λ (n : ℕ). p.vars ≤ n) (sym room) h.room;
}

-- propagation keeps the place
pub place_propagated : {C : Type 0} (t u : SearchState C) (trail : List Literal) (conflict : Bool) → IsSoundTrail t.engine → u.engine ≡ record t.engine { trail = trail; conflict = conflict } → AddsForced t.engine.rows t.engine.trail trail → u.branches ≡ t.branches → length u.candidate ≡ length t.candidate → u.root_work ≡ t.root_work → SameBranches t u
place_propagated t u trail conflict sound added forced branches room returns = record {
  constraints = same_constraints t.engine u.engine trail t.engine.levels conflict added;
  assumptions = propagated t.engine u.engine trail conflict sound added forced;
  branches = branches;
  room = room;
  returns = returns;
}

-- expanding a node keeps what is under way
pub stays_under_way : {C : Type 0} (p : Problem) (start : EngineState) (t u : SearchState C) (old new : Option Solution) → SameBranches t u → IsSoundTrail u.engine → IsNotAfter p old new → IsUnderWay p start t old → IsUnderWay p start u new
stays_under_way p start t u old new same sound later h = record {
  made_for = expanded_state p t u same h.made_for;
  at_path = expanded_at (assumptions start) t u same sound h.at_path;
  constraints = same_constraints_onward start t.engine u.engine h.constraints same.constraints;
  all_open = λ a below better. subst (λ v. LiesOpen a v.items) (sym same.branches) (h.all_open a below (improvement_on_earlier p a old new later better));
}

-- a decision where the search stands
pub decide_next : {C : Type 0} (p : Problem) (start : EngineState) (t : SearchState C) (next : Branch) (held : Option Solution) → IsFree t.engine next.lit → IsFreshOrOneSided p t.engine held next → IsUnderWay p start t held → IsNext p start t next held
decide_next p start t next held free sides h = record {
  made_for = h.made_for;
  at_path = h.at_path;
  constraints = h.constraints;
  free = free;
  all_open = λ a below better.
      let lies : LiesOpen a t.branches.items = h.all_open a below better in
      elim sides [
        | inl fresh ↦ decide_keeps a t.branches.items next fresh lies
        | inr one_sided ↦ decide_keeps_one_sided a t.branches.items next (λ follows. one_sided a (completes (assumptions start) start t.engine t.branches.items a h.constraints h.at_path below follows) better) lies
      ];
}

-- a literal whose negation can lead to nothing better may be assumed
pub free_open : (p : Problem) (s : EngineState) (l : Literal) (held : Option Solution) → s.conflict ≡ false → IsOpenOnOneSide p s held l → IsFree s l
free_open p s l held none h = record { variable = h.variable; no_value = h.no_value; no_conflict = none }

-- after an expansion that left the node open
pub open_next : {C : Type 0} (p : Problem) (start : EngineState) (t u : SearchState C) (next : Branch) (old new : Option Solution) → SameBranches t u → IsSoundTrail u.engine → IsFree u.engine next.lit → IsFreshOrOneSided p u.engine new next → IsNotAfter p old new → IsUnderWay p start t old → IsNext p start u next new
open_next p start t u next old new same sound free sides later h = decide_next p start u next new free sides (stays_under_way p start t u old new same sound later h)

-- after an expansion that closed the node
pub closed_leaving : {C : Type 0} (p : Problem) (start : EngineState) (t u : SearchState C) (old new : Option Solution) → SameBranches t u → IsSoundTrail u.engine → IsClosed p u.engine new → IsNotAfter p old new → IsUnderWay p start t old → IsLeaving p start u new
closed_leaving p start t u old new same sound closed later h =
    let at = expanded_at (assumptions start) t u same sound h.at_path in
    let constraints = same_constraints_onward start t.engine u.engine h.constraints same.constraints in
    record {
      made_for = expanded_state p t u same h.made_for;
      at_path = at;
      constraints = constraints;
      all_leave = λ a below better.
          leaves_open a u.branches.items (subst (λ v. LiesOpen a v.items) (sym same.branches) (h.all_open a below (improvement_on_earlier p a old new later better)))
          (λ follows. closed a (completes (assumptions start) start u.engine u.branches.items a constraints at below follows) better);
    }

-- a decision was taken back
pub record IsStep {C : Type 0} (p : Problem) (t u : SearchState C) (b : Branch) : Type 0 where
  pub popped : t.branches.items ≡ u.branches.items ++ b ∷ []
  pub constraints : SameConstraints t.engine u.engine
  pub at_path : (root : List Literal) → IsAtPath root t.engine t.branches.items → IsAtPath root u.engine u.branches.items
  pub made_for : IsStateOf p t → IsStateOf p u
  pub free : IsFree u.engine b.lit

pub step_of : {C : Type 0} (p : Problem) (t u : SearchState C) (e : EngineState) (b : Branch) → t.branches.items ≡ u.branches.items ++ b ∷ [] → SameConstraints t.engine e → ((root : List Literal) → IsAtPath root t.engine t.branches.items → IsAtPath root e u.branches.items) → IsFree e b.lit → vec_capacity u.branches ≡ vec_capacity t.branches → length u.candidate ≡ length t.candidate → u.engine ≡ e → IsStep p t u b
step_of p t u e b popped same at free room candidate is =
    let constraints : SameConstraints t.engine u.engine = subst (λ (x : EngineState). SameConstraints t.engine x) (sym is) same in
    record {
      popped = popped;
      constraints = constraints;
      at_path = λ root h. subst (λ (x : EngineState). IsAtPath root x u.branches.items) (sym is) (at root h);
      made_for = λ h. state_moves p t u constraints room candidate h;
      free = subst (λ (x : EngineState). IsFree x b.lit) (sym is) free;
    }

-- what is under way stays so without its last decision
pub under_way_without : {C : Type 0} (p : Problem) (start : EngineState) (t u : SearchState C) (b : Branch) (held : Option Solution) → IsStep p t u b → IsUnderWay p start t held → IsUnderWay p start u held
under_way_without p start t u b held step h = record {
  made_for = step.made_for h.made_for;
  at_path = step.at_path (assumptions start) h.at_path;
  constraints = same_constraints_onward start t.engine u.engine h.constraints step.constraints;
  all_open = λ a below better. back_keeps a u.branches.items b (subst (λ (x : List Branch). LiesOpen a x) step.popped (h.all_open a below better));
}

-- before any decision is taken back
pub back_itself : {C : Type 0} (p : Problem) (t : SearchState C) (held : Option Solution) (agreed : AgreedPrefix) → IsOnPath p t held agreed → IsBackOnPath p t t held agreed
back_itself p t held agreed h = record { made_for = h.state; at_path = h.at_path; known = h.known; constraints = same_constraints_itself t.engine; returns = refl }

-- nothing is left to try at the decision that was taken back
pub leaving_on : {C : Type 0} (p : Problem) (start : EngineState) (t u : SearchState C) (b : Branch) (held : Option Solution) → IsStep p t u b → (b.flipped ≡ true) ⊎ IsClosed p u.engine held → IsLeaving p start t held → IsLeaving p start u held
leaving_on p start t u b held step spent h =
    let constraints = same_constraints_onward start t.engine u.engine h.constraints step.constraints in
    let at = step.at_path (assumptions start) h.at_path in
    record {
      made_for = step.made_for h.made_for;
      at_path = at;
      constraints = constraints;
      all_leave = λ a below better.
          leaves_before a u.branches.items b (subst (λ (x : List Branch). LeavesOpen a x) step.popped (h.all_leave a below better))
          (λ here. absurd (no_choice b.flipped spent here.1 (λ closed. closed a (completes (assumptions start) start u.engine u.branches.items a constraints at below here.0) better)));
    }
  where
    leaves_before : (a : List Bool) (path : List Branch) (c : Branch) → LeavesOpen a (path ++ c ∷ []) → (MakesTrue a (decided path) × (c.flipped ≡ false) → LeavesOpen a path) → LeavesOpen a path
    leaves_before a path c k otherwise = elim (leaves_last a path c k) [ inl before ↦ before | inr here ↦ otherwise here ]

    no_choice : (flipped : Bool) → (flipped ≡ true) ⊎ IsClosed p u.engine held → flipped ≡ false → (IsClosed p u.engine held → ⊥) → ⊥
    no_choice flipped (inl is) isnt none = let e : true ≡ false = sym is ∙ isnt in let bad : ⊥ = cc in bad
    no_choice flipped (inr closed) isnt none = none closed

-- other notes of the work at the root
pub with_work : {C : Type 0} (p : Problem) (start : EngineState) (t : SearchState C) (w : ℕ) (held : Option Solution) → IsUnderWay p start t held → IsUnderWay p start (record t { root_work = w }) held
with_work p start t w held h = record {
  made_for = record { engine = h.made_for.engine; few_variables = h.made_for.few_variables; candidate = h.made_for.candidate; room = h.made_for.room };
  at_path = h.at_path;
  constraints = h.constraints;
  all_open = h.all_open;
}

pub leaving_with_work : {C : Type 0} (p : Problem) (start : EngineState) (t : SearchState C) (w : ℕ) (held : Option Solution) → IsLeaving p start t held → IsLeaving p start (record t { root_work = w }) held
leaving_with_work p start t w held h = record {
  made_for = record { engine = h.made_for.engine; few_variables = h.made_for.few_variables; candidate = h.made_for.candidate; room = h.made_for.room };
  at_path = h.at_path;
  constraints = h.constraints;
  all_leave = h.all_leave;
}

-- the other value of the decision that was taken back is tried next
pub turn_next : {C : Type 0} (p : Problem) (start : EngineState) (t u : SearchState C) (b next : Branch) (held : Option Solution) → IsStep p t u b → IsOtherValue b next → IsLeaving p start t held → IsNext p start u next held
turn_next p start t u b next held step other h = record {
  made_for = step.made_for h.made_for;
  at_path = step.at_path (assumptions start) h.at_path;
  constraints = same_constraints_onward start t.engine u.engine h.constraints step.constraints;
  free = free_other u.engine b next other step.free;
  all_open = λ a below better. turn_keeps a u.branches.items b next other (subst (λ (x : List Branch). LeavesOpen a x) step.popped (h.all_leave a below better));
}

-- what an expansion found lies below the start
pub expanded_own : {C : Type 0} (p : Problem) (start : EngineState) (t u : SearchState C) (old new : Incumbent) → SameBranches t u → IsSoundTrail u.engine → IsFoundAt u.engine old new → IsUnderWay p start t old.held → IsOwn start old new
expanded_own p start t u old new same sound (inl is) h = inl is
expanded_own p start t u old new same sound (inr found) h =
    inr (within new.held found)
  where
    within : (o : Option Solution) → IsSomeAnd o (λ s. Completes u.engine s.assignment) → IsSomeAnd o (λ s. SatisfiesUnder start (assumptions start) s.assignment)
    within None k = k
    within (Some s) k = below_start (assumptions start) start u.engine u.branches.items s.assignment (same_constraints_onward start t.engine u.engine h.constraints same.constraints) (expanded_at (assumptions start) t u same sound h.at_path) k

-- the search begins
pub begins : {C : Type 0} (p : Problem) (t : SearchState C) (held : Option Solution) → IsStateOf p t → IsSoundTrail t.engine → t.branches.items ≡ [] → IsUnderWay p t.engine t held
begins p t held made sound empty = record {
  made_for = made;
  at_path = record {
    assumed = sym (append-nil (assumptions t.engine)) ∙ ap (λ (x : List Branch). assumptions t.engine ++ decided x) (sym empty);
    variables = subst (λ (x : List Branch). All (λ b. b.lit.var ≤ t.engine.vars) x) (sym empty) (All-nil (λ (b : Branch). b.lit.var ≤ t.engine.vars));
    sound = sound;
  };
  constraints = same_constraints_itself t.engine;
  all_open = λ a below better. subst (λ (x : List Branch). LiesOpen a x) (sym empty) tt;
}

-- the decision is made, and what is held may have moved on
pub goes_on : {C : Type 0} (p : Problem) (start : EngineState) (t u : SearchState C) (next : Branch) (old new : Option Solution) → IsNext p start t next old → IsNotAfter p old new → IsAtPath (assumptions start) u.engine u.branches.items → u.branches.items ≡ t.branches.items ++ next ∷ [] → SameConstraints t.engine u.engine → IsStateOf p u → IsUnderWay p start u new
goes_on p start t u next old new h later at added same made = record {
  made_for = made;
  at_path = at;
  constraints = same_constraints_onward start t.engine u.engine h.constraints same;
  all_open = λ a below better. subst (λ (x : List Branch). LiesOpen a x) (sym added) (h.all_open a below (improvement_on_earlier p a old new later better));
}

pub own_onward : (start : EngineState) (x y z : Incumbent) → IsOwn start x y → IsOwn start y z → IsOwn start x z
own_onward start x y z (inl h) (inl k) = inl (k ∙ h)
own_onward start x y z (inr h) (inl k) = inr (subst (λ (i : Incumbent). IsSomeAnd i.held (λ s. SatisfiesUnder start (assumptions start) s.assignment)) (sym k) h)
own_onward start x y z h (inr k) = inr k

-- what is said at one problem holds at an equal one
pub at_problem : (p q : Problem) (F G : Problem → Type 0) → q ≡ p → (F q → G q) → F p → G p
at_problem p q F G e h = subst (λ (x : Problem). F x → G x) e h

-- facts on the value of an option
pub if_some_map : (o : Option Branch) (P Q : Branch → Type 0) → ((b : Branch) → P b → Q b) → IfSome o P → IfSome o Q
if_some_map None P Q f h = h
if_some_map (Some b) P Q f h = f b h

pub if_none_map : (o : Option Branch) (P Q : Type 0) → (P → Q) → IfNone o P → IfNone o Q
if_none_map None P Q f h = f h
if_none_map (Some b) P Q f h = h

-- what a branch that is next says at the instance that the search began with
pub at_next : {C : Type 0} (p q : Problem) (start : EngineState) (t u : SearchState C) (b : Branch) (old new : Option Solution) → q ≡ p → (IsUnderWay q start t old → IsNext q start u b new) → IsUnderWay p start t old → IsNext p start u b new
at_next p q start t u b old new same f h = at_problem p q (λ (x : Problem). IsUnderWay x start t old) (λ (x : Problem). IsNext x start u b new) same f h

-- the decision that is made leaves fewer steps
pub next_falls : {C : Type 0} (p q : Problem) (vars : ℕ) (old new : SearchState C) (path : List Branch) (b : Branch) → q ≡ p → LeavesFewer q old new b → path ≡ new.branches.items ++ b ∷ [] → length path ≤ vars → vars ≡ p.vars → search_steps p.vars new.root_work path < search_steps p.vars old.root_work old.branches.items
next_falls p q vars old new path b same fewer added few is =
    let n : length path ≡ length new.branches.items + 1 = ap (λ (x : List Branch). length x) added ∙ length-append new.branches.items (b ∷ []) in
    let low : length new.branches.items < p.vars = omega arith in
    subst (λ (x : List Branch). search_steps p.vars new.root_work x < search_steps p.vars old.root_work old.branches.items) (sym added) (subst (λ (x : Problem). LeavesFewer x old new b) same fewer low)
