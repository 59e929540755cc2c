-- What a dive leaves of the search, and what it found.
use Rattle.std.proofs.Common.{◌≡◌, ◌≢◌, ◌∙◌, ◌≤◌, ℕ, refl, List, length, get_or, take, ap, subst, sym, arith, Bool, inl, inr, ◌⊎◌, Option, None, Some}
use Rattle.std.specs.Prelude.{IsSomeAnd}
use Rattle.std.proofs.lemmas.Bool.{cases_lt}
use Rattle.std.proofs.Math.ListN.{get_or-eq_default}
use Rattle.std.proofs.lemmas.List.{take_all}
use Rattle.pb_inst.specs.Literal.{Literal}
use Rattle.pb_inst.specs.Cubes.{MakesTrue}
use Rattle.pb_inst.specs.Incumbent.{Incumbent, Solution}
use Rattle.pb_engine.specs.EngineState.{EngineState}
use Rattle.pb_engine.specs.Trail.{value_on}
use Rattle.pb_engine.specs.Soundness.{assumptions, IsFull, IsSoundTrail}
use Rattle.pb_dive.specs.Dives.{LeadsBack}
use Rattle.pb_control.specs.Budget.{IsPaidFrom}
use Rattle.pb_subtree.specs.Descent.{IsDescentPaid}
use Rattle.pb_subtree.specs.Nodes.{IsFoundAt}
use Rattle.pb_subtree.specs.declared.search_state.SearchState.{SearchState}
use Rattle.pb_prune.specs.Solutions.{SameConstraints, Completes}
use Rattle.pb_subtree.specs.SearchState.{SameBranchesAndRoom, SameBranches}
use Rattle.pb_control.proofs.BudgetLemmas.{paid_of_more}
use Rattle.pb_subtree.proofs.Engines.{same_constraints_itself, same_constraints_onward}
use Rattle.pb_subtree.proofs.RootLemmas.{front_true}
use Rattle.pb_subtree.proofs.SearchLemmas.{same_solution, back_solution, assumptions_true}

pub dive_constraints : (s e : EngineState) → LeadsBack s e → SameConstraints s e
dive_constraints s e h = record { form = h.form; vars = h.vars; rows = h.rows }

-- what completes the trail of a dive completes the one that it began on
completes_start : (s e : EngineState) (a : List Bool) → LeadsBack s e → Completes e a → Completes s a
completes_start s e a h k = record {
  solution = back_solution s e a (dive_constraints s e h) k.solution;
  makes_true = subst (λ (x : List Literal). MakesTrue a x) h.trail (front_true a (get_or e.levels (length s.levels) (length e.trail)) e.trail k.makes_true);
}

pub own_at_start : (s e : EngineState) (old new : Incumbent) → LeadsBack s e → IsFoundAt e old new → IsFoundAt s old new
own_at_start s e old new h (inl same) = inl same
own_at_start s e old new h (inr found) = inr (within new.held found)
  where
    within : (o : Option Solution) → IsSomeAnd o (λ t. Completes e t.assignment) → IsSomeAnd o (λ t. Completes s t.assignment)
    within None k = k
    within (Some t) k = completes_start s e t.assignment h k

-- where no assumption was added, a full trail was full before
full_at_start : (s e : EngineState) → LeadsBack s e → length e.levels ≤ length s.levels → IsFull e → IsFull s
full_at_start s e h none full var one most =
    let whole : take (get_or e.levels (length s.levels) (length e.trail)) e.trail ≡ e.trail =
    ap (λ (n : ℕ). take n e.trail) (get_or-eq_default e.levels (length e.trail) none) ∙ take_all (length e.trail) e.trail (omega arith) in
    subst (λ (x : List Literal). value_on x var ≢ None) (sym whole ∙ h.trail) (full var one (subst (λ (n : ℕ). var ≤ n) (sym h.vars) most))

-- a dive to a full trail made decisions, unless the trail was full before
pub dive_is_paid : (s e : EngineState) (budget left : Option ℕ) → LeadsBack s e → IsDescentPaid s e budget left → IsFull e → IsFull s ⊎ IsPaidFrom budget left
dive_is_paid s e budget left h paid full = elim (cases_lt 0 paid.decisions) [
  | inl some ↦ inr (paid_of_more paid.decisions budget left some paid.counted)
  | inr none ↦ inl (full_at_start s e h (omega (arith, paid.assumed)) full)
]

-- the place is the same as itself, and after more of such steps
pub same_branches_itself : {C : Type 0} (t : SearchState C) → SameBranches t t
same_branches_itself t = record { constraints = same_constraints_itself t.engine; assumptions = refl; branches = refl; room = refl; returns = refl }

-- where the engine is the same again
pub same_branches_back : {C : Type 0} (t u : SearchState C) → u.engine ≡ t.engine → SameBranchesAndRoom t u → SameBranches t u
same_branches_back t u same beside = record {
  constraints = subst (λ (e : EngineState). SameConstraints t.engine e) (sym same) (same_constraints_itself t.engine);
  assumptions = ap (λ (e : EngineState). assumptions e) same;
  branches = beside.branches;
  room = beside.room;
  returns = beside.returns;
}

pub same_branches_onward : {C : Type 0} (t u v : SearchState C) → SameBranches t u → SameBranches u v → SameBranches t v
same_branches_onward t u v h k = record {
  constraints = same_constraints_onward t.engine u.engine v.engine h.constraints k.constraints;
  assumptions = k.assumptions ∙ h.assumptions;
  branches = k.branches ∙ h.branches;
  room = k.room ∙ h.room;
  returns = k.returns ∙ h.returns;
}

-- a completion of the trail makes true what follows from the same assumptions
completes_later : {C : Type 0} (t u : SearchState C) (a : List Bool) → SameBranches t u → IsSoundTrail t.engine → IsSoundTrail u.engine → Completes t.engine a → Completes u.engine a
completes_later t u a same before after h =
    let there = same_solution t.engine u.engine a same.constraints h.solution in
    record {
      solution = there;
      makes_true = after.forced a there.meets_rows (subst (λ (x : List Literal). MakesTrue a x) (sym same.assumptions) (assumptions_true a t.engine before h.makes_true));
    }

-- what was found at an earlier trail and at a later one
pub own_later : {C : Type 0} (t u : SearchState C) (x y z : Incumbent) → SameBranches t u → IsSoundTrail t.engine → IsSoundTrail u.engine → IsFoundAt t.engine x y → IsFoundAt u.engine y z → IsFoundAt u.engine x z
own_later t u x y z same before after (inl h) (inl k) = inl (k ∙ h)
own_later t u x y z same before after (inr h) (inl k) = inr (subst (λ (i : Incumbent). IsSomeAnd i.held (λ s. Completes u.engine s.assignment)) (sym k) (within y.held h))
  where
    within : (o : Option Solution) → IsSomeAnd o (λ s. Completes t.engine s.assignment) → IsSomeAnd o (λ s. Completes u.engine s.assignment)
    within None m = m
    within (Some s) m = completes_later t u s.assignment same before after m
own_later t u x y z same before after h (inr k) = inr k
