-- Full trails.
use Rattle.std.proofs.Common.{◌≡◌, ◌≢◌, ℕ, ◌+◌, ◌-◌, List, length, refl, sym, ◌∙◌, ap, subst, arith, Bool, true, false, cond, inl, inr, Option, None, Some}
use Rattle.std.specs.Prelude.{slice_index_or, unwrap_or, IsSomeAnd}
use Rattle.std.proofs.lemmas.List.{ext_get_or}
use Rattle.pb_inst.specs.Literal.{Literal}
use Rattle.pb_inst.specs.Problem.{Problem}
use Rattle.pb_inst.specs.Meaning.{literal_value, IsFeasible}
use Rattle.pb_inst.specs.Order.{IsBefore}
use Rattle.pb_inst.specs.Cubes.{MakesTrue}
use Rattle.pb_inst.specs.Incumbent.{Incumbent, Solution, solution_of}
use Rattle.pb_inst.proofs.OrderProofs.{none_before_itself}
use Rattle.pb_engine.specs.Trail.{value_on}
use Rattle.pb_engine.specs.EngineState.{EngineState}
use Rattle.pb_engine.specs.Soundness.{IsFull, IsSolved, IsSoundTrail}
use Rattle.pb_prune.specs.Held.{IsImprovement}
use Rattle.pb_prune.specs.Solutions.{Completes}
use Rattle.pb_prune.specs.Subtree.{IsEngineOf, IsClosed}
use Rattle.pb_subtree.specs.SearchState.{IsFilledFrom}
use Rattle.pb_subtree.specs.Nodes.{IsFoundAt}
use Rattle.pb_subtree.proofs.HeldLemmas.{IsTaken}
use Rattle.pb_prune.proofs.ClosedLemmas.{at, bit_of_true}
use Rattle.pb_prune.proofs.ValueLemmas.{value_on-true, value_on-entry}

is_sign : (b v : Bool) → v ≡ b → cond b (cond v 1 0) (1 - cond v 1 0) ≡ 1
is_sign true true h = refl
is_sign true false h = cc
is_sign false true h = cc
is_sign false false h = refl

true_by_bit : (a : List Bool) (l : Literal) → at a (l.var - 1) ≡ l.positive → literal_value a l ≡ 1
true_by_bit a l h = is_sign l.positive (at a (l.var - 1)) h

some_is : (o : Option Bool) → o ≢ None → (b : Bool) × (o ≡ Some b)
some_is None h = absurd (h refl)
some_is (Some b) h = (b, refl)

-- a full trail has one completion
full_completion_is : (s : EngineState) (z a : List Bool) → IsFull s → IsFilledFrom s.trail z → length z ≡ s.vars → Completes s a → a ≡ z
full_completion_is s z a full filled len h =
    ext_get_or false a z (h.solution.for_all_variables ∙ sym len) (λ k lt.
    let v = some_is (value_on s.trail (k + 1)) (full (k + 1) (omega arith) (omega (arith, h.solution.for_all_variables))) in
    let in_a : at a k ≡ v.0 = bit_of_true a k v.0 (value_on-true a s.trail (k + 1) v.0 h.makes_true v.1) in
    let in_z : at z k ≡ v.0 = filled k (omega (arith, h.solution.for_all_variables)) ∙ ap (λ (o : Option Bool). unwrap_or o false) v.1 in
    in_a ∙ sym in_z)

-- what is filled from a trail makes the trail true
filled_makes_true : (s : EngineState) (z : List Bool) → IsFilledFrom s.trail z → length z ≡ s.vars → IsSoundTrail s → MakesTrue z s.trail
filled_makes_true s z filled len sound k d lt =
    let range = sound.proper.variables k d lt in
    let e : (slice_index_or s.trail k d).var - 1 + 1 ≡ (slice_index_or s.trail k d).var = omega (arith, range.0) in
    let bit : at z ((slice_index_or s.trail k d).var - 1) ≡ unwrap_or (value_on s.trail ((slice_index_or s.trail k d).var - 1 + 1)) false = filled ((slice_index_or s.trail k d).var - 1) (omega (arith, range.0, range.1)) in
    true_by_bit z (slice_index_or s.trail k d) (bit ∙ ap (λ (n : ℕ). unwrap_or (value_on s.trail n) false) e ∙ ap (λ (o : Option Bool). unwrap_or o false) (value_on-entry s.trail sound.proper.once k d lt))

filled_completes : (s : EngineState) (z : List Bool) → IsFilledFrom s.trail z → length z ≡ s.vars → IsSoundTrail s → IsSolved s → Completes s z
filled_completes s z filled len sound solved =
    let all = filled_makes_true s z filled len sound in record { solution = record { for_all_variables = len; meets_rows = solved z all }; makes_true = all }

-- once the only completion is held, none is before it
closed_when_held : (p : Problem) (s : EngineState) (z : List Bool) (held : Option Solution) → ((a : List Bool) → Completes s a → a ≡ z) → held ≡ Some (solution_of p z) → IsClosed p s held
closed_when_held p s z held only e a h k = none_before_itself p z (subst (λ (x : List Bool). IsBefore p x z) (only a h) (subst (λ (o : Option Solution). IsImprovement p a o) e k))

-- where the only completion is no improvement, none is
closed_when_refused : (p : Problem) (s : EngineState) (z : List Bool) (held : Option Solution) → IsEngineOf p s → ((a : List Bool) → Completes s a → a ≡ z) → ¬ (IsFeasible p z × IsImprovement p z held) → IsClosed p s held
closed_when_refused p s z held engine only refused a h k =
    refused (subst (λ (x : List Bool). IsFeasible p x × IsImprovement p x held) (only a h) (engine.feasible a h.solution.meets_rows, k))

-- whatever the incumbent answers to the assignment of a full trail, its only completion
pub leaf_closes : (s : EngineState) (old new : Incumbent) (z : List Bool) (answer : Bool) → IsEngineOf old.problem s → IsFull s → IsFilledFrom s.trail z → length z ≡ s.vars → IsTaken old new z answer → IsClosed old.problem s new.held
leaf_closes s old new z true engine full filled len h = closed_when_held old.problem s z new.held (λ a k. full_completion_is s z a full filled len k) (h.accepted refl).0
leaf_closes s old new z false engine full filled len h =
    let r = h.refused refl in
    subst (λ (i : Incumbent). IsClosed old.problem s i.held) (sym r.0) (closed_when_refused old.problem s z old.held engine (λ a k. full_completion_is s z a full filled len k) r.1)

pub leaf_own : (s : EngineState) (old new : Incumbent) (z : List Bool) (answer : Bool) → IsFilledFrom s.trail z → length z ≡ s.vars → IsSoundTrail s → IsSolved s → IsTaken old new z answer → IsFoundAt s old new
leaf_own s old new z true filled len sound solved h = inr (subst (λ (o : Option Solution). IsSomeAnd o (λ t. Completes s t.assignment)) (sym (h.accepted refl).0) (filled_completes s z filled len sound solved))
leaf_own s old new z false filled len sound solved h = inl (h.refused refl).0
