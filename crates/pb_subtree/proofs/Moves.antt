-- Decisions and backtracking keep the trail and the path together.
use Rattle.std.proofs.Common.{◌≡◌, ℕ, ◌+◌, ◌-◌, ◌<◌, ◌≤◌, List, [], ◌∷◌, ◌++◌, length, take, refl, sym, ◌∙◌, ap, subst, arith, suc, Bool, false, All, append_assoc, length-append}
use Rattle.std.proofs.lemmas.List.{map-append, length-map}
use Rattle.std.proofs.lemmas.List.Elements.{All-nil, All-cons, All-append}
use Rattle.pb_inst.specs.Literal.{Literal}
use Rattle.pb_engine.specs.Trail.{value_on}
use Rattle.pb_engine.specs.EngineState.{EngineState, trail_before}
use Rattle.pb_engine.specs.Soundness.{assumptions, IsSoundTrail}
use Rattle.pb_control.specs.declared.branch.Branch.{Branch}
use Rattle.pb_subtree.specs.Paths.{decided, IsOtherValue}
use Rattle.pb_engine.specs.Free.{IsFree}
use Rattle.pb_subtree.specs.SearchState.{IsAtPath}
use Rattle.pb_subtree.proofs.Engines.{same_constraints, assumed, undone, assumptions-few}

-- what holds of all holds of the front and of the last
pub All_front : {X : Type 0} (P : X → Type 0) (xs ys : List X) → All P (xs ++ ys) → All P xs
All_front P [] ys h = All-nil P
All_front P (x ∷ xs) ys h = All-cons P x xs (h 0 x (omega arith)) (All_front P xs ys (λ k d lt. h (suc k) d (omega arith)))

pub All_last : {X : Type 0} (P : X → Type 0) (xs : List X) (y : X) → All P (xs ++ y ∷ []) → P y
All_last P [] y h = h 0 y (omega arith)
All_last P (x ∷ xs) y h = All_last P xs y (λ k d lt. h (suc k) d (omega arith))

pub decided-push : (path : List Branch) (b : Branch) → decided (path ++ b ∷ []) ≡ decided path ++ b.lit ∷ []
decided-push path b = map-append (λ (c : Branch). c.lit) path (b ∷ [])

-- the engine after an assumption
abbrev pub IsAssumed : EngineState → EngineState → Literal → Bool → Type 0
IsAssumed s t l conflict = t ≡ record s { trail = s.trail ++ l ∷ []; levels = s.levels ++ length s.trail ∷ []; conflict = conflict }

-- one more decision
pub decide_few : (root : List Literal) (s t : EngineState) (path : List Branch) (l : Literal) (conflict : Bool) → IsAtPath root s path → IsAssumed s t l conflict → IsSoundTrail t → length path < s.vars
decide_few root s t path l conflict at grown sound =
    let same = same_constraints s t (s.trail ++ l ∷ []) (s.levels ++ length s.trail ∷ []) conflict grown in
    let e : assumptions t ≡ (root ++ decided path) ++ l ∷ [] = assumed s t l conflict at.sound grown ∙ ap (λ (x : List Literal). x ++ l ∷ []) at.assumed in
    let n : length (assumptions t) ≡ length root + length path + 1 = ap (λ (x : List Literal). length x) e ∙ simp (length-append, length-map) (omega arith) in
    let m : length (assumptions t) ≡ length t.levels = simp length-map refl in
    let few : length t.levels ≤ length t.trail = assumptions-few t.trail t.levels sound.places in
    let vars : t.vars ≡ s.vars = same.vars in
    omega (arith, sound.proper.room)

pub decide_at : (root : List Literal) (s t : EngineState) (path : List Branch) (b : Branch) (conflict : Bool) → IsAtPath root s path → IsAssumed s t b.lit conflict → IsSoundTrail t → b.lit.var ≤ s.vars → IsAtPath root t (path ++ b ∷ [])
decide_at root s t path b conflict at grown sound range =
    let same = same_constraints s t (s.trail ++ b.lit ∷ []) (s.levels ++ length s.trail ∷ []) conflict grown in
    record {
      assumed = assumed s t b.lit conflict at.sound grown ∙ ap (λ (x : List Literal). x ++ b.lit ∷ []) at.assumed ∙ append_assoc root (decided path) (b.lit ∷ []) ∙ ap (λ (x : List Literal). root ++ x) (sym (decided-push path b));
      variables = subst (λ (n : ℕ). All (λ (c : Branch). c.lit.var ≤ n) (path ++ b ∷ [])) (sym same.vars) (All-append (λ (c : Branch). c.lit.var ≤ s.vars) path (b ∷ []) at.variables (All-cons (λ (c : Branch). c.lit.var ≤ s.vars) b [] range (All-nil (λ (c : Branch). c.lit.var ≤ s.vars))));
      sound = sound;
    }

-- the engine after the last assumption was taken back
abbrev pub IsTakenBack : EngineState → EngineState → ℕ → Type 0
IsTakenBack s t level = t ≡ record s { trail = trail_before s level; levels = take level s.levels; conflict = false }

-- one decision fewer
pub record IsBack (root : List Literal) (t : EngineState) (path : List Branch) (b : Branch) : Type 0 where
  pub at : IsAtPath root t path
  pub free : IsFree t b.lit

-- how many assumptions there are where the last one is a decision
pub level_is : (root : List Literal) (s : EngineState) (old path : List Branch) (b : Branch) → old ≡ path ++ b ∷ [] → IsAtPath root s old → length s.levels ≡ length (root ++ decided path) + 1
level_is root s old path b popped at =
    let e : assumptions s ≡ root ++ decided (path ++ b ∷ []) = at.assumed ∙ ap (λ (x : List Branch). root ++ decided x) popped in
    let m : length (assumptions s) ≡ length s.levels = simp length-map refl in
    let n : length (assumptions s) ≡ length (root ++ decided path) + 1 = ap (λ (x : List Literal). length x) e ∙ simp (length-append, length-map) (omega arith) in
    omega arith

pub popped_back : (root : List Literal) (s t : EngineState) (old path : List Branch) (b : Branch) (count : ℕ) → old ≡ path ++ b ∷ [] → count ≡ length s.levels → IsTakenBack s t (count - 1) → IsSoundTrail t → IsAtPath root s old → IsBack root t path b
popped_back root s t old path b count popped is shorter sound at =
    let same = same_constraints s t (trail_before s (count - 1)) (take (count - 1) s.levels) false shorter in
    let e : assumptions s ≡ (root ++ decided path) ++ b.lit ∷ [] = at.assumed ∙ ap (λ (x : List Branch). root ++ decided x) popped ∙ ap (λ (x : List Literal). root ++ x) (decided-push path b) ∙ sym (append_assoc root (decided path) (b.lit ∷ [])) in
    let n : length s.levels ≡ length (root ++ decided path) + 1 = level_is root s old path b popped at in
    let u = undone s t (root ++ decided path) b.lit (count - 1) at.sound e (omega arith) (omega arith) shorter in
    let variables : All (λ (c : Branch). c.lit.var ≤ s.vars) (path ++ b ∷ []) = subst (λ (x : List Branch). All (λ (c : Branch). c.lit.var ≤ s.vars) x) popped at.variables in
    record {
      at = record {
        assumed = u.assumed;
        variables = subst (λ (n : ℕ). All (λ (c : Branch). c.lit.var ≤ n) path) (sym same.vars) (All_front (λ (c : Branch). c.lit.var ≤ s.vars) path (b ∷ []) variables);
        sound = sound;
      };
      free = record {
        variable = subst (λ (n : ℕ). b.lit.var ≤ n) (sym same.vars) (All_last (λ (c : Branch). c.lit.var ≤ s.vars) path b variables);
        no_value = u.free;
        no_conflict = ap (λ (x : EngineState). x.conflict) shorter;
      };
    }

-- some decisions were taken back
pub record IsShortened (old new : List Branch) : Type 0 where
  pub taken_back : List Branch
  pub path : old ≡ new ++ taken_back

pub shortened_more : (old path new : List Branch) (b : Branch) → IsShortened old path → path ≡ new ++ b ∷ [] → (rest : List Branch) × (old ≡ new ++ b ∷ rest)
shortened_more old path new b h popped = (h.taken_back, h.path ∙ ap (λ (x : List Branch). x ++ h.taken_back) popped ∙ append_assoc new (b ∷ []) h.taken_back)

-- the other value of a variable is free with it
pub free_other : (t : EngineState) (b c : Branch) → IsOtherValue b c → IsFree t b.lit → IsFree t c.lit
free_other t b c other h = record {
  variable = subst (λ (n : ℕ). n ≤ t.vars) (sym other.same_variable) h.variable;
  no_value = ap (λ (n : ℕ). value_on t.trail n) other.same_variable ∙ h.no_value;
  no_conflict = h.no_conflict;
}
