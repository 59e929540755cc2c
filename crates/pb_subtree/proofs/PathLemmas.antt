-- How open branches and the steps that are left change when the path does.
use Rattle.std.proofs.Common.{◌≡◌, ℕ, ◌+◌, ◌*◌, ◌-◌, ◌^◌, ◌<◌, ◌≤◌, List, [], ◌∷◌, ◌++◌, length, refl, sym, take, All, ap, ◌∙◌, arith, suc, zero, Bool, true, false, not, cond, inl, inr, ◌⊎◌}
use Rattle.std.specs.Prelude.{if◌then◌else◌, slice_index_or}
use Rattle.std.proofs.lemmas.List.Elements.{All-nil, All-cons}
use Rattle.pb_inst.specs.Literal.{Literal}
use Rattle.pb_inst.specs.Meaning.{literal_value}
use Rattle.pb_inst.specs.Cubes.{MakesTrue}
use Rattle.pb_control.specs.declared.branch.Branch.{Branch}
use Rattle.pb_subtree.specs.Paths.{decided, LeavesOpen, LiesOpen, steps_left, search_steps, IsOtherValue}
use Rattle.pb_inst.proofs.SumProofs.{literal_cases}

-- a false literal's negation is true
negated_bools : (sign value : Bool) → cond sign (cond value 1 0) (1 - cond value 1 0) ≡ 0 → cond (not sign) (cond value 1 0) (1 - cond value 1 0) ≡ 1
negated_bools true true h = cc
negated_bools true false h = refl
negated_bools false true h = refl
negated_bools false false h = cc

pub negated_true : (a : List Bool) (l m : Literal) → m.var ≡ l.var → m.positive ≡ not l.positive → literal_value a l ≡ 0 → literal_value a m ≡ 1
negated_true a l m same other h = rw (same, other) (negated_bools l.positive (slice_index_or a (l.var - 1) false) h)

-- one more decision: what lies open still does, below the new branch or at its other value
pub decide_keeps : (a : List Bool) (path : List Branch) (b : Branch) → b.flipped ≡ false → LiesOpen a path → LiesOpen a (path ++ b ∷ [])
decide_keeps a [] b fresh h = elim (literal_cases a b.lit) [ inl one ↦ inl (one, tt) | inr none ↦ inr (none, fresh) ]
decide_keeps a (c ∷ path) b fresh (inl on) = inl (on.0, decide_keeps a path b fresh on.1)
decide_keeps a (c ∷ path) b fresh (inr off) = inr off

-- the same where the path's end leaves the new decision no other value
pub decide_keeps_one_sided : (a : List Bool) (path : List Branch) (b : Branch) → (MakesTrue a (decided path) → literal_value a b.lit ≡ 1) → LiesOpen a path → LiesOpen a (path ++ b ∷ [])
decide_keeps_one_sided a [] b forced h = inl (forced (All-nil (λ l. literal_value a l ≡ 1)), tt)
decide_keeps_one_sided a (c ∷ path) b forced (inl on) = inl (on.0, decide_keeps_one_sided a path b (λ follows. forced (All-cons (λ l. literal_value a l ≡ 1) c.lit (decided path) on.0 follows)) on.1)
decide_keeps_one_sided a (c ∷ path) b forced (inr off) = inr off

-- what lies open leaves the path open, unless it follows the path to its end
pub leaves_open : (a : List Bool) (path : List Branch) → LiesOpen a path → ¬ MakesTrue a (decided path) → LeavesOpen a path
leaves_open a [] h closed = closed (All-nil (λ l. literal_value a l ≡ 1))
leaves_open a (b ∷ path) (inr off) closed = inr off
leaves_open a (b ∷ path) (inl on) closed = inl (on.0, leaves_open a path on.1 (λ all. closed (All-cons (λ l. literal_value a l ≡ 1) b.lit (decided path) on.0 all)))

-- what leaves a path leaves it before its last branch, or there
pub leaves_last : (a : List Bool) (path : List Branch) (b : Branch) → LeavesOpen a (path ++ b ∷ []) → LeavesOpen a path ⊎ (MakesTrue a (decided path) × (b.flipped ≡ false))
leaves_last a [] b (inl on) = absurd on.1
leaves_last a [] b (inr off) = inr (All-nil (λ l. literal_value a l ≡ 1), off.1)
leaves_last a (c ∷ path) b (inr off) = inl (inr off)
leaves_last a (c ∷ path) b (inl on) = elim (leaves_last a path b on.1) [
  | inl before ↦ inl (inl (on.0, before))
  | inr here ↦ inr (All-cons (λ l. literal_value a l ≡ 1) c.lit (decided path) on.0 here.0, here.1)
]

-- what lies open below a branch does without it
pub back_keeps : (a : List Bool) (path : List Branch) (b : Branch) → LiesOpen a (path ++ b ∷ []) → LiesOpen a path
back_keeps a [] b h = tt
back_keeps a (c ∷ path) b (inl on) = inl (on.0, back_keeps a path b on.1)
back_keeps a (c ∷ path) b (inr off) = inr off

-- flipping the last branch keeps all that leaves the path open
pub turn_keeps : (a : List Bool) (path : List Branch) (last next : Branch) → IsOtherValue last next → LeavesOpen a (path ++ last ∷ []) → LiesOpen a (path ++ next ∷ [])
turn_keeps a [] last next other (inl on) = absurd on.1
turn_keeps a [] last next other (inr off) = inl (negated_true a last.lit next.lit other.same_variable other.other_value off.0, tt)
turn_keeps a (c ∷ path) last next other (inl on) = inl (on.0, turn_keeps a path last next other on.1)
turn_keeps a (c ∷ path) last next other (inr off) = inr off

-- some step is always left
power_positive : (n : ℕ) → 1 ≤ 3 ^ n
power_positive zero = omega arith
power_positive (suc n) = let h : 1 ≤ 3 ^ n = power_positive n in grind arith

steps_positive : (n : ℕ) (path : List Branch) → 1 ≤ steps_left n path
steps_positive n [] = power_positive n
steps_positive n (b ∷ path) = omega (arith, steps_positive (n - 1) path)

power_next : (n : ℕ) → 1 ≤ n → 3 ^ n ≡ 3 * 3 ^ (n - 1)
power_next zero h = absurd (omega arith)
power_next (suc n) h = grind arith

-- at the end of the path, whether one value or both are to be tried
last_falls : (n : ℕ) (flipped : Bool) → 1 ≤ n → (if flipped then 0 else 3 ^ (n - 1)) + 3 ^ (n - 1) < 3 ^ n
last_falls n true from_one = rw (power_next n from_one) (omega (arith, power_positive (n - 1)))
last_falls n false from_one = rw (power_next n from_one) (omega (arith, power_positive (n - 1)))

-- a decision leaves fewer steps
pub decide_falls : (n : ℕ) (path : List Branch) (b : Branch) → length path < n → steps_left n (path ++ b ∷ []) < steps_left n path
decide_falls n [] b lt = last_falls n b.flipped (omega arith)
decide_falls n (c ∷ path) b lt = omega (arith, decide_falls (n - 1) path b (omega arith))

-- flipping a decision leaves fewer steps
pub turn_falls : (n : ℕ) (kept taken_back : List Branch) (last next : Branch) → last.flipped ≡ false → next.flipped ≡ true → steps_left n (kept ++ next ∷ []) < steps_left n (kept ++ last ∷ taken_back)
turn_falls n [] taken_back last next was_open flipped = rw (was_open, flipped) (omega (arith, steps_positive (n - 1) taken_back))
turn_falls n (c ∷ kept) taken_back last next was_open flipped = omega (arith, turn_falls (n - 1) kept taken_back last next was_open flipped)

-- no more steps than with no decision
steps_most : (n : ℕ) (path : List Branch) → length path ≤ n → steps_left n path ≤ 3 ^ n
steps_most n [] few = omega arith
steps_most n (b ∷ path) few =
    let rest : steps_left (n - 1) path ≤ 3 ^ (n - 1) = steps_most (n - 1) path (omega arith) in
    omega (arith, last_falls n b.flipped (omega arith), rest)

-- a decision or a flip leaves fewer steps to the search
pub fewer_steps : (n r s : ℕ) (old new : List Branch) → s ≤ r → steps_left n new < steps_left n old → search_steps n s new < search_steps n r old
fewer_steps n r s old new less falls =
    let most : s * 3 ^ n ≤ r * 3 ^ n = grind arith in
    omega arith

times_next : (s m : ℕ) → (s + 1) * m ≡ s * m + m
times_next s m = grind arith

-- a step back to the root, and a decision there
pub step_back_falls : (n r s : ℕ) (old new : List Branch) (b : Branch) → r ≡ s + 1 → length new < n → search_steps n s (new ++ b ∷ []) < search_steps n r old
step_back_falls n r s old new b one few =
    let most : steps_left n new ≤ 3 ^ n = steps_most n new (omega arith) in
    let falls : steps_left n (new ++ b ∷ []) < steps_left n new = decide_falls n new b few in
    let some : 1 ≤ steps_left n old = steps_positive n old in
    let more : r * 3 ^ n ≡ s * 3 ^ n + 3 ^ n = ap (λ (x : ℕ). x * 3 ^ n) one ∙ times_next s (3 ^ n) in
    omega arith

-- with more steps back left there are no fewer steps
pub fewer_from : (n x r s : ℕ) (path : List Branch) → s ≤ r → x < search_steps n s path → x < search_steps n r path
fewer_from n x r s path less h =
    let most : s * 3 ^ n ≤ r * 3 ^ n = grind arith in
    omega arith

-- none of the branches has another value to try
abbrev pub AreFixed : List Branch → Type 0
AreFixed path = All (λ (b : Branch). b.flipped ≡ true) path

-- what lies below an open branch of the path makes its first decisions true, where these are fixed
pub fixed_true : (a : List Bool) (i : ℕ) (path : List Branch) → AreFixed (take i path) → LiesOpen a path → MakesTrue a (decided (take i path))
fixed_true a zero path fixed lies = All-nil (λ (l : Literal). literal_value a l ≡ 1)
fixed_true a (suc i) [] fixed lies = All-nil (λ (l : Literal). literal_value a l ≡ 1)
fixed_true a (suc i) (b ∷ path) fixed (inl on) = All-cons (λ (l : Literal). literal_value a l ≡ 1) b.lit (decided (take i path)) on.0 (fixed_true a i path (λ k d lt. fixed (suc k) d (omega arith)) on.1)
fixed_true a (suc i) (b ∷ path) fixed (inr off) = let e : true ≡ false = sym (fixed 0 b (omega arith)) ∙ off.1 in let bad : ⊥ = cc in absurd bad

-- their variables
pub fixed_within : (n i : ℕ) (path : List Branch) → All (λ (b : Branch). b.lit.var ≤ n) path → All (λ (l : Literal). l.var ≤ n) (decided (take i path))
fixed_within n zero path within = All-nil (λ (l : Literal). l.var ≤ n)
fixed_within n (suc i) [] within = All-nil (λ (l : Literal). l.var ≤ n)
fixed_within n (suc i) (b ∷ path) within = All-cons (λ (l : Literal). l.var ≤ n) b.lit (decided (take i path)) (within 0 b (omega arith)) (fixed_within n i path (λ k d lt. within (suc k) d (omega arith)))
