-- Subtrees that may be left, and literals that have only one side to try there.
use Rattle.std.proofs.Common.{◌≡◌, ℕ, ◌+◌, ◌-◌, ◌<◌, ◌≤◌, List, length, refl, sym, ◌∙◌, ap, subst, arith, Bool, true, false, cond, inl, inr, Option, None, Some}
use Rattle.std.specs.Prelude.{slice_index_or, unwrap_or, ℤ, ◌≤ℤ◌, ◌<ℤ◌, IfSome}
use Rattle.std.specs.Option.{option_map}
use Rattle.std.proofs.Math.ListN.{get_or-eq_default}
use Rattle.std.proofs.lemmas.Bool.{cases_lt}
use Rattle.std.proofs.lemmas.Int.{ints}
use Rattle.pb_inst.specs.Literal.{Literal}
use Rattle.pb_inst.specs.Problem.{Problem}
use Rattle.pb_inst.specs.Meaning.{literal_value, cost}
use Rattle.pb_inst.specs.Order.{IsBefore}
use Rattle.pb_inst.specs.Cubes.{MakesTrue}
use Rattle.pb_inst.specs.Incumbent.{Solution, IsSolution}
use Rattle.pb_inst.proofs.SumProofs.{literal_cases}
use Rattle.pb_normal.specs.NormalForm.{normal_cost}
use Rattle.pb_engine.specs.Trail.{value_on}
use Rattle.pb_engine.specs.EngineState.{EngineState}
use Rattle.pb_engine.specs.Completion.{HasNoCompletion}
use Rattle.pb_engine.specs.Fixing.{IsBelowCompletions, IsForcedWithin}
use Rattle.pb_prune.specs.Solutions.{Completes}
use Rattle.pb_prune.specs.Subtree.{IsEngineOf, IsClosed, IsOpenOnOneSide, IsNotBefore, IsTied, IsTiedWith, DifferAt, HasOnesWithin, bit_on}
use Rattle.pb_prune.proofs.ValueLemmas.{value_on-true}

abbrev pub at : List Bool → ℕ → Bool
at a k = slice_index_or a k false

pub sign_is : (b v : Bool) → cond b (cond v 1 0) (1 - cond v 1 0) ≡ 1 → v ≡ b
sign_is true true h = refl
sign_is true false h = cc
sign_is false true h = cc
sign_is false false h = refl

-- a true literal tells the bit of its variable
pub bit_of_true : (a : List Bool) (k : ℕ) (b : Bool) → literal_value a (record { var = k + 1; positive = b }) ≡ 1 → at a k ≡ b
bit_of_true a k b h = let e : k + 1 - 1 ≡ k = omega arith in subst (λ (n : ℕ). at a n ≡ b) e (sign_is b (at a (k + 1 - 1)) h)

unwrap_true : (o : Option Bool) → unwrap_or o false ≡ true → o ≡ Some true
unwrap_true None h = let bad : ⊥ = cc in absurd bad
unwrap_true (Some b) h = ap (λ (x : Bool). Some x) h

-- what a trail makes 1 is 1 wherever the trail is true
one_within : (trail : List Literal) (a : List Bool) → MakesTrue a trail → (k : ℕ) → bit_on trail k ≡ true → at a k ≡ true
one_within trail a all k one = bit_of_true a k true (value_on-true a trail (k + 1) true all (unwrap_true (value_on trail (k + 1)) one))

not_both : (b : Bool) → b ≡ true → b ≡ false → ⊥
not_both b h k = let e : true ≡ false = sym h ∙ k in let bad : ⊥ = cc in bad

-- a place that is true on the trail is 1 wherever the trail is true
true_within : (trail : List Literal) (a : List Bool) → MakesTrue a trail → (k : ℕ) → value_on trail (k + 1) ≡ Some true → at a k ≡ true
true_within trail a all k one = bit_of_true a k true (value_on-true a trail (k + 1) true all one)

-- where the trail has every 1 of the assignment
pub ones_not_before : (trail : List Literal) (b : List Bool) → HasOnesWithin trail b 0 (length b) → IsNotBefore trail b
ones_not_before trail b ones a all h =
    elim (cases_lt h.place (length b)) [
      | inl lt ↦ not_both (at a h.place) (true_within trail a all h.place (ones h.place (omega arith) lt h.second_has_one)) h.first_has_zero
      | inr over ↦ not_both (at b h.place) h.second_has_one (get_or-eq_default b false over)
    ]

other_bit : (x y : Bool) → x ≡ false → ¬ (x ≡ y) → y ≡ true
other_bit x true e other = refl
other_bit x false e other = absurd (other e)

-- where the trail has every 1 of the assignment up to a variable, and there 1 where the assignment has 0
pub later_not_before : (trail : List Literal) (b : List Bool) (var : ℕ) → DifferAt trail b var → at b (var - 1) ≡ false → HasOnesWithin trail b 0 var → IsNotBefore trail b
later_not_before trail b var there zero_there ones a all h =
    let one : bit_on trail (var - 1) ≡ true = other_bit (at b (var - 1)) (bit_on trail (var - 1)) zero_there there.differ in
    let one_in : at a (var - 1) ≡ true = one_within trail a all (var - 1) one in
    let from_one : 1 ≤ var = there.from_one in
    elim (cases_lt h.place var) [
      | inl lt ↦ not_both (at a h.place) (true_within trail a all h.place (ones h.place (omega arith) lt h.second_has_one)) h.first_has_zero
      | inr rest ↦ not_both (at b (var - 1)) (sym (h.same_before (var - 1) (omega arith)) ∙ one_in) zero_there
    ]

-- a bound equal to the best cost, and a trail none of whose completions comes before the best
pub closed_at_tie : (p : Problem) (s : EngineState) (bound : ℤ) (t : Solution) → IsEngineOf p s → IsBelowCompletions s bound → IsSolution p t → t.cost ≤ℤ bound → IsNotBefore s.trail t.assignment → IsClosed p s (Some t)
closed_at_tie p s bound t engine low sound over after a h (inl less) =
    let at_most : bound ≤ℤ normal_cost s.form a = low a (record { makes_true = h.makes_true; meets_rows = h.solution.meets_rows }) in
    let same : normal_cost s.form a ≡ cost p a = engine.costs a in
    let is : t.cost ≡ cost p t.assignment = sound.cost_is in omega (arith, ints)
closed_at_tie p s bound t engine low sound over after a h (inr equal) = after a h.makes_true equal.1

-- a bound over the best cost
closed_over : (p : Problem) (s : EngineState) (bound : ℤ) (t : Solution) → IsEngineOf p s → IsBelowCompletions s bound → IsSolution p t → t.cost <ℤ bound → IsClosed p s (Some t)
closed_over p s bound t engine low sound over a h before =
    let at_most : bound ≤ℤ normal_cost s.form a = low a (record { makes_true = h.makes_true; meets_rows = h.solution.meets_rows }) in
    let same : normal_cost s.form a ≡ cost p a = engine.costs a in
    let is : t.cost ≡ cost p t.assignment = sound.cost_is in
    elim before [
      | inl less ↦ omega (arith, ints)
      | inr equal ↦ omega (arith, ints, equal.0)
    ]

-- the same for what is held
pub closed_over_held : (p : Problem) (s : EngineState) (held : Option Solution) (limit bound : ℤ) → IsEngineOf p s → IfSome held (λ t. IsSolution p t) → option_map (λ (t : Solution). t.cost) held ≡ Some limit → IsBelowCompletions s bound → limit <ℤ bound → IsClosed p s held
closed_over_held p s None limit bound engine sound is low over = let bad : ⊥ = cc in absurd bad
closed_over_held p s (Some t) limit bound engine sound is low over = let cost_is : t.cost ≡ limit = cc in closed_over p s bound t engine low sound (subst (λ (z : ℤ). z <ℤ bound) (sym cost_is) over)

-- a literal that is forced within the best cost
pub one_sided_within : (p : Problem) (s : EngineState) (t : Solution) (limit : ℤ) (l : Literal) → IsEngineOf p s → IsSolution p t → t.cost ≡ limit → IsForcedWithin s limit l → IsOpenOnOneSide p s (Some t) l
one_sided_within p s t limit l engine sound is fixed = record {
  variable = fixed.variable;
  no_value = fixed.no_value;
  one_sided = λ a h better. fixed.forced a (record { makes_true = h.makes_true; meets_rows = h.solution.meets_rows }) (no_dearer a better);
}
  where
    no_dearer : (a : List Bool) → IsBefore p a t.assignment → normal_cost s.form a ≤ℤ limit
    no_dearer a (inl less) = (let same : normal_cost s.form a ≡ cost p a = engine.costs a in let best : t.cost ≡ cost p t.assignment = sound.cost_is in omega (arith, ints))
    no_dearer a (inr equal) = (let same : normal_cost s.form a ≡ cost p a = engine.costs a in let best : t.cost ≡ cost p t.assignment = sound.cost_is in omega (arith, ints, equal.0))

-- the same for what is held
pub one_sided_held : (p : Problem) (s : EngineState) (held : Option Solution) (limit : ℤ) (l : Literal) → IsEngineOf p s → IfSome held (λ t. IsSolution p t) → option_map (λ (t : Solution). t.cost) held ≡ Some limit → IsForcedWithin s limit l → IsOpenOnOneSide p s held l
one_sided_held p s None limit l engine sound is fixed = let bad : ⊥ = cc in absurd bad
one_sided_held p s (Some t) limit l engine sound is fixed = let cost_is : t.cost ≡ limit = cc in one_sided_within p s t limit l engine sound cost_is fixed

-- what is held has the cost and the assignment that are told
pub held_is : (held : Option Solution) (c : ℤ) (a : List Bool) → option_map (λ (s : Solution). s.cost) held ≡ Some c → option_map (λ (s : Solution). s.assignment) held ≡ Some a → held ≡ Some (record { cost = c; assignment = a })
held_is None c a h k = let bad : ⊥ = cc in absurd bad
held_is (Some s) c a h k =
    let cost_is : s.cost ≡ c = cc in
    let assignment_is : s.assignment ≡ a = cc in
    ap (λ (x : ℤ). Some (record { cost = x; assignment = s.assignment })) cost_is ∙ ap (λ (x : List Bool). Some (record { cost = c; assignment = x })) assignment_is

-- a bound that is no less than the best cost, and the ones before a variable
pub tied_at : (p : Problem) (s : EngineState) (bound : ℤ) (t : Solution) (var : ℕ) → IsEngineOf p s → IsBelowCompletions s bound → IsSolution p t → t.cost ≤ℤ bound → HasOnesWithin s.trail t.assignment 0 (var - 1) → IsTied p s (Some t) var
tied_at p s bound t var engine low sound over ones = record {
  no_less = λ a h. (let at_most : bound ≤ℤ normal_cost s.form a = low a (record { makes_true = h.makes_true; meets_rows = h.solution.meets_rows }) in let same : normal_cost s.form a ≡ cost p a = engine.costs a in let is : t.cost ≡ cost p t.assignment = sound.cost_is in omega (arith, ints));
  ones = ones;
}

-- a false negated literal
one_of_false : (sign value : Bool) → sign ≡ false → cond sign (cond value 1 0) (1 - cond value 1 0) ≡ 0 → value ≡ true
one_of_false true value e h = cc
one_of_false false true e h = refl
one_of_false false false e h = cc

-- at a tie, a 1 before the first difference where the assignment has 0 comes too late
tied_one_sided : (p : Problem) (s : EngineState) (b a : List Bool) (var : ℕ) (l : Literal) → IsTiedWith p s b var → l.positive ≡ false → 1 ≤ l.var → l.var < var → at b (l.var - 1) ≡ false → Completes s a → IsBefore p a b → literal_value a l ≡ 1
tied_one_sided p s b a var l tied sign some low zero h (inl less) = let at_least : cost p b ≤ℤ cost p a = tied.no_less a h in absurd (omega (arith, ints))
tied_one_sided p s b a var l tied sign some low zero h (inr equal) = elim (literal_cases a l) [
  | inl one ↦ one
  | inr none ↦ absurd (elim (cases_lt equal.1.place (var - 1)) [
    | inl lt ↦ not_both (at a equal.1.place) (true_within s.trail a h.makes_true equal.1.place (tied.ones equal.1.place (omega arith) lt equal.1.second_has_one)) equal.1.first_has_zero
    | inr rest ↦ not_both (at b (l.var - 1)) (sym (equal.1.same_before (l.var - 1) (omega arith)) ∙ one_of_false l.positive (at a (l.var - 1)) sign none) zero
  ])
]

-- so the literal with 0 there has only one side to try, where it has no value
pub tied_open : (p : Problem) (s : EngineState) (held : Option Solution) (b : List Bool) (var : ℕ) (l : Literal) → option_map (λ (t : Solution). t.assignment) held ≡ Some b → IsTied p s held var → l.positive ≡ false → 1 ≤ l.var → l.var < var → at b (l.var - 1) ≡ false → l.var ≤ s.vars → value_on s.trail l.var ≡ None → IsOpenOnOneSide p s held l
tied_open p s None b var l is tied sign some low zero variable free = absurd tied
tied_open p s (Some t) b var l is tied sign some low zero variable free =
    let same : t.assignment ≡ b = cc in
    record {
      variable = variable;
      no_value = free;
      one_sided = λ a h better. tied_one_sided p s t.assignment a var l tied sign some low (ap (λ (x : List Bool). at x (l.var - 1)) same ∙ zero) h better;
    }

-- where a trail has no completion nothing is left to find
pub none_closed : (p : Problem) (s : EngineState) (held : Option Solution) → HasNoCompletion s.rows s.trail → IsClosed p s held
none_closed p s held none a h better = none a (record { makes_true = h.makes_true; meets_rows = h.solution.meets_rows })
