-- What is known of the agreed prefix while the trail grows and shrinks.
use Rattle.std.proofs.Common.{◌≡◌, ℕ, ◌+◌, ◌-◌, ◌<◌, ◌≤◌, List, [], ◌∷◌, ◌++◌, length, take, drop, get_or, sym, ◌∙◌, ap, subst, arith, Bool, true, false, cond, ◌||◌, inl, inr, Option, None, Some, length-append}
use Rattle.std.specs.Prelude.{unwrap_or}
use Rattle.std.specs.Option.{option_map}
use Rattle.std.proofs.lemmas.Bool.{cases_eq, cases_lt}
use Rattle.std.proofs.lemmas.List.{take_more, take-append-le, take-append-drop, take_all}
use Rattle.std.proofs.lemmas.List.Folds.{list_any-append}
use Rattle.pb_inst.specs.Literal.{Literal}
use Rattle.pb_inst.specs.Incumbent.{Solution}
use Rattle.pb_normal.specs.NormalForm.{PositiveRow}
use Rattle.pb_normal.specs.Literals.{same_literal}
use Rattle.pb_engine.specs.Trail.{is_true, value_on}
use Rattle.pb_trail.specs.Tracked.{IsConsistent}
use Rattle.pb_engine.specs.Propagation.{AddsForced}
use Rattle.pb_trail.proofs.TrailLemmas.{value_on-same, value_on-other}
use Rattle.pb_trail.proofs.CompletionLemmas.{length-AddsForced}
use Rattle.pb_trail.proofs.EngineLemmas.{kept_front}
use Rattle.pb_prune.specs.declared.agreed_prefix.AgreedPrefix.{AgreedPrefix}
use Rattle.pb_prune.specs.AgreedPrefix.{KnowsPrefix, KnowsHeldPrefix}
use Rattle.pb_prune.specs.Subtree.{HasOnesWithin, IsNotBefore, bit_on}
use Rattle.pb_prune.proofs.ValueLemmas.{value_is}
use Rattle.pb_prune.proofs.ClosedLemmas.{at, later_not_before}

-- what is held is this assignment
pub knows_of : (trail : List Literal) (held : Option Solution) (a : List Bool) (o : AgreedPrefix) → option_map (λ (s : Solution). s.assignment) held ≡ Some a → KnowsHeldPrefix trail held o → KnowsPrefix trail a o
knows_of trail None a o e h = let bad : ⊥ = cc in absurd bad
knows_of trail (Some s) a o e h = let same : s.assignment ≡ a = cc in subst (λ (x : List Bool). KnowsPrefix trail x o) same h

pub knows_held : (trail : List Literal) (held : Option Solution) (a : List Bool) (o : AgreedPrefix) → option_map (λ (s : Solution). s.assignment) held ≡ Some a → KnowsPrefix trail a o → KnowsHeldPrefix trail held o
knows_held trail None a o e h = tt
knows_held trail (Some s) a o e h = let same : s.assignment ≡ a = cc in subst (λ (x : List Bool). KnowsPrefix trail x o) (sym same) h

-- a trail with the same literals as far as they were seen
knows_front : (old new : List Literal) (held : Option Solution) (o : AgreedPrefix) → (o.seen ≤ length old → (o.seen ≤ length new) × (take o.seen new ≡ take o.seen old)) → KnowsHeldPrefix old held o → KnowsHeldPrefix new held o
knows_front old new None o same h = tt
knows_front old new (Some s) o same h =
    let both = same h.seen in
    record { seen = both.0; count = h.count; ones = subst (λ (t : List Literal). HasOnesWithin t s.assignment 0 o.count) (sym both.1) h.ones }

pub knows_longer : (old new more : List Literal) (held : Option Solution) (o : AgreedPrefix) → new ≡ old ++ more → KnowsHeldPrefix old held o → KnowsHeldPrefix new held o
knows_longer old new more held o grown h = subst (λ (t : List Literal). KnowsHeldPrefix t held o) (sym grown) (knows_front old (old ++ more) held o (λ low. (omega (arith, length-append old more), take-append-le o.seen old more low)) h)

pub knows_added : (rows : List PositiveRow) (old new : List Literal) (held : Option Solution) (o : AgreedPrefix) → AddsForced rows old new → KnowsHeldPrefix old held o → KnowsHeldPrefix new held o
knows_added rows old new held o added h = knows_front old new held o (λ low. (omega (arith, length-AddsForced rows old new added), kept_front rows old new o.seen added low)) h

-- what is true by some first literals is true by all
true_by_all : (n : ℕ) (trail : List Literal) (v : ℕ) → value_on (take n trail) v ≡ Some true → value_on trail v ≡ Some true
unfolding is_true
true_by_all n trail v h =
    let l : Literal = record { var = v; positive = true } in
    let other : Literal = record { var = v; positive = false } in
    let one : is_true (take n trail) l ≡ true = value_is (is_true (take n trail) l) (is_true (take n trail) other) true h in
    let all : is_true trail l ≡ true = ap (λ (t : List Literal). is_true t l) (sym (take-append-drop n trail)) ∙ list_any-append (λ (m : Literal). same_literal l m) (take n trail) (drop n trail) ∙ ap (λ (b : Bool). b || is_true (drop n trail) l) one in
    ap (λ (b : Bool). cond b (Some true) (cond (is_true trail other) (Some false) None)) all

-- so what is known stands with more literals seen
pub knows_all : (trail : List Literal) (a : List Bool) (o : AgreedPrefix) → KnowsPrefix trail a o → HasOnesWithin trail a 0 o.count
knows_all trail a o h k low high one = true_by_all o.seen trail (k + 1) (h.ones k low high one)

pub knows_by_all : (trail : List Literal) (a : List Bool) (o : AgreedPrefix) → o.seen ≡ length trail → o.count ≤ length a → HasOnesWithin trail a 0 o.count → KnowsPrefix trail a o
knows_by_all trail a o all few ones = record {
  seen = omega arith;
  count = few;
  ones = subst (λ (t : List Literal). HasOnesWithin t a 0 o.count) (sym (take_all o.seen trail (omega arith))) ones;
}

-- one literal fewer was seen
pub knows_less : (trail : List Literal) (a : List Bool) (old new : AgreedPrefix) (l : Literal) → IsConsistent trail → 1 ≤ old.seen → l ≡ get_or trail (old.seen - 1) l → new.seen ≡ old.seen - 1 → new.count ≤ old.count → (l.positive ≡ true → l.var ≤ old.count → at a (l.var - 1) ≡ true → new.count < l.var) → KnowsPrefix trail a old → KnowsPrefix trail a new
knows_less trail a old new l once some last seen count lowered h = record {
  seen = omega (arith, h.seen);
  count = omega (arith, h.count);
  ones = λ k low high one. subst (λ (n : ℕ). value_on (take n trail) (k + 1) ≡ Some true) (sym seen) (still k high one);
}
  where
    n : ℕ
    n = old.seen - 1

    grown : take old.seen trail ≡ take (old.seen - 1) trail ++ l ∷ []
    grown =
        let e : old.seen - 1 + 1 ≡ old.seen = omega arith in
        subst (λ (m : ℕ). take m trail ≡ take (old.seen - 1) trail ++ l ∷ []) e (take_more trail (old.seen - 1) l (omega (arith, h.seen)) ∙ ap (λ (m : Literal). take (old.seen - 1) trail ++ m ∷ []) (sym last))

    before : (k : ℕ) → k < new.count → at a k ≡ true → value_on (take (old.seen - 1) trail ++ l ∷ []) (k + 1) ≡ Some true
    before k high one = subst (λ (t : List Literal). value_on t (k + 1) ≡ Some true) grown (h.ones k (omega arith) (omega (arith, count)) one)

    free : value_on (take (old.seen - 1) trail) l.var ≡ None
    free = subst (λ (m : Literal). value_on (take (old.seen - 1) trail) m.var ≡ None) (sym last) (once (old.seen - 1) l (omega (arith, h.seen)))

    still : (k : ℕ) → k < new.count → at a k ≡ true → value_on (take (old.seen - 1) trail) (k + 1) ≡ Some true
    still k high one = elim (cases_eq (k + 1) l.var) [
      | inl same ↦
          let own : value_on (take (old.seen - 1) trail ++ l ∷ []) l.var ≡ Some true = subst (λ (v : ℕ). value_on (take (old.seen - 1) trail ++ l ∷ []) v ≡ Some true) same (before k high one) in
          let sign : Some l.positive ≡ Some true = sym (value_on-same (take (old.seen - 1) trail) l free) ∙ own in
          let positive : l.positive ≡ true = cc in
          let place : l.var - 1 ≡ k = omega arith in
          let low : new.count < l.var = lowered positive (omega (arith, count)) (ap (λ (v : ℕ). at a v) place ∙ one) in
          absurd (omega arith)
      | inr other ↦ sym (value_on-other (take (old.seen - 1) trail) l (k + 1) other) ∙ before k high one
    ]

-- the trail has a 1 where the assignment has 0, and before it every 1 of the assignment
pub surplus_not_before : (trail : List Literal) (a : List Bool) (var count : ℕ) → HasOnesWithin trail a 0 count → count ≤ length a → 1 ≤ var → var ≤ count → at a (var - 1) ≡ false → value_on trail var ≡ Some true → IsNotBefore trail a
surplus_not_before trail a var count ones few from_one within zero one =
    let place : var - 1 + 1 ≡ var = omega arith in
    let bit : bit_on trail (var - 1) ≡ true = ap (λ (v : ℕ). unwrap_or (value_on trail v) false) place ∙ ap (λ (o : Option Bool). unwrap_or o false) one in
    later_not_before trail a var
    (record { from_one = from_one; within = omega arith; differ = λ same. (let e : false ≡ true = sym zero ∙ same ∙ bit in let bad : ⊥ = cc in bad) })
    zero (λ k low high. ones k low (omega arith))

-- a place where the assignment has 0 has no 1
pub ones_to_zero : (trail : List Literal) (a : List Bool) (n : ℕ) → HasOnesWithin trail a 0 n → at a n ≡ false → HasOnesWithin trail a 0 (n + 1)
ones_to_zero trail a n ones zero k low high one = elim (cases_lt k n) [
  | inl less ↦ ones k low less one
  | inr rest ↦ (let e : k ≡ n = omega arith in let f : true ≡ false = sym one ∙ ap (λ (m : ℕ). at a m) e ∙ zero in let bad : ⊥ = cc in absurd bad)
]
