-- Numbers that rise, and what a search among them finds.
use Rattle.std.proofs.Common.{◌≡◌, ℕ, ◌<◌, ◌≤◌, ◌↔◌, List, Result, Ok, Err, Contains, IsTrue, ap, arith, get_or, inl, inr, length, refl, ◌∙◌}
use Rattle.std.proofs.Math.Nat.{eq-or-lt_of_le}
use Rattle.std.proofs.lemmas.Bool.{cases_lt, false≢true}
use Rattle.std.proofs.lemmas.List.{get_or_default}
use Rattle.std.proofs.lemmas.List.Kept.{AllPairs-from_increasing}
use Rattle.std.proofs.lemmas.List.Sorted.{searched}
use Rattle.std.specs.List.Sorted.{IsBinarySearchResult, IsStrictlyIncreasing}
use Rattle.std.specs.Ordering.{nat_cmp}
use Rattle.std.specs.Result.{MatchResult, is_ok}

-- a later number is no smaller
not_smaller : (xs : List ℕ) → IsStrictlyIncreasing xs → (i j : ℕ) → i ≤ j → j < length xs → get_or xs i 0 ≤ get_or xs j 0
not_smaller xs rising i j before within =
    elim (eq-or-lt_of_le before) [
      | inl same ↦ let e = ap (λ k. get_or xs k 0) same in omega (arith, e)
      | inr lower ↦ let e = AllPairs-from_increasing xs rising i j 0 lower within in omega (arith, e)
    ]

-- whether a search found the number
found_as : (xs : List ℕ) (x : ℕ) (r : Result ℕ ℕ) → MatchResult r (λ i. (i < length xs) × (get_or xs i 0 ≡ x)) (λ i. (i ≤ length xs) × ((k : ℕ) → k < i → get_or xs k 0 < x) × ((k : ℕ) → i ≤ k → k < length xs → x < get_or xs k 0))
    → IsTrue (is_ok r) ↔ Contains xs x
found_as xs x (Ok i) h = (λ _. (i, h.0, get_or_default xs i x 0 h.0 ∙ h.1), λ _. refl)
found_as xs x (Err i) h = (
  λ no. absurd (false≢true no),
  λ (k, within, is).
      let at = get_or_default xs k 0 x within ∙ is in
      absurd (elim (cases_lt k i) [
        | inl before ↦ let e = h.1 k before in omega (arith, e, at)
        | inr after ↦ let e = h.2 k after within in omega (arith, e, at)
      ]),
)

-- what a search among numbers that rise says
pub found : (xs : List ℕ) (x : ℕ) (r : Result ℕ ℕ) → IsStrictlyIncreasing xs → IsBinarySearchResult (λ y. nat_cmp y x) xs r → IsTrue (is_ok r) ↔ Contains xs x
found xs x r rising h = found_as xs x r (searched xs x r h (not_smaller xs rising))
