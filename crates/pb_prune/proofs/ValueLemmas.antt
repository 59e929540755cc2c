-- What the value of a variable on a trail comes from.
use Rattle.std.proofs.Common.{◌≡◌, ℕ, ◌+◌, ◌<◌, ◌≤◌, List, [], ◌∷◌, ◌++◌, length, get_or, take, refl, sym, ◌∙◌, ap, subst, arith, suc, zero, Bool, true, false, cond, inl, inr, None, Some}
use Rattle.std.proofs.lemmas.Bool.{cases_eq}
use Rattle.std.proofs.lemmas.List.{take_more, take_all}
use Rattle.pb_inst.specs.Literal.{Literal}
use Rattle.pb_inst.specs.Meaning.{literal_value}
use Rattle.pb_inst.specs.Cubes.{MakesTrue}
use Rattle.pb_engine.specs.Trail.{is_true, value_on}
use Rattle.pb_trail.specs.Tracked.{IsConsistent}
use Rattle.pb_trail.proofs.TrailLemmas.{value_on-same, value_on-other}
use Rattle.pb_trail.proofs.CompletionLemmas.{true_in_completion}

-- a value comes from a literal that is on the trail
pub value_is : (x y b : Bool) → cond x (Some true) (cond y (Some false) None) ≡ Some b → cond b x y ≡ true
value_is true y true h = refl
value_is true y false h = let bad : ⊥ = cc in absurd bad
value_is false true true h = let bad : ⊥ = cc in absurd bad
value_is false true false h = refl
value_is false false b h = let bad : ⊥ = cc in absurd bad

pub value_on-true : (a : List Bool) (trail : List Literal) (v : ℕ) (b : Bool) → MakesTrue a trail → value_on trail v ≡ Some b → literal_value a (record { var = v; positive = b }) ≡ 1
value_on-true a trail v true all h = true_in_completion a trail (record { var = v; positive = true }) all (value_is (is_true trail (record { var = v; positive = true })) (is_true trail (record { var = v; positive = false })) true h)
value_on-true a trail v false all h = true_in_completion a trail (record { var = v; positive = false }) all (value_is (is_true trail (record { var = v; positive = true })) (is_true trail (record { var = v; positive = false })) false h)

-- the value of a literal's variable is its own
pub value_on-entry : (trail : List Literal) → IsConsistent trail → (k : ℕ) (d : Literal) → k < length trail → value_on trail (get_or trail k d).var ≡ Some (get_or trail k d).positive
value_on-entry trail once k d lt = subst (λ (x : List Literal). value_on x (get_or trail k d).var ≡ Some (get_or trail k d).positive) (take_all (length trail) trail (omega arith)) (by_steps (length trail) lt (omega arith))
  where
    by_steps : (n : ℕ) → k < n → n ≤ length trail → value_on (take n trail) (get_or trail k d).var ≡ Some (get_or trail k d).positive
    by_steps zero low high = absurd (omega arith)
    by_steps (suc n) low high =
        let grown : take (suc n) trail ≡ take n trail ++ get_or trail n d ∷ [] = (let e : n + 1 ≡ suc n = omega arith in subst (λ (m : ℕ). take m trail ≡ take n trail ++ get_or trail n d ∷ []) e (take_more trail n d (omega arith))) in
        elim (cases_eq k n) [
          | inl same ↦ subst (λ (m : ℕ). value_on (take (suc n) trail) (get_or trail m d).var ≡ Some (get_or trail m d).positive) (sym same) (ap (λ (x : List Literal). value_on x (get_or trail n d).var) grown ∙ value_on-same (take n trail) (get_or trail n d) (once n d (omega arith)))
          | inr less ↦ let before = by_steps n (omega arith) (omega arith) in
              ap (λ (x : List Literal). value_on x (get_or trail k d).var) grown
              ∙ (value_on-other (take n trail) (get_or trail n d) (get_or trail k d).var (λ same. (let none = once n d (omega arith) in
              let e : Some (get_or trail k d).positive ≡ None = sym before ∙ ap (λ (v : ℕ). value_on (take n trail) v) same ∙ none in let bad : ⊥ = cc in bad)) ∙ before)
        ]
