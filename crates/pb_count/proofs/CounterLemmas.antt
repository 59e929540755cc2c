-- What a test of a counter tells.
use Rattle.std.proofs.Common.{◌≡◌, ◌≢◌, ℕ, ◌<◌, ◌≤◌, ◌∙◌, Bool, true, false, eqb, ltb, sym}
use Rattle.std.proofs.lemmas.Bool.{eqb-true, eq-eqb, ltb-true, ltb-false, true≢false}

pub is_zero-true : (b : Bool) (n : ℕ) → b ≡ eqb n 0 → b ≡ true → n ≡ 0
is_zero-true b n tested is = eqb-true n 0 (sym tested ∙ is)

pub is_zero-false : (b : Bool) (n : ℕ) → b ≡ eqb n 0 → b ≡ false → n ≢ 0
is_zero-false b n tested is = λ none. true≢false (sym (tested ∙ eq-eqb n 0 none) ∙ is)

pub is_below-true : (b : Bool) (m n : ℕ) → b ≡ ltb m n → b ≡ true → m < n
is_below-true b m n tested is = ltb-true m n (sym tested ∙ is)

pub is_below-false : (b : Bool) (m n : ℕ) → b ≡ ltb m n → b ≡ false → n ≤ m
is_below-false b m n tested is = ltb-false m n (sym tested ∙ is)
