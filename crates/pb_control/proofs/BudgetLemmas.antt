-- What is left of a budget of decisions, and that they are counted together.
use Rattle.std.proofs.Common.{◌≡◌, ◌∙◌, ◌<◌, ℕ, ◌+◌, refl, ap, arith, Option, None, Some}
use Rattle.pb_control.specs.Budget.{with_more, IsLeftOf, IsPaidFrom}

pub none_counted : (left : Option ℕ) → left ≡ with_more 0 left
none_counted None = refl
none_counted (Some n) = ap (λ (m : ℕ). Some m) (omega arith)

pub counted_onward : (count more : ℕ) (budget left less : Option ℕ) → budget ≡ with_more count left → left ≡ with_more more less → budget ≡ with_more (count + more) less
counted_onward count more budget left less h e = h ∙ ap (λ (o : Option ℕ). with_more count o) e ∙ together less
  where
    together : (o : Option ℕ) → with_more count (with_more more o) ≡ with_more (count + more) o
    together None = refl
    together (Some n) = ap (λ (m : ℕ). Some m) (omega arith)

pub left_itself : (budget : Option ℕ) → IsLeftOf budget budget
left_itself None = refl
left_itself (Some b) = omega arith

-- what may be left of what may be left
pub left_after : (budget left less : Option ℕ) → IsLeftOf budget left → IsLeftOf left less → IsLeftOf budget less
left_after None None less h e = e
left_after None (Some n) less h e = let bad : ⊥ = cc in absurd bad
left_after (Some b) None less h e = absurd h
left_after (Some b) (Some m) None h e = absurd e
left_after (Some b) (Some m) (Some n) h e = omega arith

-- a budget without `count` decisions may be left of it
pub left_of_more : (count : ℕ) (budget left : Option ℕ) → budget ≡ with_more count left → IsLeftOf budget left
left_of_more count None None e = refl
left_of_more count None (Some n) e = let bad : ⊥ = cc in absurd bad
left_of_more count (Some b) None e = let bad : ⊥ = cc in absurd bad
left_of_more count (Some b) (Some n) e = let same : b ≡ n + count = cc in omega arith

pub paid_of_more : (count : ℕ) (budget left : Option ℕ) → 0 < count → budget ≡ with_more count left → IsPaidFrom budget left
paid_of_more count None None some e = refl
paid_of_more count None (Some n) some e = let bad : ⊥ = cc in absurd bad
paid_of_more count (Some b) None some e = let bad : ⊥ = cc in absurd bad
paid_of_more count (Some b) (Some n) some e = let same : b ≡ n + count = cc in omega arith

-- what was paid stays paid
pub paid_before : (budget left less : Option ℕ) → IsPaidFrom budget left → IsLeftOf left less → IsPaidFrom budget less
paid_before None None less h e = e
paid_before None (Some n) less h e = let bad : ⊥ = cc in absurd bad
paid_before (Some b) None less h e = absurd h
paid_before (Some b) (Some m) None h e = absurd e
paid_before (Some b) (Some m) (Some n) h e = omega arith

-- what is paid later is paid
pub paid_after : (budget left less : Option ℕ) → IsLeftOf budget left → IsPaidFrom left less → IsPaidFrom budget less
paid_after None None less h e = e
paid_after None (Some n) less h e = let bad : ⊥ = cc in absurd bad
paid_after (Some b) None less h e = absurd h
paid_after (Some b) (Some m) None h e = absurd e
paid_after (Some b) (Some m) (Some n) h e = omega arith
