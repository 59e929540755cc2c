-- Runs at the front of a list.
use Rattle.std.proofs.Common.{◌≡◌, ℕ, zero, suc, ◌+◌, ◌-◌, ◌<◌, ◌≤◌, refl, List, [], ◌∷◌, Bool, true, false, length, get_or, take, drop, arith, add-one}
use Rattle.pb_read.specs.Runs.{runs}

-- the first run of a list is its first bytes that belong together, as long as that goes
first_run : (together : ℕ → ℕ → Bool) (xs : List ℕ) (m : ℕ) → m < length xs
    → ((k : ℕ) → suc k < suc m → together (get_or xs k 0) (get_or xs (suc k) 0) ≡ true)
    → (suc m < length xs → together (get_or xs m 0) (get_or xs (suc m) 0) ≡ false)
    → runs together xs ≡ take (suc m) xs ∷ runs together (drop (suc m) xs)
first_run together [] m within each ends = absurd (omega arith)
first_run together (x ∷ []) zero within each ends = refl
first_run together (x ∷ y ∷ xs) zero within each ends =
    let e : together x y ≡ false = ends (omega arith) in rw e refl
first_run together (x ∷ []) (suc m) within each ends = absurd (omega arith)
first_run together (x ∷ y ∷ xs) (suc m) within each ends =
    let e : together x y ≡ true = each 0 (omega arith) in
    let rest : runs together (y ∷ xs) ≡ take (suc m) (y ∷ xs) ∷ runs together (drop (suc m) (y ∷ xs)) =
    first_run together (y ∷ xs) m (omega arith) (λ k lt. each (suc k) (omega arith)) (λ lt. ends (omega arith)) in
    rw (e, rest) refl

pub runs_at : (together : ℕ → ℕ → Bool) (xs : List ℕ) (n : ℕ) → 0 < n → n ≤ length xs
    → ((k : ℕ) → k + 1 < n → together (get_or xs k 0) (get_or xs (k + 1) 0) ≡ true)
    → (n < length xs → together (get_or xs (n - 1) 0) (get_or xs n 0) ≡ false)
    → runs together xs ≡ take n xs ∷ runs together (drop n xs)
runs_at together xs zero positive within each ends = absurd (omega arith)
runs_at together xs (suc m) positive within each ends =
    let less : suc m - 1 ≡ m = omega arith in
    first_run together xs m (omega arith) (λ k lt. rw add-one at (each k (omega arith))) (λ lt. rw less at (ends lt))
