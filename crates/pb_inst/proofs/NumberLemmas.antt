-- A list of numbers in two parts: a part of the whole is one of the first and one of the second.
use Rattle.std.proofs.Common.{◌≡◌, ℕ, zero, suc, ◌-◌, ◌≤◌, List, [], ◌∷◌, ◌++◌, length, min, take, drop, refl, sym, ◌∙◌, ap, arith, ℤ, slice_range}

-- a part that begins at the first number
first_part : (z : ℤ) (zs : List ℤ) (b : ℕ) → slice_range (z ∷ zs) 0 (suc b) ≡ z ∷ slice_range zs 0 b
first_part z zs b =
    let more : suc b - 0 ≡ suc b = omega arith in
    let same : b - 0 ≡ b = omega arith in
    ap (λ (n : ℕ). take n (z ∷ zs)) more ∙ ap (λ (n : ℕ). z ∷ take n zs) (sym same)

-- a part that begins later
later_part : (z : ℤ) (zs : List ℤ) (a b : ℕ) → slice_range (z ∷ zs) (suc a) (suc b) ≡ slice_range zs a b
later_part z zs a b =
    let same : suc b - suc a ≡ b - a = omega arith in
    ap (λ (n : ℕ). take n (drop a zs)) same

no_part : (zs : List ℤ) → slice_range zs 0 0 ≡ []
no_part zs = refl

-- the numbers from a place up to another
pub slice_range-append : (xs ys : List ℤ) (a b : ℕ) → a ≤ b → slice_range (xs ++ ys) a b ≡ slice_range xs (min a (length xs)) (min b (length xs)) ++ slice_range ys (a - length xs) (b - length xs)
slice_range-append [] ys a b ordered =
    let no_first : min a 0 ≡ 0 = omega arith in
    let no_last : min b 0 ≡ 0 = omega arith in
    let first : a - 0 ≡ a = omega arith in
    let last : b - 0 ≡ b = omega arith in
    let none = no_part [] in
    let joined : [] ++ slice_range ys a b ≡ slice_range ys a b = refl in
    cc
slice_range-append (x ∷ xs) ys zero zero ordered =
    let no_first : min 0 (length (x ∷ xs)) ≡ 0 = omega arith in
    let first : 0 - length (x ∷ xs) ≡ 0 = omega arith in
    let none = no_part ((x ∷ xs) ++ ys) in
    let no_left = no_part (x ∷ xs) in
    let no_right = no_part ys in
    let joined : ◌≡◌ {A = List ℤ} ([] ++ []) [] = refl in
    cc
slice_range-append (x ∷ xs) ys zero (suc b) ordered =
    let rest = slice_range-append xs ys zero b (omega arith) in
    let whole = first_part x (xs ++ ys) b in
    let left = first_part x xs (min b (length xs)) in
    let no_first : min 0 (length (x ∷ xs)) ≡ 0 = omega arith in
    let none_before : min 0 (length xs) ≡ 0 = omega arith in
    let last : min (suc b) (length (x ∷ xs)) ≡ suc (min b (length xs)) = omega arith in
    let first : 0 - length (x ∷ xs) ≡ 0 - length xs = omega arith in
    let right : suc b - length (x ∷ xs) ≡ b - length xs = omega arith in
    let joined : (x ∷ slice_range xs 0 (min b (length xs))) ++ slice_range ys (0 - length xs) (b - length xs) ≡ x ∷ (slice_range xs 0 (min b (length xs)) ++ slice_range ys (0 - length xs) (b - length xs)) = refl in
    let spread : (x ∷ xs) ++ ys ≡ x ∷ (xs ++ ys) = refl in
    cc
slice_range-append (x ∷ xs) ys (suc a) zero ordered = absurd (omega arith)
slice_range-append (x ∷ xs) ys (suc a) (suc b) ordered =
    let rest = slice_range-append xs ys a b (omega arith) in
    let whole = later_part x (xs ++ ys) a b in
    let left = later_part x xs (min a (length xs)) (min b (length xs)) in
    let from : min (suc a) (length (x ∷ xs)) ≡ suc (min a (length xs)) = omega arith in
    let last : min (suc b) (length (x ∷ xs)) ≡ suc (min b (length xs)) = omega arith in
    let first : suc a - length (x ∷ xs) ≡ a - length xs = omega arith in
    let right : suc b - length (x ∷ xs) ≡ b - length xs = omega arith in
    let spread : (x ∷ xs) ++ ys ≡ x ∷ (xs ++ ys) = refl in
    cc

-- the same, of what the code has read
pub part_of_both : (xs ys all some_xs some_ys : List ℤ) (a b n xa xb ya yb : ℕ) → xs ++ ys ≡ all → a ≤ b → n ≡ length xs → xa ≡ min a n → xb ≡ min b n → ya ≡ a - n → yb ≡ b - n → some_xs ≡ slice_range xs xa xb → some_ys ≡ slice_range ys ya yb → some_xs ++ some_ys ≡ slice_range all a b
part_of_both xs ys all some_xs some_ys a b n xa xb ya yb view ordered count first last wide_first wide_last xs_are ys_are =
    let seam = slice_range-append xs ys a b ordered in
    cc
