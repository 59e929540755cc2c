-- Sums, counts and members over a list of seats of which one changes.
use Rattle.std.proofs.Common.{◌≡◌, ℕ, zero, suc, ◌+◌, ◌<◌, ◌≤◌, ◌≢◌, List, [], ◌∷◌, ◌++◌, Bool, length, set, get_or, cond, eqb, eq-eqb, ne_eqb, sym, refl, ap, subst, ⊎_elim, arith}
use Rattle.std.specs.Prelude.{All, Contains, sum_by, count_by, flat_map}
use mathlib.Core.Option.{some, some-injective, some-ne-none}
use mathlib.Core.Logic.{dite}
use native.Mathlib.Decide.{ℕ_discrete}
use lib.ListN.{get_elem?}
use Rattle.atomic_table.proofs.Lists.{at_set}
use Rattle.std.proofs.lemmas.List.Sums.{sum_by-cons, sum_by-append, sum_by-set, get_or-le-sum_by}
use Rattle.std.proofs.lemmas.List.Concat.{length-flat_map}
use Rattle.std.proofs.lemmas.List.Elements.{Contains-get_or}
use Rattle.pb_board.specs.Numbers.{times}

module _ {A : Type 0} where
  pub at_below : (l : List A) (i : ℕ) (a : A) → get_elem? l i ≡ some a → i < length l
  at_below [] i a e = absurd (some-ne-none a (sym e))
  at_below (x ∷ xs) zero a e = omega arith
  at_below (x ∷ xs) (suc i) a e = let h = at_below xs i a e in omega arith

  pub at_get_or : (l : List A) (i : ℕ) (a d : A) → get_elem? l i ≡ some a → get_or l i d ≡ a
  at_get_or [] i a d e = absurd (some-ne-none a (sym e))
  at_get_or (x ∷ xs) zero a d e = some-injective x a e
  at_get_or (x ∷ xs) (suc i) a d e = at_get_or xs i a d e

  module _ (f : A → ℕ) where
    pub sum_set : (l : List A) (i : ℕ) (v w : A) → get_elem? l i ≡ some v → sum_by f (set l i w) + f v ≡ sum_by f l + f w
    sum_set l i v w e = subst (λ u. sum_by f (set l i w) + f u ≡ sum_by f l + f w) (at_get_or l i v v e) (sum_by-set f l i w v (at_below l i v e))

    pub term_le : (l : List A) (i : ℕ) (v : A) → get_elem? l i ≡ some v → f v ≤ sum_by f l
    term_le l i v e = subst (λ u. f u ≤ sum_by f l) (at_get_or l i v v e) (get_or-le-sum_by f l i v (at_below l i v e))

  pub count_flat : (p : ℕ → Bool) (g : A → List ℕ) (l : List A) → count_by p (flat_map g l) ≡ sum_by (λ v. count_by p (g v)) l
  count_flat p g [] = refl
  count_flat p g (x ∷ xs) = omega (arith, sum_by-append (λ y. cond (p y) 1 0) (g x) (flat_map g xs), sum_by-cons (λ v. count_by p (g v)) x xs, count_flat p g xs)

  -- what holds of the view at i, and of the new view there
  pub all_at : (P : A → Type 0) (l : List A) (i : ℕ) (v : A) → All P l → get_elem? l i ≡ some v → P v
  all_at P l i v all e = subst P (at_get_or l i v v e) (all i v (at_below l i v e))

  -- the view at j is not the one that was set at i
  pub at_other : (seats : List A) (i j : ℕ) (b u : A) → ¬ (j ≡ i) → get_elem? (set seats i b) j ≡ some u → get_elem? seats j ≡ some u
  at_other seats i j b u apart e = ⊎_elim (λ t. absurd (apart t.0)) (λ t. t.1) (at_set seats i j b u e)

  module _ (g : A → List ℕ) where
    pub flat_set_times : (x : ℕ) (l : List A) (i : ℕ) (v w : A) → get_elem? l i ≡ some v
        → times x (flat_map g (set l i w)) + times x (g v) ≡ times x (flat_map g l) + times x (g w)
    flat_set_times x l i v w e =
        omega (arith, count_flat (λ y. eqb y x) g (set l i w), count_flat (λ y. eqb y x) g l, sum_set (λ u. times x (g u)) l i v w e)

    pub flat_set_length : (l : List A) (i : ℕ) (v w : A) → get_elem? l i ≡ some v
        → length (flat_map g (set l i w)) + length (g v) ≡ length (flat_map g l) + length (g w)
    flat_set_length l i v w e = omega (arith, length-flat_map g (set l i w), length-flat_map g l, sum_set (λ u. length (g u)) l i v w e)

    pub flat_push_times : (x : ℕ) (l : List A) (w : A) → times x (flat_map g (l ++ w ∷ [])) ≡ times x (flat_map g l) + times x (g w)
    flat_push_times x l w =
        omega (arith, count_flat (λ y. eqb y x) g (l ++ w ∷ []), count_flat (λ y. eqb y x) g l, sum_by-append (λ u. times x (g u)) l (w ∷ []))

    pub flat_push_length : (l : List A) (w : A) → length (flat_map g (l ++ w ∷ [])) ≡ length (flat_map g l) + length (g w)
    flat_push_length l w = omega (arith, length-flat_map g (l ++ w ∷ []), length-flat_map g l, sum_by-append (λ u. length (g u)) l (w ∷ []))

    pub flat_term : (x : ℕ) (l : List A) (i : ℕ) (v : A) → get_elem? l i ≡ some v → times x (g v) ≤ times x (flat_map g l)
    flat_term x l i v e = omega (arith, count_flat (λ y. eqb y x) g l, term_le (λ u. times x (g u)) l i v e)

pub times-append : (x : ℕ) (xs ys : List ℕ) → times x (xs ++ ys) ≡ times x xs + times x ys
times-append x xs ys = sum_by-append (λ y. cond (eqb y x) 1 0) xs ys

-- 1 where y is x
abbrev pub mark : ℕ → ℕ → ℕ
mark x y = cond (eqb y x) 1 0

pub times-cons : (x y : ℕ) (ys : List ℕ) → times x (y ∷ ys) ≡ mark x y + times x ys
times-cons x y ys = sum_by-cons (λ z. cond (eqb z x) 1 0) y ys

pub one_here : (x y : ℕ) → y ≡ x → mark x y ≡ 1
one_here x y e = ap (λ b. cond b 1 0) (eq-eqb y x e)

pub none_here : (x y : ℕ) → y ≢ x → mark x y ≡ 0
none_here x y n = ap (λ b. cond b 1 0) (ne_eqb y x n)

-- a number is among the list's where it is counted
pub counted : (xs : List ℕ) (x : ℕ) → Contains xs x → 0 < times x xs
counted xs x c = omega (arith, get_or-le-sum_by (λ y. cond (eqb y x) 1 0) xs c.0 x c.1, one_here x (get_or xs c.0 x) c.2)

pub found : (xs : List ℕ) (x : ℕ) → 0 < times x xs → Contains xs x
found [] x h = absurd (omega arith)
found (y ∷ ys) x h =
    dite (ℕ_discrete y x) (λ e. (0, (omega arith), e))
    (λ n. let c = found ys x (omega (arith, times-cons x y ys, none_here x y n)) in (suc c.0, (let k = c.1 in omega arith), c.2))

pub contains_more : (x : ℕ) (xs ys : List ℕ) → times x xs ≤ times x ys → Contains xs x → Contains ys x
contains_more x xs ys h c = found ys x (omega (arith, counted xs x c))

pub times-push : (x y : ℕ) (xs : List ℕ) → times x (xs ++ y ∷ []) ≡ times x xs + mark x y
times-push x y xs = omega (arith, times-append x xs (y ∷ []))

-- a fact of each member holds of the list
pub all_of : (P : ℕ → Type 0) (xs : List ℕ) → ((x : ℕ) → Contains xs x → P x) → All P xs
all_of P xs f k d h = f (get_or xs k d) (Contains-get_or xs k d h)
