-- Where some assignment is feasible, one is least: of the lists of n truth values that pass a test that can be decided, one is first in an order.
use Rattle.std.proofs.Common.{◌≡◌, ℕ, zero, suc, Bool, true, false, List, [], ◌∷◌, length, refl, subst, arith, inl, inr, ◌⊎◌, ℤ, ◌≤ℤ◌, All}
use Rattle.std.proofs.lemmas.Int.{ints, by_lt_z}
use Rattle.std.proofs.lemmas.List.Elements.{All-nil, All-cons, All-head, All-tail}
use Rattle.pb_inst.specs.declared.constraints.Relation.{Relation}
use Rattle.pb_inst.specs.declared.constraints.Relation.TheVariants.{AtLeast, AtMost, Equal}
use Rattle.pb_inst.specs.Problem.{LinearConstraint, Problem}
use Rattle.pb_inst.specs.Meaning.{sum_value, Stands, Meets, IsFeasible}
use Rattle.pb_inst.specs.Order.{IsBefore}
use Rattle.pb_inst.specs.OrderLaws.{LeastExists}
use Rattle.pb_inst.proofs.OrderProofs.{none_before_itself, before_is_transitive, before_is_total}

-- b is of length n and passes, and no other such list is before it
record IsFirst (n : ℕ) (Passes : List Bool → Type 0) (Before : List Bool → List Bool → Type 0) (b : List Bool) : Type 0 where
  same_length : length b ≡ n
  passes : Passes b
  first : (c : List Bool) → length c ≡ n → Passes c → Before c b → ⊥

abbrev HasFirst : ℕ → (List Bool → Type 0) → (List Bool → List Bool → Type 0) → Type 0
HasFirst n Passes Before = (b : List Bool) × IsFirst n Passes Before b

abbrev NonePasses : ℕ → (List Bool → Type 0) → Type 0
NonePasses n Passes = (c : List Bool) → length c ≡ n → Passes c → ⊥

-- of two lists of one length, what is before the one is before the other, or the other way round
abbrev AreComparable : (List Bool → List Bool → Type 0) → Type 0
AreComparable Before = (a b : List Bool) → length a ≡ length b → ((c : List Bool) → Before c a → Before c b) ⊎ ((c : List Bool) → Before c b → Before c a)

first_of_none : (Passes : List Bool → Type 0) (Before : List Bool → List Bool → Type 0) → ((a : List Bool) → Before a a → ⊥) → (c : List Bool) → length c ≡ 0 → Passes c → Before c [] → ⊥
first_of_none Passes Before strict [] e p h = strict [] h
first_of_none Passes Before strict (x ∷ c) e p h = absurd (omega arith)

none_of_none : (Passes : List Bool → Type 0) → (Passes [] → ⊥) → NonePasses 0 Passes
none_of_none Passes fails [] e p = fails p
none_of_none Passes fails (x ∷ c) e p = absurd (omega arith)

-- no list is before b, since none with either head is
by_head : (n : ℕ) (Passes : List Bool → Type 0) (Before : List Bool → List Bool → Type 0) (b : List Bool)
    → ((c : List Bool) → length c ≡ n → Passes (false ∷ c) → Before (false ∷ c) b → ⊥)
    → ((c : List Bool) → length c ≡ n → Passes (true ∷ c) → Before (true ∷ c) b → ⊥)
    → (c : List Bool) → length c ≡ suc n → Passes c → Before c b → ⊥
by_head n Passes Before b low high [] e p h = absurd (omega arith)
by_head n Passes Before b low high (false ∷ c) e p h = low c (omega arith) p h
by_head n Passes Before b low high (true ∷ c) e p h = high c (omega arith) p h

none_by_head : (n : ℕ) (Passes : List Bool → Type 0) → NonePasses n (λ c. Passes (false ∷ c)) → NonePasses n (λ c. Passes (true ∷ c)) → NonePasses (suc n) Passes
none_by_head n Passes low high [] e p = absurd (omega arith)
none_by_head n Passes low high (false ∷ c) e p = low c (omega arith) p
none_by_head n Passes low high (true ∷ c) e p = high c (omega arith) p

-- the first of those that begin with false, and of those that begin with true, give the first of all
of_both : (n : ℕ) (Passes : List Bool → Type 0) (Before : List Bool → List Bool → Type 0) → AreComparable Before
    → HasFirst n (λ c. Passes (false ∷ c)) (λ c d. Before (false ∷ c) (false ∷ d)) ⊎ NonePasses n (λ c. Passes (false ∷ c))
    → HasFirst n (λ c. Passes (true ∷ c)) (λ c d. Before (true ∷ c) (true ∷ d)) ⊎ NonePasses n (λ c. Passes (true ∷ c))
    → HasFirst (suc n) Passes Before ⊎ NonePasses (suc n) Passes
of_both n Passes Before comparable (inr none_low) (inr none_high) = inr (none_by_head n Passes none_low none_high)
of_both n Passes Before comparable (inl (a, low)) (inr none_high) =
    inl (
      false ∷ a,
      record {
        same_length = omega (arith, low.same_length);
        passes = low.passes;
        first = by_head n Passes Before (false ∷ a) low.first (λ c e p h. none_high c e p);
      },
    )
of_both n Passes Before comparable (inr none_low) (inl (b, high)) =
    inl (
      true ∷ b,
      record {
        same_length = omega (arith, high.same_length);
        passes = high.passes;
        first = by_head n Passes Before (true ∷ b) (λ c e p h. none_low c e p) high.first;
      },
    )
of_both n Passes Before comparable (inl (a, low)) (inl (b, high)) =
    elim (comparable (false ∷ a) (true ∷ b) (omega (arith, low.same_length, high.same_length))) [
      | inl through ↦ inl (
        false ∷ a,
        record {
          same_length = omega (arith, low.same_length);
          passes = low.passes;
          first = by_head n Passes Before (false ∷ a) low.first (λ c e p h. high.first c e p (through (true ∷ c) h));
        },
      )
      | inr through ↦ inl (
        true ∷ b,
        record {
          same_length = omega (arith, high.same_length);
          passes = high.passes;
          first = by_head n Passes Before (true ∷ b) (λ c e p h. low.first c e p (through (false ∷ c) h)) high.first;
        },
      )
    ]

-- lists with one head are comparable as the lists below it
below_head : (x : Bool) (Before : List Bool → List Bool → Type 0) → AreComparable Before → AreComparable (λ c d. Before (x ∷ c) (x ∷ d))
below_head x Before comparable a b e = elim (comparable (x ∷ a) (x ∷ b) (omega arith)) [
  | inl through ↦ inl (λ c. through (x ∷ c))
  | inr through ↦ inr (λ c. through (x ∷ c))
]

-- of the lists of n truth values that pass one is first, or none passes
first_exists : (n : ℕ) (Passes : List Bool → Type 0) (Before : List Bool → List Bool → Type 0)
    → ((a : List Bool) → Passes a ⊎ (Passes a → ⊥)) → ((a : List Bool) → Before a a → ⊥) → AreComparable Before
    → HasFirst n Passes Before ⊎ NonePasses n Passes
first_exists zero Passes Before decided strict comparable = elim (decided []) [
  | inl found ↦ inl ([], record { same_length = refl; passes = found; first = first_of_none Passes Before strict })
  | inr fails ↦ inr (none_of_none Passes fails)
]
first_exists (suc n) Passes Before decided strict comparable =
    of_both n Passes Before comparable
    (first_exists n (λ c. Passes (false ∷ c)) (λ c d. Before (false ∷ c) (false ∷ d)) (λ c. decided (false ∷ c)) (λ c. strict (false ∷ c)) (below_head false Before comparable))
    (first_exists n (λ c. Passes (true ∷ c)) (λ c d. Before (true ∷ c) (true ∷ d)) (λ c. decided (true ∷ c)) (λ c. strict (true ∷ c)) (below_head true Before comparable))

-- two integers compared, and whether a value stands in a relation to a bound
decides_le : (x y : ℤ) → (x ≤ℤ y) ⊎ (x ≤ℤ y → ⊥)
decides_le x y = by_lt_z y x (λ less. inr (λ h. omega (arith, ints))) (λ h. inl h)

decides_eq : (x y : ℤ) → (x ≡ y) ⊎ (x ≡ y → ⊥)
decides_eq x y =
    by_lt_z x y
    (λ less. inr (λ e. omega (arith, ints)))
    (λ h. by_lt_z y x (λ less. inr (λ e. omega (arith, ints))) (λ k. inl (omega (arith, ints))))

decides_relation : (r : Relation) (value bound : ℤ) → Stands r value bound ⊎ (Stands r value bound → ⊥)
decides_relation AtLeast value bound = decides_le bound value
decides_relation AtMost value bound = decides_le value bound
decides_relation Equal value bound = decides_eq value bound

decides_all : (a : List Bool) (constraints : List LinearConstraint) → All (λ c. Meets a c) constraints ⊎ (All (λ c. Meets a c) constraints → ⊥)
decides_all a [] = inl (All-nil (λ c. Meets a c))
decides_all a (c ∷ rest) = elim (decides_relation c.relation (sum_value a c.terms) c.bound) [
  | inl meets ↦ elim (decides_all a rest) [
    | inl all ↦ inl (All-cons (λ c. Meets a c) c rest meets all)
    | inr fails ↦ inr (λ h. fails (All-tail (λ c. Meets a c) c rest h))
  ]
  | inr fails ↦ inr (λ h. fails (All-head (λ c. Meets a c) c rest h))
]

-- an assignment is feasible or is not
pub decides_feasible : (p : Problem) (a : List Bool) → IsFeasible p a ⊎ (IsFeasible p a → ⊥)
decides_feasible p a = decides_all a p.constraints

comparable_before : (p : Problem) → AreComparable (λ a b. IsBefore p a b)
comparable_before p a b e = elim (before_is_total p a b e) [
  | inl h ↦ inl (λ c k. before_is_transitive p c a b k h)
  | inr other ↦ elim other [
    | inl same ↦ inl (λ c k. subst (λ (d : List Bool). IsBefore p c d) same k)
    | inr h ↦ inr (λ c k. before_is_transitive p c b a k h)
  ]
]

pub least_exists : LeastExists
least_exists p a e feasible =
    elim (first_exists p.vars (IsFeasible p) (IsBefore p) (decides_feasible p) (none_before_itself p) (comparable_before p)) [
      | inl found ↦ (found.0, record { for_all_variables = found.1.same_length; feasible = found.1.passes; first = found.1.first })
      | inr none ↦ absurd (none a e feasible)
    ]
