-- Every assignment lies in some piece.
use Rattle.std.proofs.Common.{◌≡◌, ℕ, ◌+◌, ◌-◌, ◌<◌, List, [], ◌∷◌, length, refl, arith, suc, Bool, true, false, cond, All, inl, inr, ◌⊎◌}
use Rattle.std.specs.Prelude.{Any, IsSomeAnd, slice_get, slice_index_or}
use Rattle.std.proofs.lemmas.List.Elements.{All-nil, All-cons}
use Rattle.pb_inst.specs.Literal.{Literal}
use Rattle.pb_inst.specs.Meaning.{literal_value}
use Rattle.pb_inst.specs.Cubes.{MakesTrue, MakesFalse}
use Rattle.pb_cubes.specs.Pieces.{LiesInSome}

by_bools : (sign value : Bool) → (cond sign (cond value 1 0) (1 - cond value 1 0) ≡ 1) ⊎ (cond sign (cond value 1 0) (1 - cond value 1 0) ≡ 0)
by_bools true true = inl refl
by_bools true false = inr refl
by_bools false true = inr refl
by_bools false false = inl refl

-- a literal is true or false
pub literal_cases : (a : List Bool) (l : Literal) → (literal_value a l ≡ 1) ⊎ (literal_value a l ≡ 0)
literal_cases a l = by_bools l.positive (slice_index_or a (l.var - 1) false)

-- what holds of some element holds of one in a longer list
Any-later : {X : Type 0} (P : X → Type 0) (x : X) (xs : List X) → Any P xs → Any P (x ∷ xs)
Any-later P x xs h = (suc h.0, h.1, omega (arith, h.2), h.3, h.4)

Any-first : {X : Type 0} (P : X → Type 0) (x : X) (xs : List X) → P x → Any P (x ∷ xs)
Any-first P x xs h = (0, x, omega arith, refl, h)

-- all literals of the cube are true, or some literal is false
pub cube_cases : (a : List Bool) (cube : List Literal) → MakesTrue a cube ⊎ MakesFalse a cube
cube_cases a [] = inl (All-nil (λ l. literal_value a l ≡ 1))
cube_cases a (l ∷ cube) =
    elim (literal_cases a l) [
      | inr isnt ↦ inr (Any-first (λ m. literal_value a m ≡ 0) l cube isnt)
      | inl is ↦ elim (cube_cases a cube) [
        | inl all ↦ inl (All-cons (λ m. literal_value a m ≡ 1) l cube is all)
        | inr some ↦ inr (Any-later (λ m. literal_value a m ≡ 0) l cube some)
      ]
    ]

-- some cube is true, or each cube is false
pub record InSomeCube (a : List Bool) (cubes : List (List Literal)) : Type 0 where
  pub number : ℕ
  pub below : number < length cubes
  pub inside : IsSomeAnd (slice_get cubes number) (λ cube. MakesTrue a cube)

pub cubes_cases : (a : List Bool) (cubes : List (List Literal)) → InSomeCube a cubes ⊎ All (λ cube. MakesFalse a cube) cubes
cubes_cases a [] = inr (All-nil (λ cube. MakesFalse a cube))
cubes_cases a (cube ∷ cubes) =
    elim (cube_cases a cube) [
      | inl is ↦ inl (record { number = 0; below = omega arith; inside = is })
      | inr isnt ↦ elim (cubes_cases a cubes) [
        | inl some ↦ inl (record { number = suc some.number; below = omega arith; inside = some.inside })
        | inr none ↦ inr (All-cons (λ c. MakesFalse a c) cube cubes isnt none)
      ]
    ]

pub lies_in_some : (cubes : List (List Literal)) (a : List Bool) → LiesInSome cubes (length cubes + 1) a
lies_in_some cubes a =
    elim (cubes_cases a cubes) [
      | inl some ↦ record { number = some.number; below = omega arith; inside = inl some.inside }
      | inr none ↦ record { number = length cubes; below = omega arith; inside = inr (refl, none) }
    ]
