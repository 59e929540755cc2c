-- Every assignment makes some cube of a split true: that of the number whose binary digits are the variables' values.
use Rattle.std.proofs.Common.{◌≡◌, ℕ, ◌+◌, ◌-◌, ◌*◌, ◌<◌, ◌≤◌, ◌==◌, ◌^◌, List, [], ◌∷◌, length, refl, ap, ◌∙◌, arith, Bool, true, false, cond}
use Rattle.std.specs.Prelude.{Any, slice_index_or}
use Rattle.std.specs.Int.{bit_at}
use Rattle.std.proofs.lemmas.List.Elements.{All-nil, All-cons}
use Rattle.std.proofs.lemmas.List.FromFn.{length-map-range_with_len, get_or-map-range_with_len}
use Rattle.std.proofs.lemmas.Nat.Bits.{bit_at_lowest, bit_at_cat_low, bit_at_cat_high}
use Rattle.std.proofs.Math.Nat.{mul-le-mul_right, pow-suc}
use Rattle.pb_inst.specs.Literal.{Literal}
use Rattle.pb_inst.specs.Meaning.{literal_value, variable_value}
use Rattle.pb_inst.specs.Cubes.{MakesTrue}
use Rattle.pb_inst.specs.Problem.{Problem}
use Rattle.pb_cubes.specs.Split.{numbered_cube, split_cubes, IsSplit}

number_of : List Bool → List ℕ → ℕ
number_of a [] = 0
number_of a (v ∷ vars) = variable_value a v * 2 ^ length vars + number_of a vars

bit_cases : (a : List Bool) (v : ℕ) → variable_value a v ≤ 1
bit_cases a v = elim (slice_index_or a (v - 1) false) as (λ b. cond b 1 0 ≤ 1) [ true ↦ omega arith | false ↦ omega arith ]

number_of-lt : (a : List Bool) (vars : List ℕ) → number_of a vars < 2 ^ length vars
unfolding number_of
number_of-lt a [] = omega arith
number_of-lt a (v ∷ vars) =
    let below = number_of-lt a vars in
    let small = bit_cases a v in
    let scaled = mul-le-mul_right (2 ^ length vars) small in
    let power = pow-suc 2 (length vars) in
    omega arith

-- a literal whose sign is the value of its variable
signed : (b : Bool) → cond (cond b 1 0 == 1) (cond b 1 0) (1 - cond b 1 0) ≡ 1
signed true = refl
signed false = refl

literal_true : (a : List Bool) (v : ℕ) (digit : ℕ) → digit ≡ variable_value a v → literal_value a (record { var = v; positive = digit == 1 }) ≡ 1
literal_true a v digit is = ap (λ n. cond (n == 1) (variable_value a v) (1 - variable_value a v)) is ∙ signed (slice_index_or a (v - 1) false)

lowest : (b n : ℕ) → b ≤ 1 → bit_at b (n - n) ≡ b
lowest b n h =
    let none : n - n ≡ 0 = omega arith in
    ap (bit_at b) none ∙ (bit_at_lowest b ∙ omega arith)

numbered_cube-true : (a : List Bool) (vars : List ℕ) (m : ℕ) → ((j : ℕ) → j < length vars → bit_at m j ≡ bit_at (number_of a vars) j) → MakesTrue a (numbered_cube vars m)
unfolding number_of
numbered_cube-true a [] m same = All-nil (λ l. literal_value a l ≡ 1)
numbered_cube-true a (v ∷ vars) m same =
    let below = number_of-lt a vars in
    let small = bit_cases a v in
    let high = bit_at_cat_high (variable_value a v) (length vars) (number_of a vars) (length vars) below (omega arith) in
    All-cons (λ l. literal_value a l ≡ 1) (record { var = v; positive = bit_at m (length vars) == 1 }) (numbered_cube vars m)
    (literal_true a v (bit_at m (length vars)) (same (length vars) (omega arith) ∙ (high ∙ lowest (variable_value a v) (length vars) small)))
    (numbered_cube-true a vars m (λ j h. same j (omega arith) ∙ bit_at_cat_low (variable_value a v) (length vars) (number_of a vars) j h))

split_cubes-cover : (vars : List ℕ) (a : List Bool) → Any (λ cube. MakesTrue a cube) (split_cubes vars)
split_cubes-cover vars a =
    let below = number_of-lt a vars in
    let len = length-map-range_with_len (numbered_cube vars) 0 (2 ^ length vars) in
    let cube : List Literal = numbered_cube vars (number_of a vars) in
    (number_of a vars, cube, omega arith, get_or-map-range_with_len (numbered_cube vars) 0 (2 ^ length vars) (number_of a vars) (number_of a vars) cube below (omega arith), numbered_cube-true a vars (number_of a vars) (λ j h. refl))

pub IsSplit-covers : (p : Problem) (k : ℕ) (cubes : List (List Literal)) → IsSplit p k cubes → (a : List Bool) → Any (λ cube. MakesTrue a cube) cubes
IsSplit-covers p k cubes is a = rw is.numbered (split_cubes-cover is.vars a)
