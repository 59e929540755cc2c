-- The cube of a number, literal by literal.
use Rattle.std.proofs.Common.{◌≡◌, ℕ, ◌+◌, ◌-◌, ◌<◌, ◌≤◌, ◌==◌, ◌/◌, ◌^◌, List, [], ◌∷◌, ◌++◌, length, map, get_or, take, refl, ap, ◌∙◌, sym, arith, suc, zero, bit_and, below_more, get_or-set_other, get_or-set_same, ◌≢◌}
use Rattle.std.specs.Prelude.{slice_set, All}
use Rattle.std.specs.Int.{bit_at}
use Rattle.std.specs.List.{range_with_len}
use Rattle.std.proofs.lemmas.List.FromFn.{map-range_with_len_more, length-map-range_with_len, get_or-map-range_with_len}
use Rattle.std.proofs.lemmas.Nat.Bits.{shr_and_one}
use Rattle.std.proofs.lemmas.List.{length-take, get_or-take, same_lists}
use Rattle.pb_inst.specs.Literal.{Literal}
use Rattle.pb_inst.specs.Problem.{Problem}
use Rattle.pb_cubes.specs.Pieces.{AreWithin}
use Rattle.pb_cubes.specs.Split.{numbered_cube, split_cubes, IsSplit}

pub length-numbered_cube : (vars : List ℕ) (m : ℕ) → length (numbered_cube vars m) ≡ length vars
length-numbered_cube [] m = refl
length-numbered_cube (v ∷ vars) m = ap suc (length-numbered_cube vars m)

-- the literal at i, after which j follow
get_or-numbered_cube : (vars : List ℕ) (m i j : ℕ) (d : Literal) → i + j + 1 ≡ length vars → get_or (numbered_cube vars m) i d ≡ record { var = get_or vars i 0; positive = bit_at m j == 1 }
get_or-numbered_cube [] m i j d h = absurd (omega arith)
get_or-numbered_cube (v ∷ vars) m zero j d h =
    let e : length vars ≡ j = omega arith in
    ap (λ (n : ℕ). let l : Literal = record { var = v; positive = bit_at m n == 1 } in l) e
get_or-numbered_cube (v ∷ vars) m (suc i) j d h = get_or-numbered_cube vars m i j d (omega arith)

abbrev IsCubeUpTo : List ℕ → ℕ → List Literal → ℕ → Type 0
IsCubeUpTo vars m lits i = (j : ℕ) (d : Literal) → j < i → get_or lits j d ≡ get_or (numbered_cube vars m) j d

-- one more literal, as the code computes its digit
pub IsCubeUpTo-more : (vars : List ℕ) (m i : ℕ) (lits : List Literal) (lit : Literal) → i < length vars → i < length lits → lit ≡ record { var = get_or vars i 0; positive = bit_and (m / 2 ^ (length vars - 1 - i)) 1 == 1 } → IsCubeUpTo vars m lits i → IsCubeUpTo vars m (slice_set lits i lit) (i + 1)
IsCubeUpTo-more vars m i lits lit in_vars in_lits is before j d h =
    let P : ℕ → Type 0 = λ n. get_or (slice_set lits i lit) n d ≡ get_or (numbered_cube vars m) n d in
    below_more P i
    (λ n l. let ne : n ≢ i = omega arith in rw get_or-set_other (before n d l))
    (let digit = ap (λ (b : ℕ). let l : Literal = record { var = get_or vars i 0; positive = b == 1 } in l) (shr_and_one m (length vars - 1 - i)) in
    let at = get_or-numbered_cube vars m i (length vars - 1 - i) d (omega arith) in
    rw get_or-set_same (is ∙ (digit ∙ sym at)))
    j h

-- the whole cube
pub IsCubeUpTo-all : (vars : List ℕ) (m : ℕ) (lits : List Literal) → length vars ≤ length lits → IsCubeUpTo vars m lits (length vars) → take (length vars) lits ≡ numbered_cube vars m
IsCubeUpTo-all vars m lits room is =
    let len = length-numbered_cube vars m in
    let cut = length-take (length vars) lits in
    same_lists (take (length vars) lits) (numbered_cube vars m) (omega arith)
    (λ k d h. let l : k < length vars = omega arith in get_or-take (length vars) lits k d l ∙ is k d l)

-- one more cube
pub split_cubes_more : (vars : List ℕ) (n : ℕ) (before after : List (List Literal)) (cube : List Literal) → before ≡ map (numbered_cube vars) (range_with_len 0 n) → cube ≡ numbered_cube vars n → after ≡ before ++ cube ∷ [] → after ≡ map (numbered_cube vars) (range_with_len 0 (n + 1))
split_cubes_more vars n before after cube so_far here pushed =
    let more = map-range_with_len_more (numbered_cube vars) 0 n n (omega arith) in
    pushed ∙ (ap (λ cubes. cubes ++ cube ∷ []) so_far ∙ (ap (λ c. map (numbered_cube vars) (range_with_len 0 n) ++ c ∷ []) here ∙ sym more))

numbered_cube-within : (n : ℕ) (vars : List ℕ) (m : ℕ) → All (λ v. v ≤ n) vars → All (λ l. l.var ≤ n) (numbered_cube vars m)
numbered_cube-within n vars m all i d h =
    let len = length-numbered_cube vars m in
    let here : i < length vars = omega arith in
    let at = get_or-numbered_cube vars m i (length vars - 1 - i) d (omega arith) in
    rw at (all i 0 here)

split_cubes-within : (n : ℕ) (vars : List ℕ) → All (λ v. v ≤ n) vars → AreWithin n (split_cubes vars)
split_cubes-within n vars all m d h =
    let len = length-map-range_with_len (numbered_cube vars) 0 (2 ^ length vars) in
    let cube = get_or-map-range_with_len (numbered_cube vars) 0 (2 ^ length vars) m m d (omega arith) (omega arith) in
    rw cube (numbered_cube-within n vars m all)

-- the literals of a split are of the instance's variables
pub IsSplit-within : (p : Problem) (k : ℕ) (cubes : List (List Literal)) → IsSplit p k cubes → AreWithin p.vars cubes
IsSplit-within p k cubes is = rw is.numbered (split_cubes-within p.vars is.vars (λ i d h. (is.most.in_range i d h).1))

pub IsSplit-number : (p : Problem) (k : ℕ) (cubes : List (List Literal)) → IsSplit p k cubes → length cubes ≡ 2 ^ k
IsSplit-number p k cubes is =
    ap (λ (cs : List (List Literal)). length cs) is.numbered ∙ (length-map-range_with_len (numbered_cube is.vars) 0 (2 ^ length is.vars) ∙ ap (λ n. 2 ^ n) is.most.number)
