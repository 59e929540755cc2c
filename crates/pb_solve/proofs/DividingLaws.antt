-- The cubes of the texts are of the instance's variables, so that they make pieces.
use Rattle.std.proofs.Common.{◌≡◌, ◌∙◌, ◌+◌, ◌++◌, length, flat_map, inl, inr, ◌⊎◌, ◌↔◌, ℕ, ◌≤◌, ◌<◌, List, Result, Ok, Err, All, min, subst, sym, ap, arith}
use Rattle.std.specs.Prelude.{IfErr, IsErrOf}
use Rattle.std.proofs.lemmas.List.{length-append}
use Rattle.std.proofs.lemmas.List.Elements.{All-append}
use Rattle.pb_inst.specs.Literal.{Literal}
use Rattle.pb_read.proofs.FormatLaws.{within_up_to}
use Rattle.pb_read.proofs.Limits.{all_map}
use Rattle.pb_inst.specs.declared.limits.TheConstants.{MAX_CUBES}
use Rattle.pb_cubes.specs.declared.faults.CubeFault.{CubeFault}
use Rattle.pb_cubes.specs.declared.faults.CubeFault.TheVariants.{TooMany, BadVariable, Memory}
use Rattle.pb_cubes.specs.Pieces.{AreWithin, HasVariableOver}
use Rattle.pb_solve.specs.Texts.{SpellsCubes}

abbrev IsUpTo : ℕ → Literal → Type 0
IsUpTo n l = l.var ≤ n

-- the cubes of a cube file are of the variables that it was read for
pub file_within : (vars : ℕ) (text : List ℕ) (cubes : List (List Literal)) → SpellsCubes vars text cubes → AreWithin vars cubes
file_within vars text cubes h = within_up_to vars cubes (all_map (λ (l : Literal). l.var ≤ min vars 1048576) (IsUpTo vars) (λ l below. omega (arith, below)) (flat_map (λ c. c) cubes) h.indices)

over_or_within : (n : ℕ) (cubes : List (List Literal)) → AreWithin n cubes → HasVariableOver n cubes → ⊥
over_or_within n cubes within over =
    let (k, cube, below, same, some) = over in
    let (j, l, below', same', greater) = some in
    let all : All (IsUpTo n) cube = subst (All (IsUpTo n)) same (within k cube below) in
    let small : l.var ≤ n = subst (IsUpTo n) same' (all j l below') in
    omega (arith, greater)

-- ---- all cubes together

-- cubes that are few enough, and are of the instance's variables
abbrev pub Fit : ℕ → List (List Literal) → Type 0
Fit n cubes = (length cubes ≤ MAX_CUBES) × AreWithin n cubes

within_joined : (n : ℕ) (xs ys : List (List Literal)) → AreWithin n xs → AreWithin n ys → AreWithin n (xs ++ ys)
within_joined n xs ys h k = All-append (λ (cube : List Literal). All (IsUpTo n) cube) xs ys h k

pub joined_fit : (n : ℕ) (input_cubes file_cubes split_cubes given all : List (List Literal)) → given ≡ input_cubes ++ file_cubes → all ≡ given ++ split_cubes → AreWithin n input_cubes → AreWithin n file_cubes → AreWithin n split_cubes → length input_cubes + length file_cubes + length split_cubes ≤ MAX_CUBES → Fit n all
joined_fit n input_cubes file_cubes split_cubes given all given_is all_is of_input of_file of_split few =
    let joined : all ≡ (input_cubes ++ file_cubes) ++ split_cubes = all_is ∙ ap (λ (cubes : List (List Literal)). cubes ++ split_cubes) given_is in (
      omega (arith, few, ap length joined, length-append (input_cubes ++ file_cubes) split_cubes, length-append input_cubes file_cubes),
      subst (AreWithin n) (sym joined) (within_joined n (input_cubes ++ file_cubes) split_cubes (within_joined n input_cubes file_cubes of_input of_file) of_split),
    )

-- cubes that fit are not refused
pub makes_pieces : {T : Type 0} (r : Result T CubeFault) (n count : ℕ) (cubes : List (List Literal)) → IsErrOf r TooMany ↔ (MAX_CUBES < count) → IsErrOf r BadVariable ↔ ((count ≤ MAX_CUBES) × HasVariableOver n cubes) → IfErr r (λ fault. (fault ≡ TooMany) ⊎ (fault ≡ BadVariable)) → count ≡ length cubes → Fit n cubes → IfErr r (λ fault. fault ≡ Memory)
makes_pieces (Ok pieces) n count cubes many over other is fit = tt
makes_pieces (Err fault) n count cubes many over (inl is) same fit = absurd (let h : MAX_CUBES < count = many.0 (ap Err is) in let bad : ⊥ = omega (arith, h, same, fit.0) in bad)
makes_pieces (Err fault) n count cubes many over (inr is) same fit = absurd (over_or_within n cubes fit.1 (over.0 (ap Err is)).1)
