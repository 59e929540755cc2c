-- All cubes that are read are of the instance's variables, so that they are refused only where they are too many.
use Rattle.std.proofs.Common.{◌≡◌, ◌++◌, ℕ, ◌≤◌, List, All, arith, flat_map, min, subst, sym}
use Rattle.std.proofs.lemmas.List.Elements.{All-append}
use Rattle.pb_inst.specs.Literal.{Literal}
use Rattle.pb_read.specs.Cubes.{CubeText}
use Rattle.pb_read.proofs.FormatLaws.{within_up_to}
use Rattle.pb_read.proofs.Limits.{all_map}
use Rattle.pb_cubes.specs.Pieces.{AreWithin}

-- the cubes of a file are of the variables that it was read for
pub file_within : (vars : ℕ) (text : List ℕ) (cubes : List (List Literal)) → CubeText text vars cubes → AreWithin vars cubes
file_within vars text cubes h = within_up_to vars cubes (all_map (λ (l : Literal). l.var ≤ min vars 1048576) (λ (l : Literal). l.var ≤ vars) (λ l below. omega (arith, below)) (flat_map (λ c. c) cubes) h.indices)

pub joined_within : (n m vars : ℕ) (xs ys all : List (List Literal)) → all ≡ xs ++ ys → AreWithin n xs → AreWithin m ys → vars ≡ n → vars ≡ m → AreWithin vars all
joined_within n m vars xs ys all joined first second of_first of_second =
    subst (AreWithin vars) (sym joined)
    (All-append (λ (cube : List Literal). All (λ (l : Literal). l.var ≤ vars) cube) xs ys (subst (λ (k : ℕ). AreWithin k xs) (sym of_first) first) (subst (λ (k : ℕ). AreWithin k ys) (sym of_second) second))
