-- Lines of cubes, and files of them.
-- Source: [ICNF]
use Rattle.std.specs.Prelude.{ℕ, ◌≡◌, ◌+◌, ◌≤◌, Bool, true, not, ◌||◌, nat_lt, min, List, [], ◌∷◌, ◌++◌, map, length, codes, Option, drop}
use Rattle.std.specs.List.{AllByRecursion}
use Rattle.pb_read.specs.declared.fault.ReadKind.{ReadKind}
use Rattle.pb_read.specs.declared.fault.ReadKind.TheVariants.{Syntax}
use Rattle.pb_read.specs.declared.fault.ReadFault.{ReadFault}
use Rattle.pb_read.specs.Runs.{first_is}
use Rattle.pb_read.specs.Text.{items, content, words, is_text}
use Rattle.pb_inst.specs.Literal.{Literal}
use Rattle.pb_inst.specs.declared.limits.TheConstants.{MAX_VARS, MAX_TERMS}
use Rattle.pb_read.specs.Refusal.{Faults, first_fault}
use Rattle.pb_read.specs.Clauses.{Word, word_faults, word_of, whole_words, literals_in, VarsUpTo, literal_count}

abbrev pub most_cubes : ℕ
most_cubes = 1048575

-- the first word is `a`
abbrev pub is_cube_line : List ℕ → Bool
is_cube_line line = first_is (is_text (codes "a")) (words line)

-- the words after the `a`
abbrev pub cube_words : List ℕ → List Word
cube_words line = map word_of (drop 1 (words line))

-- The faults of a line where cube lines stand, in order; other is what any other line is.
abbrev pub cube_faults : ReadKind → ℕ → List (List ℕ) → List ℕ → Faults
cube_faults other n earlier line =
    (other, not (is_cube_line line))
    ∷ word_faults n (cube_words line) (nat_lt most_cubes (length earlier + 1) || nat_lt MAX_TERMS (literals_in cube_words (earlier ++ line ∷ [])))

-- one cube to a line, each after an `a`
pub record CubeLines (lines : List (List ℕ)) (n : ℕ) (cubes : List (List Literal)) : Type 0 where
  pub each : AllByRecursion (λ line. is_cube_line line ≡ true) lines
  pub spelled : map cube_words lines ≡ map whole_words cubes
  pub count : length cubes ≤ most_cubes
  pub literals : literal_count cubes ≤ MAX_TERMS
  pub indices : VarsUpTo n cubes

-- A cube file has no header, and its cubes are over n variables.
abbrev pub CubeText : List ℕ → ℕ → List (List Literal) → Type 0
CubeText text n cubes = CubeLines (items (content text)) (min n MAX_VARS) cubes

abbrev pub cube_refusal : List ℕ → ℕ → Option ReadFault
cube_refusal text n = first_fault (cube_faults Syntax (min n MAX_VARS)) [] (content text)
