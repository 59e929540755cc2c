-- The words of `v` lines, and the values that they spell.
use Rattle.std.specs.Prelude.{◌≡◌, ◌≢◌, ◌⊎◌, ℕ, ◌+◌, ◌-◌, ◌^◌, ◌<◌, ◌≤◌, ⊤, Bool, true, false, if◌then◌else◌, List, [], ◌∷◌, ◌++◌, length, map, slice_index_or, slice_set, codes, All, AllPairs}
use Rattle.std.specs.List.{AllZip}
use Rattle.std.proofs.Common.{replicate}
use Rattle.pb_inst.specs.Literal.{Literal}
use Rattle.pb_inst.specs.Cubes.{MakesTrue}
use Rattle.pb_read.specs.declared.format.Format.{Format}
use Rattle.pb_read.specs.declared.format.Format.TheVariants.{Opb, Cnf, Icnf}
use Rattle.pb_report.specs.Numbers.{IsCount}
use Rattle.pb_report.specs.declared.values.Values.{Values}
use Rattle.pb_report.specs.declared.words.ValueWord.{ValueWord}
use Rattle.pb_report.specs.declared.words.ValueWord.TheVariants as value

-- the digits write the variable of a literal of that sign
abbrev pub IsDigitsOf : Bool → List ℕ → ValueWord → Type 0
IsDigitsOf sign digits (value.Literal positive var) = (positive ≡ sign) × IsCount digits var
IsDigitsOf sign digits value.End = ⊥

-- `x3` (`x` is 120), and `-x3` or `~x3` (45 and 126)
abbrev pub IsOpbWord : List ℕ → ValueWord → Type 0
IsOpbWord word (value.Literal true var) = (digits : List ℕ) × (word ≡ 120 ∷ digits) × IsCount digits var
IsOpbWord word (value.Literal false var) = (digits : List ℕ) × ((word ≡ 45 ∷ 120 ∷ digits) ⊎ (word ≡ 126 ∷ 120 ∷ digits)) × IsCount digits var
IsOpbWord word value.End = ⊥

-- `3` and `-3`, and `0` as the end
abbrev pub IsDimacsWord : List ℕ → ValueWord → Type 0
IsDimacsWord word (value.Literal true var) = IsCount word var
IsDimacsWord word (value.Literal false var) = (digits : List ℕ) × (word ≡ 45 ∷ digits) × IsCount digits var
IsDimacsWord word value.End = word ≡ codes "0"

-- the word spells this in the format
abbrev pub IsValueWord : Format → List ℕ → ValueWord → Type 0
IsValueWord Opb word value = IsOpbWord word value
IsValueWord Cnf word value = IsDimacsWord word value
IsValueWord Icnf word value = IsDimacsWord word value

-- a variable is numbered from 1 on, in 32 bits
abbrev pub IsCounted : ValueWord → Type 0
IsCounted (value.Literal positive var) = (1 ≤ var) × (var < 2 ^ 32)
IsCounted value.End = ⊤

-- whether the literals have an end
abbrev pub has_end : Format → Bool
has_end Opb = false
has_end Cnf = true
has_end Icnf = true

-- literals, and perhaps the end
abbrev pub written : List Literal → Bool → List ValueWord
written lits ended = map (λ l. value.Literal l.positive l.var) lits ++ (if ended then value.End ∷ [] else [])

-- no two of the literals are of one variable, each is of one from 1 to n, and the values make it true
pub record AreOf (n : ℕ) (lits : List Literal) (values : List Bool) : Type 0 where
  pub for_all_variables : length values ≡ n
  pub in_range : All (λ l. (1 ≤ l.var) × (l.var ≤ n)) lits
  pub once : AllPairs (λ l m. l.var ≢ m.var) lits
  pub true_literals : MakesTrue values lits

-- The words spell one literal of each variable from 1 to n, and the format's end; these values make the literals true.
pub record AreSpelled (format : Format) (n : ℕ) (words : List (List ℕ)) (values : List Bool) : Type 0 where
  pub lits : List Literal
  pub spelled : AllZip (IsValueWord format) words (written lits (has_end format))
  pub count : length lits ≡ n
  pub are_of : AreOf n lits values

-- These words were taken of literals of the variables from 1 to n.
pub record AreTaken (n : ℕ) (words : List (List ℕ)) (values : Values) : Type 0 where
  pub lits : List Literal
  pub spelled : AllZip (IsValueWord values.format) words (written lits values.ended)
  pub count : length lits + values.left ≡ n
  pub are_of : AreOf n lits values.given
  pub seen_count : length values.seen ≡ n
  pub seen : All (λ l. slice_index_or values.seen (l.var - 1) false ≡ true) lits

-- no variable of n has a value
abbrev pub fresh_values : Format → ℕ → Values
fresh_values format n = record { format = format; given = replicate n false; seen = replicate n false; left = n; ended = false }

-- what a literal makes of values, and what the end does
abbrev pub after_literal : Values → Bool → ℕ → Values
after_literal values positive var = record { format = values.format; given = slice_set values.given (var - 1) positive; seen = slice_set values.seen (var - 1) true; left = values.left - 1; ended = values.ended }

abbrev pub after_end : Values → Values
after_end values = record { format = values.format; given = values.given; seen = values.seen; left = values.left; ended = true }

-- these can be taken one after another, and then every variable has its value
abbrev pub Complete : List ValueWord → Values → Type 0
Complete [] values = (values.left ≡ 0) × (values.ended ≡ has_end values.format)
Complete (value.Literal positive var ∷ more) values =
    (values.ended ≡ false) × (1 ≤ var) × (var < 2 ^ 32) × (var ≤ length values.given) × (slice_index_or values.seen (var - 1) false ≡ false) × (1 ≤ values.left) × Complete more (after_literal values positive var)
Complete (value.End ∷ more) values = (values.ended ≡ false) × Complete more (after_end values)

-- the words spell such
abbrev pub CompleteWords : List (List ℕ) → Values → Type 0
CompleteWords words values = (more : List ValueWord) × AllZip (IsValueWord values.format) words more × Complete more values
