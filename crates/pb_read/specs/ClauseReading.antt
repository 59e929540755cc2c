-- Words as the code has them, and what a reader knows of those that it has seen.
use Rattle.std.specs.Prelude.{◌⊎◌, length, ℕ, ◌≡◌, ◌<◌, not, take_while, Bool, true, false, if◌then◌else◌, List, [], ◌∷◌, ◌++◌, map, Option, None, Some}
use Rattle.std.specs.List.{list_any}
use Rattle.pb_inst.specs.Literal.{Literal}
use Rattle.pb_read.specs.declared.dimacs.word.Word as code
use Rattle.pb_read.specs.declared.dimacs.word.Word.TheVariants as variants
use Rattle.pb_read.specs.Capped.{cap_count}
use Rattle.pb_read.specs.Text.{Placed, items, words, numbered, content_of, is_marked}
use Rattle.pb_read.specs.Clauses as clauses
use Rattle.pb_read.specs.Clauses.{is_zero, is_over, is_whole, literal_count, clause_faults, clauses_in, whole_words, greatest_var}
use Rattle.pb_read.specs.declared.dimacs.clause_reader.ClauseReader.{ClauseReader}
use Rattle.pb_read.specs.declared.fault.ReadFault.{ReadFault}
use Rattle.pb_read.specs.Reading.{IsMemory}
use Rattle.pb_read.specs.Refusal.{first_fault}
use Rattle.pb_inst.specs.Constraints.{clause_constraint}
use Rattle.pb_read.specs.Cubes.{CubeLines, is_cube_line, cube_words}
use Rattle.pb_read.specs.Cnf as cnf
use Rattle.pb_read.specs.declared.dimacs.cnf.Header.{Header}

abbrev pub capped : clauses.Word → code.Word
capped (clauses.Lit l) = variants.Literal l.positive (cap_count l.var)
capped clauses.Zero = variants.Zero
capped clauses.Bad = variants.Bad

-- the first word of a line's bytes and the bytes after it, where there is one
abbrev pub IsNextWord : List ℕ → Option (List ℕ × List ℕ) → Type 0
IsNextWord bytes None = words bytes ≡ []
IsNextWord bytes (Some r) = words bytes ≡ r.0 ∷ words r.1

-- the end word, where it was seen
abbrev pub ending : Bool → List clauses.Word
ending ended = if ended then clauses.Zero ∷ [] else []

-- the words so far are literals, and perhaps the end word
pub record IsBegun (literals : List Literal) (ended over : Bool) (seen : List clauses.Word) : Type 0 where
  pub all : List Literal
  pub same : seen ≡ map clauses.Lit all ++ ending ended
  pub kept : over ≡ false → literals ≡ all

-- no clause or cube begins with the words
abbrev pub IsBroken : List clauses.Word → Type 0
IsBroken seen = (more : List clauses.Word) → is_whole (seen ++ more) ≡ false

-- what a reader knows of the words of a clause or a cube that it has seen
pub record Scanned (n : ℕ) (literals : List Literal) (ended broken over : Bool) (seen : List clauses.Word) : Type 0 where
  pub end_is : ended ≡ list_any is_zero seen
  pub over_is : over ≡ list_any (is_over n) seen
  pub broken_is : broken ≡ true → IsBroken seen
  pub begun : broken ≡ false → IsBegun literals ended over seen

-- what stands after the `a` of a cube line, where it is one
abbrev pub IsAfterA : List ℕ → Option (List ℕ) → Type 0
IsAfterA line None = is_cube_line line ≡ false
IsAfterA line (Some after) = (is_cube_line line ≡ true) × (map clauses.word_of (words after) ≡ cube_words line)

-- a literal word is of a variable that is not 0
abbrev pub IsProperWord : code.Word → Type 0
IsProperWord (variants.Literal positive var) = 0 < var
IsProperWord variants.Zero = Unit {0}
IsProperWord variants.Bad = Unit {0}

-- These cubes were read from the lines, and have `count` literals together.
pub record CubesRead (n : ℕ) (cubes : List (List Literal)) (count : ℕ) (earlier : List (List ℕ)) : Type 0 where
  pub lines : CubeLines earlier n cubes
  pub counted : count ≡ literal_count cubes

-- the lines before a `%` line, among lines numbered from a number on
abbrev pub lines_from : ℕ → List (List ℕ) → List (Placed (List ℕ))
lines_from n ls = take_while (λ (l : Placed (List ℕ)). not (is_marked 37 l.item)) (numbered n ls)

-- those of them with content
abbrev pub content_from : ℕ → List (List ℕ) → List (Placed (List ℕ))
content_from n ls = content_of (lines_from n ls)

-- the first line of those that were left, and the number of it, where there is one
abbrev pub IsNextLine : List (Placed (List ℕ)) → List (Placed (List ℕ)) → Option (List ℕ × ℕ) → Type 0
IsNextLine left rest None = (left ≡ []) × (rest ≡ [])
IsNextLine left rest (Some r) = left ≡ record { item = r.0; line = r.1 } ∷ rest

-- ---- clauses word by word

abbrev pub ends : Placed clauses.Word → Bool
ends w = is_zero w.item

-- the line of the first word, where there is one
abbrev pub first_line : List (Placed clauses.Word) → Option ℕ
first_line [] = None
first_line (w ∷ ws) = Some w.line

-- A reader has these clauses, and has begun another with these words.
pub record Holds (announced : Option ℕ) (n : ℕ) (r : ClauseReader) (earlier : List (List Literal)) (begun : List (Placed clauses.Word)) : Type 0 where
  pub same_announced : r.announced ≡ announced
  pub same_limit : r.scan.limit ≡ n
  pub built : r.builder ≡ record { objective = None; constraints = map clause_constraint earlier }
  pub counted : r.count ≡ length earlier
  pub literals : r.literal_count ≡ literal_count earlier
  pub greatest : r.greatest ≡ greatest_var earlier
  pub scanned : Scanned n r.scan.literals.items r.scan.ended r.scan.broken r.scan.over (items begun)
  pub line : r.begun ≡ first_line begun

-- What comes after the words taken counts as if it came after these clauses, none of which has a fault, and the words of one that has begun.
pub record Follows (announced : Option ℕ) (n : ℕ) (taken : List (Placed clauses.Word)) (earlier : List (List clauses.Word)) (begun : List (Placed clauses.Word)) : Type 0 where
  pub faults : (more : List (Placed clauses.Word)) → first_fault (clause_faults announced n) [] (clauses_in (taken ++ more)) ≡ first_fault (clause_faults announced n) earlier (clauses_in (begun ++ more))
  pub clauses : (more : List (Placed clauses.Word)) → items (clauses_in (taken ++ more)) ≡ earlier ++ items (clauses_in (begun ++ more))

-- A reader has taken these words.
pub record HasTaken (announced : Option ℕ) (n : ℕ) (r : ClauseReader) (taken : List (Placed clauses.Word)) : Type 0 where
  pub earlier : List (List Literal)
  pub begun : List (Placed clauses.Word)
  pub holds : Holds announced n r earlier begun
  pub unended : list_any ends begun ≡ false
  pub follows : Follows announced n taken (map whole_words earlier) begun

-- memory ran out, or each text whose words begin with these has this fault
abbrev pub Fails : Option ℕ → ℕ → List (Placed clauses.Word) → ReadFault → Type 0
Fails announced n taken f = IsMemory f ⊎ ((more : List (Placed clauses.Word)) → first_fault (clause_faults announced n) [] (clauses_in (taken ++ more)) ≡ Some f)

-- The words that a reader has taken are clauses without a fault.
pub record IsWhole (announced : Option ℕ) (n : ℕ) (r : ClauseReader) (taken : List (Placed clauses.Word)) : Type 0 where
  pub read : List (List Literal)
  pub holds : Holds announced n r read []
  pub spelled : items (clauses_in taken) ≡ map whole_words read
  pub clear : first_fault (clause_faults announced n) [] (clauses_in taken) ≡ None

-- the numbers of a header as the code has them
abbrev pub capped_header : cnf.Header → Header
capped_header h = record { vars = cap_count h.vars; clauses = cap_count h.clauses }
