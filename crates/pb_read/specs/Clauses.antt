-- Words of clauses and cubes.
use Rattle.std.specs.Prelude.{ℕ, ◌+◌, ◌||◌, Option, Some, Bool, true, false, not, ◌&&◌, ◌==◌, nat_lt, if◌then◌else◌, List, [], ◌∷◌, ◌++◌, map, flat_map, None, sum_by, count_by, fold, max, length, ◌≤◌}
use Rattle.std.specs.List.{AllByRecursion, list_any}
use Rattle.pb_inst.specs.Constraints.{clause_constraint}
use Rattle.pb_inst.specs.declared.limits.TheConstants.{MAX_CONSTRAINTS, MAX_TERMS}
use Rattle.pb_read.specs.Runs.{pieces}
use Rattle.pb_read.specs.Refusal.{Faults}
use Rattle.pb_read.specs.declared.fault.ReadKind.TheVariants.{Unfinished, Syntax, BadVariable, TooMany, TooManyClauses}
use Rattle.pb_read.specs.Text.{Placed, items, words, are_digits, value}
use Rattle.pb_inst.specs.Literal.{Literal}
use Rattle.pb_inst.specs.Problem.{Problem}

pub data Word : Type 0 where
  Lit : Literal → Word
  Zero : Word
  Bad : Word

-- digits are a literal, or the end word where their value is 0; after `-` (45) they are a negative literal
abbrev pub word_of : List ℕ → Word
word_of [] = Bad
word_of (b ∷ rest) =
    if are_digits (b ∷ rest) then (if value (b ∷ rest) == 0 then Zero else Lit (record { positive = true; var = value (b ∷ rest) }))
    else (if b == 45 && are_digits rest && not (value rest == 0) then Lit (record { positive = false; var = value rest })
    else Bad)

abbrev pub is_zero : Word → Bool
is_zero Zero = true
is_zero _ = false

abbrev pub is_literal : Word → Bool
is_literal (Lit l) = true
is_literal _ = false

abbrev pub is_over : ℕ → Word → Bool
is_over n (Lit l) = nat_lt n l.var
is_over n _ = false

-- literals and then the end word
abbrev pub is_whole : List Word → Bool
is_whole (Zero ∷ []) = true
is_whole (Lit l ∷ ws) = is_whole ws
is_whole _ = false

-- a clause or a cube as it is written
abbrev pub whole_words : List Literal → List Word
whole_words ls = map Lit ls ++ Zero ∷ []

-- the words of a line, each with the line
abbrev pub on_line : Placed (List ℕ) → List (Placed Word)
on_line l = map (λ w. record { item = word_of w; line = l.line }) (words l.item)

abbrev pub line_of : List (Placed Word) → ℕ
line_of [] = 0
line_of (w ∷ ws) = w.line

abbrev pub statement_of : List (Placed Word) → Placed (List Word)
statement_of ws = record { item = items ws; line = line_of ws }

-- the words of the lines, each with its line
abbrev pub placed_words : List (Placed (List ℕ)) → List (Placed Word)
placed_words ls = flat_map on_line ls

-- a clause's words go up to and with the next end word, and its line is that of its first word
abbrev pub clauses_in : List (Placed Word) → List (Placed (List Word))
clauses_in ws = map statement_of (pieces (λ (w : Placed Word). is_zero w.item) ws)

abbrev pub clauses_on : List (Placed (List ℕ)) → List (Placed (List Word))
clauses_on ls = clauses_in (placed_words ls)

-- how many literals are among the words of the statements
abbrev pub literals_in : {X : Type 0} → (X → List Word) → List X → ℕ
literals_in words_of ss = sum_by (λ s. count_by is_literal (words_of s)) ss

-- The faults of the words of a clause or a cube, in order; the last is whether it is one too many.
abbrev pub word_faults : ℕ → List Word → Bool → Faults
word_faults n ws too_many =
    (Unfinished, not (list_any is_zero ws))
    ∷ (Syntax, not (is_whole ws))
    ∷ (BadVariable, list_any (is_over n) ws)
    ∷ (TooMany, too_many)
    ∷ []

-- whether there are already as many clauses as were announced
abbrev pub all_there : Option ℕ → ℕ → Bool
all_there None count = false
all_there (Some announced) count = not (nat_lt count announced)

-- The faults of a clause over n variables, in order. The number of clauses may be announced.
abbrev pub clause_faults : Option ℕ → ℕ → List (List Word) → List Word → Faults
clause_faults announced n earlier c =
    (TooManyClauses, all_there announced (length earlier))
    ∷ word_faults n c (nat_lt MAX_CONSTRAINTS (length earlier + 1) || nat_lt MAX_TERMS (literals_in (λ ws. ws) (earlier ++ c ∷ [])))

abbrev pub clause_instance : ℕ → List (List Literal) → Problem
clause_instance n cs = record { vars = n; objective = None; constraints = map clause_constraint cs }

abbrev pub greatest_var : List (List Literal) → ℕ
greatest_var cs = fold (λ (n : ℕ) (l : Literal). max n l.var) 0 (flat_map (λ c. c) cs)

-- each index is at most n; that it is not 0 is in the spelling
abbrev pub VarsUpTo : ℕ → List (List Literal) → Type 0
VarsUpTo n cs = AllByRecursion (λ (l : Literal). l.var ≤ n) (flat_map (λ c. c) cs)

abbrev pub literal_count : List (List Literal) → ℕ
literal_count cs = sum_by length cs
