-- Lines, blanks, words and numbers of a text.
use Rattle.std.specs.Prelude.{ℕ, ◌+◌, ◌-◌, Bool, not, ◌&&◌, ◌||◌, ◌==◌, nat_le, nat_eq, List, [], ◌∷◌, map, filter, max, length, take_while}
use Rattle.std.specs.List.{list_all}
use Rattle.std.specs.Int.Digits.{number_from_digits}
use lib.Pointwise.{pointwise}
use Rattle.pb_read.specs.Runs.{first_is, runs, pieces, skip_while}

-- something, and the line that it begins on
pub record Placed (X : Type 0) : Type 0 where
  pub item : X
  pub line : ℕ

-- the things without their lines
abbrev pub items : {X : Type 0} → List (Placed X) → List X
items xs = map (λ x. x.item) xs

-- space, tab, CR and LF
abbrev pub is_blank : ℕ → Bool
is_blank b = b == 32 || b == 9 || b == 13 || b == 10

-- a line ends with LF (10) or with the end of the text
abbrev pub lines : List ℕ → List (List ℕ)
lines text = pieces (λ b. b == 10) text

-- each line with its number
abbrev pub numbered : ℕ → List (List ℕ) → List (Placed (List ℕ))
numbered n [] = []
numbered n (line ∷ rest) = record { item = line; line = n } ∷ numbered (n + 1) rest

abbrev pub numbered_lines : List ℕ → List (Placed (List ℕ))
numbered_lines text = numbered 1 (lines text)

-- the number of the last line, and 1 for the empty text
abbrev pub last_line : List (Placed (List ℕ)) → ℕ
last_line ls = max 1 (length ls)

-- space, tab and CR
abbrev pub is_margin : ℕ → Bool
is_margin b = b == 32 || b == 9 || b == 13

-- the first byte of the line that is no space, tab or CR is the mark
abbrev pub is_marked : ℕ → List ℕ → Bool
is_marked mark line = first_is (λ b. b == mark) (skip_while is_margin line)

-- two neighbouring bytes of one word
abbrev pub same_word : ℕ → ℕ → Bool
same_word a b = not (is_blank a) && not (is_blank b)

-- the words of a line, which are the longest runs of bytes that are no blanks
abbrev pub words : List ℕ → List (List ℕ)
words line = filter (λ w. not (first_is is_blank w)) (runs same_word line)

-- the bytes are the text
abbrev pub is_text : List ℕ → List ℕ → Bool
is_text text bytes = pointwise nat_eq bytes text

abbrev pub is_digit : ℕ → Bool
is_digit b = nat_le 48 b && nat_le b 57

-- one or more digits
abbrev pub are_digits : List ℕ → Bool
are_digits bytes = first_is is_digit bytes && list_all is_digit bytes

-- the number that digits write, at any length
abbrev pub value : List ℕ → ℕ
value ds = number_from_digits 10 (map (λ d. d - 48) ds)

-- the lines before the first that begins with `%` (37), which ends a text of clauses or cubes
abbrev pub clause_lines : List ℕ → List (Placed (List ℕ))
clause_lines text = take_while (λ (l : Placed (List ℕ)). not (is_marked 37 l.item)) (numbered_lines text)

-- those of the lines that are neither blank nor a comment, which begins with `c` (99)
abbrev pub content_of : List (Placed (List ℕ)) → List (Placed (List ℕ))
content_of ls = filter (λ (l : Placed (List ℕ)). not (is_marked 99 l.item || list_all is_blank l.item)) ls

abbrev pub content : List ℕ → List (Placed (List ℕ))
content text = content_of (clause_lines text)
