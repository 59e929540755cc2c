-- The linear format of the Pseudo-Boolean Competition.
-- Source: [OPB]
use Rattle.std.specs.Prelude.{ℕ, ℤ, pos, neg_ℤ, unsigned_abs, ◌≡◌, Bool, true, false, not, ◌&&◌, ◌||◌, ◌==◌, nat_lt, if◌then◌else◌, List, [], ◌∷◌, ◌++◌, map, filter, flat_map, length, codes, max, sum_by, count_by, Option, Some, None, unwrap_or, option_map, take_while, drop}
use Rattle.std.specs.List.{list_any, starts_with}
use Rattle.std.specs.Prelude.{nat_eq}
use Rattle.pb_inst.specs.declared.constraints.Relation.{Relation}
use Rattle.pb_inst.specs.declared.constraints.Relation.TheVariants.{AtLeast, AtMost, Equal}
use Rattle.pb_read.specs.declared.fault.ReadKind.TheVariants.{Unfinished, LateObjective, Syntax, NonLinear, BadVariable, TooLarge, TooMany}
use Rattle.pb_read.specs.declared.fault.ReadFault.{ReadFault}
use Rattle.pb_read.specs.Runs.{first_is, runs, pieces, skip_while, any_neighbours}
use Rattle.pb_read.specs.Text.{Placed, is_blank, is_margin, lines, numbered_lines, is_marked, is_text, is_digit, are_digits, value}
use Rattle.pb_inst.specs.Literal.{Literal}
use Rattle.pb_inst.specs.declared.constraints.Term.{Term}
use Rattle.pb_inst.specs.Problem.{LinearConstraint, Problem}
use Rattle.pb_read.specs.Terms.{all_terms, greatest_index}
use Rattle.pb_inst.specs.Limits.{IsProper}
use Rattle.pb_inst.specs.declared.limits.TheConstants.{MAX_VARS, MAX_CONSTRAINTS, MAX_TERMS, SUM_BOUND}
use Rattle.pb_read.specs.Refusal.{Faults, first_fault, at_line, ◌or_else◌}

pub data Token : Type 0 where
  End : Token
  Min : Token
  Related : Relation → Token
  Number : ℤ → Token
  Lit : Literal → Token
  Bad : Token

-- ---- tokens

-- ; > < =
abbrev pub is_sign : ℕ → Bool
is_sign b = b == 59 || b == 62 || b == 60 || b == 61

abbrev pub is_word_byte : ℕ → Bool
is_word_byte b = not (is_blank b || is_sign b)

-- Two neighbouring bytes are of one token where both are of a word, which ends after a `:` (58), or where they are `>=` or `<=`.
abbrev pub same_token : ℕ → ℕ → Bool
same_token a b = (is_word_byte a && is_word_byte b && not (a == 58)) || ((a == 62 || a == 60) && b == 61)

-- digits behind a sign or none
abbrev pub number_of : Bool → List ℕ → Token
number_of negative ds = if are_digits ds then Number (if negative then neg_ℤ (pos (value ds)) else pos (value ds)) else Bad

-- the digits of a variable
abbrev pub literal_of : Bool → List ℕ → Token
literal_of positive ds = if are_digits ds then Lit (record { positive = positive; var = value ds }) else Bad

-- a number after `+` (43), after `-` (45) or with no sign, or a literal after `x` (120) or `~x` (126, 120)
abbrev pub word_token : List ℕ → Token
word_token [] = Bad
word_token (b ∷ rest) =
    if b == 43 then number_of false rest
    else (if b == 45 then number_of true rest
    else (if b == 120 then literal_of true rest
    else (if b == 126 && first_is (λ c. c == 120) rest then literal_of false (drop 1 rest)
    else number_of false (b ∷ rest))))

unfoldable pub token_of : List ℕ → Token
token_of bytes =
    if is_text (codes ";") bytes then End
    else (if is_text (codes ">=") bytes then Related AtLeast
    else (if is_text (codes "<=") bytes then Related AtMost
    else (if is_text (codes "=") bytes then Related Equal
    else (if is_text (codes "min:") bytes then Min
    else word_token bytes))))

abbrev pub line_tokens : List ℕ → List Token
line_tokens line = map token_of (filter (λ r. not (first_is is_blank r)) (runs same_token line))

-- a comment line begins with `*` (42)
abbrev pub is_comment : List ℕ → Bool
is_comment line = is_marked 42 line

abbrev pub placed : ℕ → List Token → List (Placed Token)
placed line ts = map (λ t. record { item = t; line = line }) ts

-- a comment line has no tokens
abbrev pub on_line : Placed (List ℕ) → List (Placed Token)
on_line l = if is_comment l.item then [] else placed l.line (line_tokens l.item)

-- the tokens of the text without its comment lines, each with its line
unfoldable pub tokens : List ℕ → List (Placed Token)
tokens text = flat_map on_line (numbered_lines text)

-- ---- the header

abbrev pub is_gap : ℕ → Bool
is_gap b = b == 32 || b == 9

-- what stands after the prefix
abbrev pub after : List ℕ → List ℕ → Option (List ℕ)
after prefix bytes = if starts_with nat_eq bytes prefix then Some (drop (length prefix) bytes) else None

-- one or more digits, and then a blank or the end
abbrev pub leading_number : List ℕ → Option ℕ
leading_number bytes = let rest = skip_while is_digit bytes in
    if first_is is_digit bytes && (first_is is_blank rest || length rest == 0) then Some (value (take_while is_digit bytes)) else None

abbrev pub when : {X Y : Type 0} → Option X → (X → Option Y) → Option Y
when None f = None
when (Some x) f = f x

-- the number of `* #variable= N ..`, where the line is such a header
abbrev pub header_of : List ℕ → Option ℕ
header_of line =
    when (after (codes "*") (skip_while is_margin line)) (λ comment.
    when (after (codes "#variable=") (skip_while is_gap comment)) (λ number.
    leading_number (skip_while is_gap number)))

abbrev pub first_line : List (List ℕ) → List ℕ
first_line [] = []
first_line (line ∷ rest) = line

-- the number of the header, and 0 where the first line is none
abbrev pub header : List ℕ → ℕ
header text = unwrap_or (header_of (first_line (lines text))) 0

-- ---- the texts of an instance

abbrev pub term_tokens : Term → List Token
term_tokens t = Number t.coef ∷ Lit t.lit ∷ []

-- `min:` terms `;`
abbrev pub objective_tokens : List Term → List Token
objective_tokens ts = Min ∷ flat_map term_tokens ts ++ End ∷ []

-- terms, relation, number and `;`
abbrev pub constraint_tokens : LinearConstraint → List Token
constraint_tokens c = flat_map term_tokens c.terms ++ Related c.relation ∷ Number c.bound ∷ End ∷ []

abbrev pub instance_tokens : Problem → List Token
instance_tokens i = unwrap_or (option_map objective_tokens i.objective) [] ++ flat_map constraint_tokens i.constraints

-- The text is the objective, where there is one, and the constraints, in order, term for term.
pub record OpbText (text : List ℕ) (i : Problem) : Type 0 where
  pub spelled : map (λ (t : Placed Token). t.item) (tokens text) ≡ instance_tokens i
  pub vars : i.vars ≡ max (header text) (greatest_index (all_terms i))
  pub limits : IsProper i

-- ---- the refusal of every other text

abbrev pub is_end : Token → Bool
is_end End = true
is_end _ = false

abbrev pub is_min : Token → Bool
is_min Min = true
is_min _ = false

abbrev pub is_relation : Token → Bool
is_relation (Related r) = true
is_relation _ = false

abbrev pub is_literal : Token → Bool
is_literal (Lit l) = true
is_literal _ = false

-- an index of 0 or over the limit
abbrev pub has_bad_index : Token → Bool
has_bad_index (Lit l) = l.var == 0 || nat_lt MAX_VARS l.var
has_bad_index _ = false

-- the absolute value of a number
abbrev pub size : Token → ℕ
size (Number n) = unsigned_abs n
size _ = 0

-- a statement's tokens go up to and with the next `;`, and its line is that of its first token
abbrev pub line_of : List (Placed Token) → ℕ
line_of [] = 0
line_of (t ∷ ts) = t.line

abbrev pub statement_of : List (Placed Token) → Placed (List Token)
statement_of ts = record { item = map (λ (t : Placed Token). t.item) ts; line = line_of ts }

abbrev pub statements_in : List (Placed Token) → List (Placed (List Token))
statements_in ts = map statement_of (pieces (λ (t : Placed Token). is_end t.item) ts)

abbrev pub statements : List ℕ → List (Placed (List Token))
statements text = statements_in (tokens text)

abbrev pub both_literals : Token → Token → Bool
both_literals a b = is_literal a && is_literal b

-- the statement with one literal for each number: of neighbouring literals the last is kept
abbrev pub without_products : List Token → List Token
without_products [] = []
without_products (t ∷ ts) = if first_is (both_literals t) ts then without_products ts else t ∷ without_products ts

abbrev pub are_terms_and_end : List Token → Bool
are_terms_and_end (End ∷ []) = true
are_terms_and_end (Number n ∷ Lit l ∷ ts) = are_terms_and_end ts
are_terms_and_end _ = false

abbrev pub is_objective : List Token → Bool
is_objective (Min ∷ ts) = are_terms_and_end ts
is_objective _ = false

abbrev pub is_constraint : List Token → Bool
is_constraint (Related r ∷ Number n ∷ End ∷ []) = true
is_constraint (Number n ∷ Lit l ∷ ts) = is_constraint ts
is_constraint _ = false

-- an objective or a constraint, where a term may have several literals
abbrev pub has_shape : List Token → Bool
has_shape s = let t = without_products s in is_objective t || is_constraint t

-- The faults of a statement, in order. The terms are counted by their literals, and the constraints by their relations.
unfoldable pub statement_faults : List (List Token) → List Token → Faults
statement_faults earlier s =
    (Unfinished, not (list_any is_end s))
    ∷ (LateObjective, first_is is_min s && not (length earlier == 0))
    ∷ (Syntax, not (has_shape s))
    ∷ (NonLinear, any_neighbours both_literals s)
    ∷ (BadVariable, list_any has_bad_index s)
    ∷ (TooLarge, nat_lt SUM_BOUND (sum_by size s))
    ∷ (TooMany, nat_lt MAX_CONSTRAINTS (sum_by (count_by is_relation) (earlier ++ s ∷ [])) || nat_lt MAX_TERMS (sum_by (count_by is_literal) (earlier ++ s ∷ [])))
    ∷ []

-- a header number over the limit, else the first faulty statement
unfoldable pub opb_refusal : List ℕ → Option ReadFault
opb_refusal text = (if nat_lt MAX_VARS (header text) then at_line 1 (Some TooMany) else None) or_else first_fault statement_faults [] (statements text)
