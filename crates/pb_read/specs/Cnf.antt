-- DIMACS CNF.
-- Source: [DIMACS]
use Rattle.std.specs.Prelude.{ℕ, ◌≡◌, ◌≤◌, ◌&&◌, ◌||◌, nat_lt, if◌then◌else◌, List, [], ◌∷◌, flat_map, length, codes, Option, Some, None}
use Rattle.pb_read.specs.declared.fault.ReadKind.TheVariants.{TooMany, BadHeader, TooFewClauses}
use Rattle.pb_read.specs.declared.fault.ReadFault.{ReadFault}
use Rattle.pb_read.specs.Text.{Placed, items, clause_lines, content, last_line, words, is_text, are_digits, value}
use Rattle.pb_inst.specs.Literal.{Literal}
use Rattle.pb_inst.specs.Problem.{Problem}
use Rattle.pb_inst.specs.declared.limits.TheConstants.{MAX_VARS, MAX_CONSTRAINTS, MAX_TERMS}
use Rattle.pb_read.specs.Refusal.{first_fault, at_line, ◌or_else◌}
use Rattle.pb_read.specs.Clauses.{Word, clause_faults, whole_words, placed_words, clauses_on, clause_instance, VarsUpTo, literal_count}

-- the numbers of variables and of clauses
pub record Header : Type 0 where
  pub vars : ℕ
  pub clauses : ℕ

-- four words: `p`, `cnf` and two numbers
abbrev pub header_words : List (List ℕ) → Option Header
header_words (p ∷ cnf ∷ n ∷ m ∷ []) =
    if is_text (codes "p") p && is_text (codes "cnf") cnf && are_digits n && are_digits m then Some (record { vars = value n; clauses = value m }) else None
header_words _ = None

-- The header is the first line that is neither blank nor a comment, and the clauses are on the lines after it.
pub record CnfText (text : List ℕ) (i : Problem) : Type 0 where
  pub head : Placed (List ℕ)
  pub body : List (Placed (List ℕ))
  pub lines : content text ≡ head ∷ body
  pub header : Header
  pub header_line : header_words (words head.item) ≡ Some header
  pub clauses : List (List Literal)
  pub spelled : items (placed_words body) ≡ flat_map whole_words clauses
  pub instance : i ≡ clause_instance header.vars clauses
  pub count : length clauses ≡ header.clauses
  pub vars : header.vars ≤ MAX_VARS
  pub few_clauses : header.clauses ≤ MAX_CONSTRAINTS
  pub few_literals : literal_count clauses ≤ MAX_TERMS
  pub indices : VarsUpTo header.vars clauses

abbrev pub body_refusal : ℕ → Header → List (Placed (List Word)) → Option ReadFault
body_refusal last h cs = first_fault (clause_faults (Some h.clauses) h.vars) [] cs or_else (if nat_lt (length cs) h.clauses then at_line last (Some TooFewClauses) else None)

-- last is the number of the last line
abbrev pub refusal_after_header : ℕ → Placed (List ℕ) → List (Placed (List ℕ)) → Option Header → Option ReadFault
refusal_after_header last head body None = at_line head.line (Some BadHeader)
refusal_after_header last head body (Some h) =
    (if nat_lt MAX_VARS h.vars || nat_lt MAX_CONSTRAINTS h.clauses then at_line head.line (Some TooMany) else None) or_else body_refusal last h (clauses_on body)

abbrev pub refusal_of_content : ℕ → List (Placed (List ℕ)) → Option ReadFault
refusal_of_content last [] = at_line last (Some BadHeader)
refusal_of_content last (head ∷ body) = refusal_after_header last head body (header_words (words head.item))

abbrev pub cnf_refusal : List ℕ → Option ReadFault
cnf_refusal text = refusal_of_content (last_line (clause_lines text)) (content text)
