-- iCNF: clauses, and then cube lines.
-- Source: [ICNF]
use Rattle.std.specs.Prelude.{ℕ, ◌≡◌, ◌≤◌, Bool, true, false, not, ◌&&◌, max, if◌then◌else◌, List, [], ◌∷◌, flat_map, length, codes, Option, Some, None, take_while}
use Rattle.pb_read.specs.declared.fault.ReadKind.TheVariants.{BadHeader, ClauseAfterCube}
use Rattle.pb_read.specs.declared.fault.ReadFault.{ReadFault}
use Rattle.pb_read.specs.Runs.{skip_while}
use Rattle.pb_read.specs.Text.{Placed, items, clause_lines, content, last_line, words, is_text}
use Rattle.pb_inst.specs.Literal.{Literal}
use Rattle.pb_inst.specs.Problem.{Problem}
use Rattle.pb_inst.specs.declared.limits.TheConstants.{MAX_VARS, MAX_CONSTRAINTS, MAX_TERMS}
use Rattle.pb_read.specs.Refusal.{first_fault, at_line, ◌or_else◌}
use Rattle.pb_read.specs.Clauses.{clause_faults, whole_words, placed_words, clauses_on, clause_instance, VarsUpTo, literal_count, greatest_var}
use Rattle.pb_read.specs.Cubes.{is_cube_line, cube_faults, CubeLines}

-- two words: `p` and `inccnf`
abbrev pub is_header : List (List ℕ) → Bool
is_header (p ∷ inccnf ∷ []) = is_text (codes "p") p && is_text (codes "inccnf") inccnf
is_header _ = false

-- the lines before the first cube line, and from it on
abbrev pub clause_part : List (Placed (List ℕ)) → List (Placed (List ℕ))
clause_part body = take_while (λ (l : Placed (List ℕ)). not (is_cube_line l.item)) body

abbrev pub cube_part : List (Placed (List ℕ)) → List (Placed (List ℕ))
cube_part body = skip_while (λ (l : Placed (List ℕ)). not (is_cube_line l.item)) body

-- The cubes only count for the number of variables.
pub record IcnfText (text : List ℕ) (i : Problem) (cubes : List (List Literal)) : Type 0 where
  pub head : Placed (List ℕ)
  pub body : List (Placed (List ℕ))
  pub lines : content text ≡ head ∷ body
  pub header_line : is_header (words head.item) ≡ true
  pub clauses : List (List Literal)
  pub spelled : items (placed_words (clause_part body)) ≡ flat_map whole_words clauses
  pub cube_lines : CubeLines (items (cube_part body)) MAX_VARS cubes
  pub instance : i ≡ clause_instance (max (greatest_var clauses) (greatest_var cubes)) clauses
  pub few_clauses : length clauses ≤ MAX_CONSTRAINTS
  pub few_literals : literal_count clauses ≤ MAX_TERMS
  pub indices : VarsUpTo MAX_VARS clauses

abbrev pub refusal_of_content : ℕ → List (Placed (List ℕ)) → Option ReadFault
refusal_of_content last [] = at_line last (Some BadHeader)
refusal_of_content last (head ∷ body) =
    (if is_header (words head.item) then None else at_line head.line (Some BadHeader))
    or_else (first_fault (clause_faults None MAX_VARS) [] (clauses_on (clause_part body)) or_else first_fault (cube_faults ClauseAfterCube MAX_VARS) [] (cube_part body))

abbrev pub icnf_refusal : List ℕ → Option ReadFault
icnf_refusal text = refusal_of_content (last_line (clause_lines text)) (content text)
