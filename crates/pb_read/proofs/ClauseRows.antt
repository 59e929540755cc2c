-- What the definitions say of worked texts of clauses and cubes.
use Rattle.std.proofs.Common.{◌≡◌, ℕ, refl, List, [], ◌∷◌, ◌++◌, Option, Some, None, codes, map, true, false}
use Rattle.pb_read.specs.declared.fault.ReadKind.TheVariants.{Unfinished, Syntax, BadVariable, BadHeader, TooFewClauses, TooManyClauses, ClauseAfterCube}
use Rattle.pb_read.specs.declared.fault.ReadKind.{ReadKind}
use Rattle.pb_read.specs.declared.fault.ReadFault.{ReadFault}
use Rattle.pb_read.specs.Text.{Placed, content}
use Rattle.pb_inst.specs.Literal.{Literal}
use Rattle.pb_read.specs.Clauses.{Word, placed_words, whole_words}
use Rattle.pb_read.specs.Cnf.{cnf_refusal}
use Rattle.pb_read.specs.Cubes.{cube_refusal, cube_words}
use Rattle.pb_read.specs.Icnf.{icnf_refusal}

abbrev at : ReadKind → ℕ → Option ReadFault
at kind n = Some (record { kind = kind; line = n })

abbrev lf : List ℕ
lf = 10 ∷ []

abbrev p : ℕ → Literal
p v = record { positive = true; var = v }

abbrev n : ℕ → Literal
n v = record { positive = false; var = v }

two_clauses : cnf_refusal (codes "p cnf 2 2" ++ lf ++ codes "1 2 0" ++ lf ++ codes "-1 2 0" ++ lf) ≡ None
two_clauses = refl

empty_clause : cnf_refusal (codes "p cnf 1 1" ++ lf ++ codes "0" ++ lf) ≡ None
empty_clause = refl

too_few : cnf_refusal (codes "p cnf 1 2" ++ lf ++ codes "1 0" ++ lf) ≡ at TooFewClauses 2
too_few = refl

percent : cnf_refusal (codes "p cnf 1 1" ++ lf ++ codes "1 0" ++ lf ++ codes "%" ++ lf ++ codes "0" ++ lf) ≡ None
percent = refl

too_many : cnf_refusal (codes "p cnf 1 1" ++ lf ++ codes "1 0" ++ lf ++ codes "1 0" ++ lf) ≡ at TooManyClauses 3
too_many = refl

empty_text : cnf_refusal [] ≡ at BadHeader 1
empty_text = refl

minus_zero_open : cnf_refusal (codes "p cnf 2 1" ++ lf ++ codes "-0" ++ lf) ≡ at Unfinished 2
minus_zero_open = refl

minus_zero : cnf_refusal (codes "p cnf 2 1" ++ lf ++ codes "-0 0" ++ lf) ≡ at Syntax 2
minus_zero = refl

over_two_lines : (cnf_refusal (codes "c note" ++ lf ++ codes "p cnf 2 1" ++ lf ++ codes "1" ++ lf ++ codes "c note" ++ lf ++ codes "-2 0") ≡ None)
    × (map (λ (w : Placed Word). w.line) (placed_words (content (codes "c note" ++ lf ++ codes "p cnf 2 1" ++ lf ++ codes "1" ++ lf ++ codes "c note" ++ lf ++ codes "-2 0"))) ≡ 2 ∷ 2 ∷ 2 ∷ 2 ∷ 3 ∷ 5 ∷ 5 ∷ [])
over_two_lines = (refl, refl)

variable_over : cnf_refusal (codes "p cnf 1 1" ++ lf ++ codes "2 0") ≡ at BadVariable 2
variable_over = refl

open_clause : cnf_refusal (codes "p cnf 1 1" ++ lf ++ codes "1") ≡ at Unfinished 2
open_clause = refl

other_header : cnf_refusal (codes "p dnf 1 1") ≡ at BadHeader 1
other_header = refl

no_clauses : cnf_refusal (codes "p cnf 0 0") ≡ None
no_clauses = refl

clause_and_cube : icnf_refusal (codes "p inccnf" ++ lf ++ codes "1 2 0" ++ lf ++ codes "a 1 0" ++ lf) ≡ None
clause_and_cube = refl

three_cubes : icnf_refusal (codes "p inccnf" ++ lf ++ codes "1 2 0" ++ lf ++ codes "a 1 -1 0" ++ lf ++ codes "a 0" ++ lf ++ codes "a 0" ++ lf) ≡ None
three_cubes = refl

clause_after_cube : icnf_refusal (codes "p inccnf" ++ lf ++ codes "1 0" ++ lf ++ codes "a 1 0" ++ lf ++ codes "2 0" ++ lf) ≡ at ClauseAfterCube 4
clause_after_cube = refl

open_before_cube : icnf_refusal (codes "p inccnf" ++ lf ++ codes "1 2" ++ lf ++ codes "a 1 0" ++ lf) ≡ at Unfinished 2
open_before_cube = refl

clause_over_lines : icnf_refusal (codes "p inccnf" ++ lf ++ codes "1 2" ++ lf ++ codes "3 0" ++ lf ++ codes "a 0" ++ lf) ≡ None
clause_over_lines = refl

cube_alone : icnf_refusal (codes "p inccnf" ++ lf ++ codes "a 5 0") ≡ None
cube_alone = refl

cube_over_lines : icnf_refusal (codes "p inccnf" ++ lf ++ codes "a 1" ++ lf ++ codes "0") ≡ at Unfinished 2
cube_over_lines = refl

two_ends : icnf_refusal (codes "p inccnf" ++ lf ++ codes "a 1 0 2 0") ≡ at Syntax 2
two_ends = refl

clause_in_cubes : cube_refusal (codes "a 1 -2 0" ++ lf ++ codes "1 0") 3 ≡ at Syntax 2
clause_in_cubes = refl

seventeen : (cube_refusal (codes "a 1 2 3 4 5 6 7 8 9 10 11 12 13 14 15 16 17 0") 17 ≡ None)
    × (cube_words (codes "a 1 2 3 4 5 6 7 8 9 10 11 12 13 14 15 16 17 0") ≡ whole_words (map p (1 ∷ 2 ∷ 3 ∷ 4 ∷ 5 ∷ 6 ∷ 7 ∷ 8 ∷ 9 ∷ 10 ∷ 11 ∷ 12 ∷ 13 ∷ 14 ∷ 15 ∷ 16 ∷ 17 ∷ [])))
seventeen = (refl, refl)

cube_over : cube_refusal (codes "a -2 0" ++ lf ++ codes "a 3 0") 2 ≡ at BadVariable 2
cube_over = refl

cubes_end : cube_refusal (codes "a 1 0" ++ lf ++ codes "%" ++ lf ++ codes "a x") 1 ≡ None
cubes_end = refl

cube_of_three : icnf_refusal (codes "p inccnf" ++ lf ++ codes "1 0" ++ lf ++ codes "a -3 0" ++ lf) ≡ None
cube_of_three = refl

repeated_literals : cnf_refusal (codes "p cnf 3 1" ++ lf ++ codes "1 -1 2 2 0" ++ lf) ≡ None
repeated_literals = refl
