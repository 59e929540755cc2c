-- Clauses line by line.
use Rattle.std.proofs.Common.{◌≡◌, ℕ, refl, sym, ap, subst, ◌∙◌, List, [], ◌∷◌, ◌++◌, Bool, false, not, append_assoc, Option}
use Rattle.std.proofs.lemmas.List.{append-nil}
use Rattle.std.proofs.lemmas.Grind.{flat_map-append}
use Rattle.std.proofs.lemmas.Bool.{not_from_false}
use Rattle.pb_read.specs.declared.fault.ReadFault.{ReadFault}
use Rattle.pb_read.specs.Text.{Placed}
use Rattle.pb_read.specs.Clauses.{Word, on_line, placed_words}
use Rattle.pb_read.specs.Cubes.{is_cube_line}
use Rattle.pb_read.specs.Icnf.{clause_part, cube_part}
use Rattle.pb_read.specs.ClauseReading.{Fails}
use Rattle.pb_read.proofs.ContentLines.{at, first_kept, line_taken}
use Rattle.pb_read.proofs.Following.{fails_more}

-- one more line was taken
pub one_more_line : (P : List (Placed Word) → Type 0) (taken : List (Placed Word)) (seen all left rest : List (Placed (List ℕ))) (line : List ℕ) (number : ℕ)
    → left ≡ at line number ∷ rest → seen ++ left ≡ all → P ((taken ++ placed_words seen) ++ on_line (at line number))
    → (x : List (Placed (List ℕ))) × (x ++ rest ≡ all) × P (taken ++ placed_words x)
one_more_line P taken seen all left rest line number first whole h =
    let l : Placed (List ℕ) = at line number in
    let words : placed_words (seen ++ at line number ∷ []) ≡ placed_words seen ++ on_line (at line number) =
    flat_map-append on_line seen (l ∷ []) ∙ ap (λ (ws : List (Placed Word)). placed_words seen ++ ws) (append-nil (on_line l)) in
    let e : (taken ++ placed_words seen) ++ on_line (at line number) ≡ taken ++ placed_words (seen ++ at line number ∷ []) =
    append_assoc taken (placed_words seen) (on_line l) ∙ ap (λ (ws : List (Placed Word)). taken ++ ws) (sym words) in
    (seen ++ l ∷ [], line_taken seen all left rest line number whole first, subst P e h)

-- a fault on one of the lines is the fault of them all
pub lines_fail : (announced : Option ℕ) (n : ℕ) (taken : List (Placed Word)) (seen all left rest : List (Placed (List ℕ))) (line : List ℕ) (number : ℕ) (f : ReadFault)
    → left ≡ at line number ∷ rest → seen ++ left ≡ all → Fails announced n ((taken ++ placed_words seen) ++ on_line (at line number)) f → Fails announced n (taken ++ placed_words all) f
lines_fail announced n taken seen all left rest line number f first whole h =
    let more = one_more_line (λ ws. Fails announced n ws f) taken seen all left rest line number first whole h in
    let e : (taken ++ placed_words more.0) ++ placed_words rest ≡ taken ++ placed_words all =
    append_assoc taken (placed_words more.0) (placed_words rest) ∙ ap (λ (ws : List (Placed Word)). taken ++ ws) (sym (flat_map-append on_line more.0 rest) ∙ ap placed_words more.1) in
    subst (λ (ws : List (Placed Word)). Fails announced n ws f) e (fails_more announced n (taken ++ placed_words more.0) (placed_words rest) f more.2)

abbrev no_cube : Placed (List ℕ) → Bool
no_cube l = not (is_cube_line l.item)

-- a line of clauses
pub clause_first : (left rest : List (Placed (List ℕ))) (line : List ℕ) (number : ℕ) → left ≡ at line number ∷ rest → is_cube_line line ≡ false → clause_part left ≡ at line number ∷ clause_part rest
clause_first left rest line number first none = ap clause_part first ∙ first_kept no_cube (at line number) rest (not_from_false (is_cube_line line) none)

pub cubes_later : (left rest : List (Placed (List ℕ))) (line : List ℕ) (number : ℕ) → left ≡ at line number ∷ rest → is_cube_line line ≡ false → cube_part left ≡ cube_part rest
cubes_later left rest line number first none = ap cube_part first ∙ rw none refl
