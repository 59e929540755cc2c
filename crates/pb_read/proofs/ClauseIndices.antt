-- The variables of clauses are numbered from 1, since no word spells a literal of the number 0.
use Rattle.std.proofs.Common.{◌≡◌, ℕ, ◌≤◌, refl, subst, List, [], ◌∷◌, Bool, true, false, not, ◌&&◌, cond, map, arith, eqb, None}
use Rattle.std.specs.Prelude.{All}
use Rattle.std.specs.List.{AllByRecursion, flat_map}
use Rattle.std.proofs.lemmas.Bool.{eqb-false}
use Rattle.std.proofs.lemmas.List.Elements.{All-nil, All-cons}
use Rattle.std.proofs.lemmas.List.{map-append}
use Rattle.pb_inst.specs.Literal.{Literal}
use Rattle.pb_inst.specs.Problem.{LinearConstraint}
use Rattle.pb_inst.specs.declared.constraints.Term.{Term}
use Rattle.pb_inst.specs.Constraints.{clause_constraint, unit_term}
use Rattle.pb_inst.specs.Limits.{AllVariablesWithin, HasVariablesWithin}
use Rattle.pb_read.specs.Text.{Placed, items, words, are_digits, value}
use Rattle.pb_read.specs.Clauses.{Word, Lit, Zero, Bad, word_of, on_line, placed_words, whole_words, VarsUpTo}
use Rattle.pb_read.proofs.Limits.{all_append, all_front, all_back, all_both}

abbrev IsNumbered : Literal → Type 0
IsNumbered l = 1 ≤ l.var

-- the word is no literal, or one of a variable from 1 on
abbrev IsNumberedWord : Word → Type 0
IsNumberedWord (Lit l) = 1 ≤ l.var
IsNumberedWord Zero = Unit {0}
IsNumberedWord Bad = Unit {0}

not_zero : (n : ℕ) → eqb n 0 ≡ false → 1 ≤ n
not_zero n h = let k = eqb-false n 0 h in omega (arith, k)

positive_word : (n : ℕ) (zero : Bool) → eqb n 0 ≡ zero → IsNumberedWord (cond zero Zero (Lit (record { positive = true; var = n })))
positive_word n true h = tt
positive_word n false h = not_zero n h

negative_word : (n : ℕ) (a zero : Bool) → eqb n 0 ≡ zero → IsNumberedWord (cond (a && not zero) (Lit (record { positive = false; var = n })) Bad)
negative_word n false zero h = tt
negative_word n true true h = tt
negative_word n true false h = not_zero n h

either : (digits : Bool) (v w : Word) → IsNumberedWord v → IsNumberedWord w → IsNumberedWord (cond digits v w)
either true v w h k = h
either false v w h k = k

numbered_word : (bytes : List ℕ) → IsNumberedWord (word_of bytes)
numbered_word [] = tt
numbered_word (b ∷ rest) =
    either (are_digits (b ∷ rest)) _ _ (positive_word (value (b ∷ rest)) (eqb (value (b ∷ rest)) 0) refl) (negative_word (value rest) (eqb b 45 && are_digits rest) (eqb (value rest) 0) refl)

on_a_line : (n : ℕ) (ws : List (List ℕ)) → AllByRecursion IsNumberedWord (items (map (λ (w : List ℕ). record { item = word_of w; line = n }) ws))
on_a_line n [] = tt
on_a_line n (w ∷ ws) = (numbered_word w, on_a_line n ws)

on_lines : (ls : List (Placed (List ℕ))) → AllByRecursion IsNumberedWord (items (placed_words ls))
on_lines [] = tt
on_lines (l ∷ ls) =
    rw (map-append (λ (w : Placed Word). w.item) (on_line l) (placed_words ls)) (all_append IsNumberedWord (items (on_line l)) (items (placed_words ls)) (on_a_line l.line (words l.item)) (on_lines ls))

literals_of : (ls : List Literal) → AllByRecursion IsNumberedWord (map Lit ls) → AllByRecursion IsNumbered ls
literals_of [] h = tt
literals_of (l ∷ ls) h = (h.0, literals_of ls h.1)

clause_literals : (cs : List (List Literal)) → AllByRecursion IsNumberedWord (flat_map whole_words cs) → AllByRecursion IsNumbered (flat_map (λ c. c) cs)
clause_literals [] h = tt
clause_literals (c ∷ cs) h =
    let front = all_front IsNumberedWord (map Lit c) (Zero ∷ []) (all_front IsNumberedWord (whole_words c) (flat_map whole_words cs) h) in
    all_append IsNumbered c (flat_map (λ c. c) cs) (literals_of c front) (clause_literals cs (all_back IsNumberedWord (whole_words c) (flat_map whole_words cs) h))

abbrev IsWithin : ℕ → Literal → Type 0
IsWithin n l = (1 ≤ l.var) × (l.var ≤ n)

abbrev OfTerm : ℕ → Term → Type 0
OfTerm n t = (1 ≤ t.lit.var) × (t.lit.var ≤ n)

units_within : (n : ℕ) (ls : List Literal) → AllByRecursion (IsWithin n) ls → AllVariablesWithin n (map unit_term ls)
units_within n [] h = All-nil (OfTerm n)
units_within n (l ∷ ls) h = All-cons (OfTerm n) (unit_term l) (map unit_term ls) h.0 (units_within n ls h.1)

abbrev OfTerms : ℕ → LinearConstraint → Type 0
OfTerms n c = AllVariablesWithin n c.terms

clauses_within : (n : ℕ) (cs : List (List Literal)) → AllByRecursion (IsWithin n) (flat_map (λ c. c) cs) → All (OfTerms n) (map clause_constraint cs)
clauses_within n [] h = All-nil (OfTerms n)
clauses_within n (c ∷ cs) h =
    All-cons (OfTerms n) (clause_constraint c) (map clause_constraint cs) (units_within n c (all_front (IsWithin n) c (flat_map (λ c. c) cs) h)) (clauses_within n cs (all_back (IsWithin n) c (flat_map (λ c. c) cs) h))

-- clauses that a text spells and whose indices are at most n are of the variables 1 to n
pub clauses_have_variables : (n : ℕ) (ls : List (Placed (List ℕ))) (cs : List (List Literal)) → items (placed_words ls) ≡ flat_map whole_words cs → VarsUpTo n cs
    → HasVariablesWithin n (record { objective = None; constraints = map clause_constraint cs })
clauses_have_variables n ls cs spelled indices =
    let all : List Literal = flat_map (λ c. c) cs in
    let numbered = clause_literals cs (subst (AllByRecursion IsNumberedWord) spelled (on_lines ls)) in
    record {
      in_objective = λ ts e. absurd cc;
      in_constraints = clauses_within n cs (all_both IsNumbered (λ (l : Literal). l.var ≤ n) (flat_map (λ c. c) cs) numbered indices);
    }
