-- Clauses and cubes whose words have no fault, whatever text they stand in.
use Rattle.std.proofs.Common.{◌≡◌, ℕ, suc, ◌+◌, ◌≤◌, ◌<◌, refl, sym, ap, subst, ◌∙◌, List, [], ◌∷◌, ◌++◌, Bool, true, false, not, cond, map, length, arith, Some, None, Option, append_assoc, ltb}
use Rattle.std.specs.Prelude.{count_by}
use Rattle.std.specs.List.{list_any, flat_map, AllByRecursion}
use Rattle.std.proofs.lemmas.Bool.{or_parts, or_from, not_from_true, le-ltb, ltb-false, not-false, false≢true}
use Rattle.std.proofs.lemmas.List.{append-nil, length-append}
use Rattle.std.proofs.lemmas.List.Sums.{sum_by-append, sum_by-cons}
use Rattle.std.proofs.lemmas.List.Folds.{flat_map-map}
use Rattle.pb_inst.specs.Literal.{Literal}
use Rattle.pb_inst.specs.declared.limits.TheConstants.{MAX_TERMS}
use Rattle.pb_read.specs.declared.fault.ReadKind.{ReadKind}
use Rattle.pb_read.specs.declared.fault.ReadFault.{ReadFault}
use Rattle.pb_read.specs.Runs.{pieces}
use Rattle.pb_read.specs.Text.{Placed, items}
use Rattle.pb_read.specs.Refusal.{Faults, first_kind, first_fault, at_line, ◌or_else◌}
use Rattle.pb_read.specs.Clauses.{Word, Lit, Zero, is_zero, is_literal, is_over, is_whole, whole_words, placed_words, clauses_on, statement_of, literals_in, word_faults, VarsUpTo, literal_count}
use Rattle.pb_read.proofs.Limits.{all_append, all_front, all_back}
use Rattle.pb_read.proofs.Spelled.{none_of, none_applies}
use Rattle.pb_read.proofs.Pieces.{pieces_cut, runs_flat, runs_map}

-- ---- tables of faults

pub or_else_parts : (n : ℕ) (o : Option ReadKind) (r : Option ReadFault) → (at_line n o or_else r) ≡ None → (o ≡ None) × (r ≡ None)
or_else_parts n None r h = (refl, h)
or_else_parts n (Some k) r h = absurd cc

-- ---- the words of one clause or cube

any_zero : (ls : List Literal) → list_any is_zero (whole_words ls) ≡ true
any_zero [] = refl
any_zero (l ∷ ls) = any_zero ls

whole : (ls : List Literal) → is_whole (whole_words ls) ≡ true
whole [] = refl
whole (l ∷ ls) = whole ls

none_over : (n : ℕ) (ls : List Literal) → AllByRecursion (λ (l : Literal). l.var ≤ n) ls → list_any (is_over n) (whole_words ls) ≡ false
none_over n [] h = refl
none_over n (l ∷ ls) h = or_from _ _ (le-ltb n l.var h.0) (none_over n ls h.1)

none_over_back : (n : ℕ) (ls : List Literal) → list_any (is_over n) (whole_words ls) ≡ false → AllByRecursion (λ (l : Literal). l.var ≤ n) ls
none_over_back n [] h = tt
none_over_back n (l ∷ ls) h =
    let p = or_parts (ltb n l.var) (list_any (is_over n) (whole_words ls)) h in
    (ltb-false n l.var p.0, none_over_back n ls p.1)

whole_back : (ws : List Word) → is_whole ws ≡ true → (ls : List Literal) × (ws ≡ whole_words ls)
whole_back (Zero ∷ []) h = ([], refl)
whole_back (Lit l ∷ ws) h = let r = whole_back ws h in (l ∷ r.0, ap (λ (x : List Word). Lit l ∷ x) r.1)
whole_back _ h = absurd (false≢true h)

-- the words are these literals and the end word
pub record Reads (n : ℕ) (ws : List Word) : Type 0 where
  pub literals : List Literal
  pub same : ws ≡ whole_words literals
  pub indices : AllByRecursion (λ (l : Literal). l.var ≤ n) literals

pub words_clear : (n : ℕ) (ws : List Word) (b : Bool) → Reads n ws → b ≡ false → first_kind (word_faults n ws b) ≡ None
words_clear n ws b r few =
    let ls : List Literal = r.literals in
    let clear : first_kind (word_faults n (whole_words ls) b) ≡ None =
    none_of (word_faults n (whole_words ls) b) (not_from_true _ (any_zero ls), (not_from_true _ (whole ls), (none_over n ls r.indices, (few, tt)))) in
    ap (λ (x : List Word). first_kind (word_faults n x b)) r.same ∙ clear

pub words_back : (n : ℕ) (ws : List Word) (b : Bool) → first_kind (word_faults n ws b) ≡ None → Reads n ws × (b ≡ false)
words_back n ws b h =
    let f = none_applies (word_faults n ws b) h in
    let r = whole_back ws (not-false (is_whole ws) f.1.0) in
    let over : list_any (is_over n) (whole_words r.0) ≡ false = subst (λ (x : List Word). list_any (is_over n) x ≡ false) r.1 f.1.1.0 in
    (record { literals = r.0; same = r.1; indices = none_over_back n r.0 over }, f.1.1.1.0)

-- ---- counts

pub literals_whole : (ls : List Literal) → count_by is_literal (whole_words ls) ≡ length ls
literals_whole [] = refl
literals_whole (l ∷ ls) = omega (arith, sum_by-cons (λ x. cond (is_literal x) 1 0) (Lit l) (whole_words ls), literals_whole ls)

module _ {X : Type 0} (words_of : X → List Word) where
  -- statements that spell these lists of literals have as many literals as the lists
  pub same_count : (xs : List X) (cs : List (List Literal)) → map words_of xs ≡ map whole_words cs → literals_in words_of xs ≡ literal_count cs
  same_count [] [] e = refl
  same_count [] (c ∷ cs) e = absurd cc
  same_count (x ∷ xs) [] e = absurd cc
  same_count (x ∷ xs) (c ∷ cs) e =
      let head : words_of x ≡ whole_words c = cc in
      let tail : map words_of xs ≡ map whole_words cs = cc in
      omega (arith, sum_by-cons (λ s. count_by is_literal (words_of s)) x xs, ap (count_by is_literal) head, literals_whole c, same_count xs cs tail, sum_by-cons length c cs)

  less_front : (a : List X) (x : X) (b : List X) → literals_in words_of (a ++ x ∷ b) ≤ MAX_TERMS → literals_in words_of (a ++ x ∷ []) ≤ MAX_TERMS
  less_front a x b h =
      let f : X → ℕ = λ s. count_by is_literal (words_of s) in
      omega (arith, sum_by-append f a (x ∷ b), sum_by-append f a (x ∷ []), sum_by-cons f x b, sum_by-cons f x [], h)

pub same_length : {X : Type 0} (words_of : X → List Word) (xs : List X) (cs : List (List Literal)) → map words_of xs ≡ map whole_words cs → length xs ≡ length cs
same_length words_of [] [] e = refl
same_length words_of [] (c ∷ cs) e = absurd cc
same_length words_of (x ∷ xs) [] e = absurd cc
same_length words_of (x ∷ xs) (c ∷ cs) e =
    let tail : map words_of xs ≡ map whole_words cs = cc in
    ap suc (same_length words_of xs cs tail)

pub length_items : {X : Type 0} (ss : List (Placed X)) → length (items ss) ≡ length ss
length_items [] = refl
length_items (s ∷ ss) = ap suc (length_items ss)

-- ---- a row of statements

-- A statement after earlier ones has no fault: it is of the kind that stands here, its words are a clause or a cube, and with it there are not too many.
pub record Passes {X : Type 0} (words_of : X → List Word) (Stands : X → Type 0) (n m : ℕ) (earlier : List X) (x : X) : Type 0 where
  pub stands : Stands x
  pub reads : Reads n (words_of x)
  pub count : length earlier < m
  pub literals : literals_in words_of (earlier ++ x ∷ []) ≤ MAX_TERMS

-- the statements spell these lists of literals, and are with the earlier ones not too many
pub record Spells {X : Type 0} (words_of : X → List Word) (Stands : X → Type 0) (n m : ℕ) (earlier xs : List X) (cs : List (List Literal)) : Type 0 where
  pub each : AllByRecursion Stands xs
  pub spelled : map words_of xs ≡ map whole_words cs
  pub indices : VarsUpTo n cs
  pub count : length earlier + length xs ≤ m
  pub literals : literals_in words_of (earlier ++ xs) ≤ MAX_TERMS

-- the table of a format says the same as `Passes`
pub record IsTable {X : Type 0} (words_of : X → List Word) (Stands : X → Type 0) (n m : ℕ) (faults : List X → X → Faults) : Type 0 where
  pub clear : (earlier : List X) (x : X) → Passes words_of Stands n m earlier x → first_kind (faults earlier x) ≡ None
  pub back : (earlier : List X) (x : X) → first_kind (faults earlier x) ≡ None → Passes words_of Stands n m earlier x

module _ {X : Type 0} (words_of : X → List Word) (Stands : X → Type 0) (n m : ℕ) (faults : List X → X → Faults) (table : IsTable words_of Stands n m faults) where
  -- what spells has no fault
  pub all_clear : (earlier : List X) (ss : List (Placed X)) (cs : List (List Literal)) → Spells words_of Stands n m earlier (items ss) cs → first_fault faults earlier ss ≡ None
  all_clear earlier [] cs h = refl
  all_clear earlier (s ∷ ss) [] h = let e = h.spelled in absurd cc
  all_clear earlier (s ∷ ss) (c ∷ cs) h =
      let e = h.spelled in
      let head : words_of s.item ≡ whole_words c = cc in
      let tail : map words_of (items ss) ≡ map whole_words cs = cc in
      let V : Literal → Type 0 = λ l. l.var ≤ n in
      let now : Passes words_of Stands n m earlier s.item = record {
        stands = h.each.0;
        reads = record { literals = c; same = head; indices = all_front V c (flat_map (λ c. c) cs) h.indices };
        count = omega (arith, h.count);
        literals = less_front words_of earlier s.item (items ss) h.literals;
      } in
      let later : Spells words_of Stands n m (earlier ++ s.item ∷ []) (items ss) cs = record {
        each = h.each.1;
        spelled = tail;
        indices = all_back V c (flat_map (λ c. c) cs) h.indices;
        count = omega (arith, h.count, length-append earlier (s.item ∷ []));
        literals = rw append_assoc h.literals;
      } in
      ap (λ (o : Option ReadKind). at_line s.line o or_else first_fault faults (earlier ++ s.item ∷ []) ss) (table.clear earlier s.item now) ∙ all_clear (earlier ++ s.item ∷ []) ss cs later

  -- what has no fault spells
  pub all_spelled : (earlier : List X) (ss : List (Placed X)) → length earlier ≤ m → literals_in words_of earlier ≤ MAX_TERMS → first_fault faults earlier ss ≡ None
      → (cs : List (List Literal)) × Spells words_of Stands n m earlier (items ss) cs
  all_spelled earlier [] count literals h = ([], record { each = tt; spelled = refl; indices = tt; count = omega (arith, count); literals = rw append-nil literals })
  all_spelled earlier (s ∷ ss) count literals h =
      let p = or_else_parts s.line (first_kind (faults earlier s.item)) (first_fault faults (earlier ++ s.item ∷ []) ss) h in
      let now = table.back earlier s.item p.0 in
      let later = all_spelled (earlier ++ s.item ∷ []) ss (omega (arith, now.count, length-append earlier (s.item ∷ []))) now.literals p.1 in (
        now.reads.literals ∷ later.0,
        record {
          each = (now.stands, later.1.each);
          spelled = ap (λ (x : List Word). x ∷ map words_of (items ss)) now.reads.same ∙ ap (λ (x : List (List Word)). whole_words now.reads.literals ∷ x) later.1.spelled;
          indices = all_append (λ (l : Literal). l.var ≤ n) now.reads.literals (flat_map (λ c. c) later.0) now.reads.indices later.1.indices;
          count = omega (arith, later.1.count, length-append earlier (s.item ∷ []));
          literals = rw append_assoc at later.1.literals;
        },
      )

-- ---- clauses, which may span lines

clause_cut : (c : List Literal) (rest : List Word) → pieces is_zero (whole_words c ++ rest) ≡ whole_words c ∷ pieces is_zero rest
clause_cut c rest =
    ap (pieces is_zero) (append_assoc (map Lit c) (Zero ∷ []) rest) ∙ pieces_cut is_zero (map Lit c) Zero rest (no_zero c) refl
  where
    no_zero : (c : List Literal) → list_any is_zero (map Lit c) ≡ false
    no_zero [] = refl
    no_zero (l ∷ c) = no_zero c

pub clauses_cut : (cs : List (List Literal)) → pieces is_zero (flat_map whole_words cs) ≡ map whole_words cs
clauses_cut [] = refl
clauses_cut (c ∷ cs) = clause_cut c (flat_map whole_words cs) ∙ ap (λ (ss : List (List Word)). whole_words c ∷ ss) (clauses_cut cs)

items_of : (ps : List (List (Placed Word))) → items (map statement_of ps) ≡ map items ps
items_of [] = refl
items_of (p ∷ ps) = ap (λ (ss : List (List Word)). items p ∷ ss) (items_of ps)

-- the clauses without their lines are the pieces of the words without their lines
pub clause_items : (ls : List (Placed (List ℕ))) → items (clauses_on ls) ≡ pieces is_zero (items (placed_words ls))
clause_items ls = items_of (pieces (λ (w : Placed Word). is_zero w.item) (placed_words ls)) ∙ sym (runs_map (λ (w : Placed Word). w.item) (λ x y. not (is_zero x)) (placed_words ls))

pub same_items : (ss : List (List Word)) → map (λ (s : List Word). s) ss ≡ ss
same_items [] = refl
same_items (s ∷ ss) = ap (λ (x : List (List Word)). s ∷ x) (same_items ss)

-- clauses that spell these lists of literals are their words in a row
pub words_of_clauses : (ls : List (Placed (List ℕ))) (cs : List (List Literal)) → items (clauses_on ls) ≡ map whole_words cs → items (placed_words ls) ≡ flat_map whole_words cs
words_of_clauses ls cs e =
    sym (runs_flat (λ x y. not (is_zero x)) (items (placed_words ls))) ∙ ap (flat_map (λ (s : List Word). s)) (sym (clause_items ls) ∙ e) ∙ flat_map-map (λ (s : List Word). s) whole_words cs

pub clauses_of_words : (ls : List (Placed (List ℕ))) (cs : List (List Literal)) → items (placed_words ls) ≡ flat_map whole_words cs → items (clauses_on ls) ≡ map whole_words cs
clauses_of_words ls cs e = clause_items ls ∙ ap (pieces is_zero) e ∙ clauses_cut cs

-- ---- one spelling

literals_back : List Word → List Literal
literals_back (Lit l ∷ ws) = l ∷ literals_back ws
literals_back _ = []

literals_again : (ls : List Literal) → literals_back (whole_words ls) ≡ ls
unfolding literals_back
literals_again [] = refl
literals_again (l ∷ ls) = ap (λ (x : List Literal). l ∷ x) (literals_again ls)

all_again : (cs : List (List Literal)) → map literals_back (map whole_words cs) ≡ cs
all_again [] = refl
all_again (c ∷ cs) = rw (literals_again c, all_again cs) refl

pub one_spelling : (cs ds : List (List Literal)) → map whole_words cs ≡ map whole_words ds → cs ≡ ds
one_spelling cs ds e = sym (all_again cs) ∙ ap (map literals_back) e ∙ all_again ds
