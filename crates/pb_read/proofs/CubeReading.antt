-- One more cube line.
use Rattle.std.proofs.Common.{◌≡◌, ℕ, ◌+◌, ◌≤◌, ◌-◌, ◌^◌, min, refl, sym, ap, ◌∙◌, List, [], ◌∷◌, ◌++◌, Bool, true, ◌||◌, map, length, arith, None, ltb, codes}
use Rattle.std.specs.List.{flat_map}
use Rattle.std.proofs.lemmas.List.{map-append, length-append, append-nil}
use Rattle.std.proofs.lemmas.List.Sums.{sum_by-append, sum_by-cons}
use Rattle.std.proofs.lemmas.Grind.{flat_map-append}
use Rattle.pb_inst.specs.Literal.{Literal}
use Rattle.pb_inst.specs.declared.limits.TheConstants.{MAX_TERMS}
use Rattle.pb_read.specs.declared.fault.ReadKind.{ReadKind}
use Rattle.pb_read.specs.Refusal.{first_kind}
use Rattle.pb_read.specs.Text.{words, is_text}
use Rattle.pb_read.specs.Clauses.{Word, word_of, whole_words, literals_in, literal_count, word_faults}
use Rattle.pb_read.specs.Cubes.{is_cube_line, cube_words, cube_faults, most_cubes}
use Rattle.pb_read.specs.ClauseReading.{Scanned, CubesRead}
use Rattle.pb_read.proofs.ClausesSpelled.{same_length, one_spelling}
use Rattle.pb_read.proofs.Limits.{all_append}
use Rattle.pb_read.proofs.CubeLaws.{cube_back}
use Rattle.pb_read.proofs.Counting.{same_faults, whole_without_fault, total_count}

pub line_is : (line w after : List ℕ) → words line ≡ w ∷ words after → is_text (codes "a") w ≡ true → is_cube_line line ≡ true
line_is line w after e a = rw e a

pub words_are : (line w after : List ℕ) → words line ≡ w ∷ words after → map word_of (words after) ≡ cube_words line
words_are line w after e = rw e refl

module _ (other : ReadKind) (n : ℕ) (earlier : List (List ℕ)) (line : List ℕ) (cubes : List (List Literal)) (count : ℕ) (read : CubesRead n cubes count earlier) (isline : is_cube_line line ≡ true)
    (ls : List Literal) (ended broken over : Bool) (h : Scanned n ls ended broken over (cube_words line)) (k total : ℕ) (k_is : k ≡ length cubes) (total_is : total ≡ min (count + length ls) (2 ^ 64 - 1)) where
  same_count_test : ltb most_cubes (k + 1) ≡ ltb most_cubes (length earlier + 1)
  same_count_test = ap (ltb most_cubes) (omega (arith, k_is, same_length cube_words earlier cubes read.lines.spelled))

  -- what the reader finds is the line's first fault
  pub same_first : first_kind (word_faults n (cube_words line) (ltb most_cubes (k + 1) || ltb MAX_TERMS total)) ≡ first_kind (cube_faults other n earlier line)
  same_first =
      let b2 : Bool = ltb most_cubes (length earlier + 1) || ltb MAX_TERMS (literals_in cube_words (earlier ++ line ∷ [])) in
      let table : first_kind (cube_faults other n earlier line) ≡ first_kind (word_faults n (cube_words line) b2) = rw isline refl in
      same_faults cube_words earlier line cubes read.lines.spelled n ls ended broken over h count total read.counted total_is (ltb most_cubes (k + 1)) (ltb most_cubes (length earlier + 1)) same_count_test ∙ sym table

  -- a line with no fault is one more cube
  pub one_more : first_kind (cube_faults other n earlier line) ≡ None → CubesRead n (cubes ++ ls ∷ []) total (earlier ++ line ∷ [])
  one_more clear =
      let w : cube_words line ≡ whole_words ls = whole_without_fault n ls ended broken over (cube_words line) h (ltb most_cubes (k + 1) || ltb MAX_TERMS total) (same_first ∙ clear) in
      let p = cube_back other n earlier line clear in
      let mine : p.reads.literals ≡ ls = one_of (sym p.reads.same ∙ w) in
      let c = total_count cube_words earlier line cubes read.lines.spelled ls count read.counted w in
      let lits : literal_count (cubes ++ ls ∷ []) ≡ count + length ls = omega (arith, sum_by-append length cubes (ls ∷ []), sum_by-cons length ls [], read.counted) in
      record {
        lines = record {
          each = all_append (λ l. is_cube_line l ≡ true) earlier (line ∷ []) read.lines.each (isline, tt);
          spelled = map-append cube_words earlier (line ∷ []) ∙ ap (λ (x : List (List Word)). x ++ cube_words line ∷ []) read.lines.spelled ∙ ap (λ (x : List Word). map whole_words cubes ++ x ∷ []) w ∙ sym (map-append whole_words cubes (ls ∷ []));
          count = omega (arith, p.count, length-append cubes (ls ∷ []), same_length cube_words earlier cubes read.lines.spelled);
          literals = omega (arith, lits, c, p.literals);
          indices = rw flat_map-append (all_append (λ (l : Literal). l.var ≤ n) (flat_map (λ c. c) cubes) (flat_map (λ c. c) (ls ∷ [])) read.lines.indices (rw append-nil (rw (← mine) p.reads.indices)));
        };
        counted = omega (arith, lits, c, p.literals, total_is);
      }
    where
      one_of : {a b : List Literal} → whole_words a ≡ whole_words b → a ≡ b
      one_of {a} {b} e = let x : a ∷ [] ≡ b ∷ [] = one_spelling (a ∷ []) (b ∷ []) (ap (λ (y : List Word). y ∷ []) e) in cc
