-- A cube file spells one list of cubes or has one refusal.
use Rattle.std.proofs.Common.{◌≡◌, ℕ, ◌+◌, min, sym, ◌∙◌, List, [], ◌∷◌, ◌++◌, Bool, true, ◌||◌, length, arith, None, ltb}
use Rattle.std.proofs.lemmas.Bool.{or_parts, or_from, le-ltb, ltb-false, not-false}
use Rattle.pb_inst.specs.Literal.{Literal}
use Rattle.pb_inst.specs.declared.limits.TheConstants.{MAX_TERMS, MAX_VARS}
use Rattle.pb_read.specs.declared.fault.ReadKind.{ReadKind}
use Rattle.pb_read.specs.declared.fault.ReadKind.TheVariants.{Syntax}
use Rattle.pb_read.specs.Text.{Placed, items, content}
use Rattle.pb_read.specs.Refusal.{first_kind, first_fault}
use Rattle.pb_read.specs.Clauses.{literals_in, word_faults}
use Rattle.pb_read.specs.Cubes.{is_cube_line, cube_words, cube_faults, CubeLines, CubeText, cube_refusal, most_cubes}
use Rattle.pb_read.proofs.ClausesSpelled.{Passes, IsTable, words_clear, words_back, same_count, same_length, all_clear, all_spelled, one_spelling}
use Rattle.pb_read.proofs.Spelled.{none_applies, none_of}

abbrev IsLine : List ℕ → Type 0
IsLine line = is_cube_line line ≡ true

module _ (other : ReadKind) (n : ℕ) where
  cube_clear : (earlier : List (List ℕ)) (line : List ℕ) → Passes cube_words IsLine n most_cubes earlier line → first_kind (cube_faults other n earlier line) ≡ None
  cube_clear earlier line p =
      let few = or_from _ _ (le-ltb most_cubes (length earlier + 1) (omega (arith, p.count))) (le-ltb MAX_TERMS (literals_in cube_words (earlier ++ line ∷ [])) p.literals) in
      rw (p.stands) (words_clear n (cube_words line) _ p.reads few)

  pub cube_back : (earlier : List (List ℕ)) (line : List ℕ) → first_kind (cube_faults other n earlier line) ≡ None → Passes cube_words IsLine n most_cubes earlier line
  cube_back earlier line h =
      let f = none_applies (cube_faults other n earlier line) h in
      let too_many : Bool = ltb most_cubes (length earlier + 1) || ltb MAX_TERMS (literals_in cube_words (earlier ++ line ∷ [])) in
      let w = words_back n (cube_words line) too_many (none_of (word_faults n (cube_words line) too_many) f.1) in
      let counts = or_parts (ltb most_cubes (length earlier + 1)) (ltb MAX_TERMS (literals_in cube_words (earlier ++ line ∷ []))) w.1 in
      record {
        stands = not-false (is_cube_line line) f.0;
        reads = w.0;
        count = omega (arith, ltb-false most_cubes (length earlier + 1) counts.0);
        literals = ltb-false MAX_TERMS _ counts.1;
      }

  cube_table : IsTable cube_words IsLine n most_cubes (cube_faults other n)
  cube_table = record { clear = cube_clear; back = cube_back }

  -- cube lines have no fault
  pub cubes_clear : (ss : List (Placed (List ℕ))) (cubes : List (List Literal)) → CubeLines (items ss) n cubes → first_fault (cube_faults other n) [] ss ≡ None
  cubes_clear ss cubes h = all_clear cube_words IsLine n most_cubes (cube_faults other n) cube_table [] ss cubes (record {
    each = h.each;
    spelled = h.spelled;
    indices = h.indices;
    count = omega (arith, h.count, same_length cube_words (items ss) cubes h.spelled);
    literals = omega (arith, h.literals, same_count cube_words (items ss) cubes h.spelled);
  })

  -- lines with no fault are cube lines
  pub cubes_back : (ss : List (Placed (List ℕ))) → first_fault (cube_faults other n) [] ss ≡ None → (cubes : List (List Literal)) × CubeLines (items ss) n cubes
  cubes_back ss h =
      let r = all_spelled cube_words IsLine n most_cubes (cube_faults other n) cube_table [] ss (omega arith) (omega arith) h in (
        r.0,
        record {
          each = r.1.each;
          spelled = r.1.spelled;
          count = omega (arith, r.1.count, same_length cube_words (items ss) r.0 r.1.spelled);
          literals = omega (arith, r.1.literals, same_count cube_words (items ss) r.0 r.1.spelled);
          indices = r.1.indices;
        },
      )

pub one_cubes : (lines : List (List ℕ)) (n : ℕ) (cs ds : List (List Literal)) → CubeLines lines n cs → CubeLines lines n ds → cs ≡ ds
one_cubes lines n cs ds h k = one_spelling cs ds (sym h.spelled ∙ k.spelled)

pub spells : (text : List ℕ) (n : ℕ) → cube_refusal text n ≡ None → (cubes : List (List Literal)) × CubeText text n cubes
spells text n h = cubes_back Syntax (min n MAX_VARS) (content text) h

pub not_refused : (text : List ℕ) (n : ℕ) (cubes : List (List Literal)) → CubeText text n cubes → cube_refusal text n ≡ None
not_refused text n cubes h = cubes_clear Syntax (min n MAX_VARS) (content text) cubes h

pub one : (text : List ℕ) (n : ℕ) (cs ds : List (List Literal)) → CubeText text n cs → CubeText text n ds → cs ≡ ds
one text n cs ds h k = one_cubes (items (content text)) (min n MAX_VARS) cs ds h k
