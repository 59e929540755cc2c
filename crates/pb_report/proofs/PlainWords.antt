-- The words of lines of plain bytes.
use Rattle.std.proofs.Common.{◌≡◌, ℕ, zero, suc, ◌+◌, ◌-◌, ◌<◌, ◌≤◌, ◌==◌, ◌&&◌, leb, nat_lt, Bool, true, false, cond, List, [], ◌∷◌, ◌++◌, length, length-append, take, drop, take_all, map, slice_index, Option, None, Some, refl, sym, ◌∙◌, ap, subst, arith, append_assoc, append-nil, inl, inr}
use Rattle.std.specs.List.{list_all}
use Rattle.std.specs.Char.{is_whitespace}
use Rattle.std.proofs.lemmas.Bool.{agree_below_at, and_parts, and_from, leb-true, le-leb, cond-true, cond-false, eq-eqb, ne_eqb, cases_Bool}
use Rattle.std.proofs.lemmas.Bool.Decides.{nat_tests}
use Rattle.std.proofs.lemmas.List.{drop-append-le, take-append-le, drop_all}
use Rattle.bstr.specs.Fields.{fields_acc}
use Rattle.bstr.specs.Text.{part, lines_of, without_terminator, no_cr}
use Rattle.bstr.specs.Utf8.{Decoded, decoded, good, or_replacement, pieces, spans_from}
use Rattle.bstr.proofs.lemmas.FieldLemmas.{fields-last, fields-more, fields-nil, fields-skip, fields-start, fields-stop}
use Rattle.bstr.proofs.lemmas.LineLemmas.{lines-append, lines-nil, lines-one}
use Rattle.bstr.proofs.lemmas.PieceLemmas.{spans-first, spans-nil, value-1}
use Rattle.pb_report.specs.Lines.{rows, words}
use Rattle.pb_report.specs.Written.{line}

-- a byte from the space (32) to `~` (126), and one that is not the space
abbrev pub is_plain : ℕ → Bool
is_plain b = leb 32 b && leb b 126

abbrev pub is_ink : ℕ → Bool
is_ink b = leb 33 b && leb b 126

abbrev pub ArePlain : List ℕ → Type 0
ArePlain bytes = list_all is_plain bytes ≡ true

abbrev pub AreInk : List ℕ → Type 0
AreInk bytes = list_all is_ink bytes ≡ true

plain_bounds : (b : ℕ) → is_plain b ≡ true → (32 ≤ b) × (b ≤ 126)
plain_bounds b h = let parts = and_parts (leb 32 b) (leb b 126) h in (leb-true 32 b parts.0, leb-true b 126 parts.1)

ink_bounds : (b : ℕ) → is_ink b ≡ true → (33 ≤ b) × (b ≤ 126)
ink_bounds b h = let parts = and_parts (leb 33 b) (leb b 126) h in (leb-true 33 b parts.0, leb-true b 126 parts.1)

pub ink_byte : (b : ℕ) → 33 ≤ b → b ≤ 126 → is_ink b ≡ true
ink_byte b low high = and_from (leb 33 b) (leb b 126) (le-leb 33 b low) (le-leb b 126 high)

-- of plain bytes the space alone is white space
space_alone : (b : ℕ) → is_plain b ≡ true → is_whitespace b ≡ (b == 32)
space_alone b plain =
    let bounds = plain_bounds b plain in
    sym (cond-true (is_plain b) (is_whitespace b) false plain)
    ∙ agree_below_at (λ c. cond (is_plain c) (is_whitespace c) false) (λ c. cond (is_plain c) (c == 32) false) 127 b refl (omega (arith, bounds.1))
    ∙ cond-true (is_plain b) (b == 32) false plain

ink_no_space : (b : ℕ) → is_ink b ≡ true → (b == 32) ≡ false
ink_no_space b ink = ne_eqb b 32 (λ e. let bounds = ink_bounds b ink in absurd (omega (arith, e, bounds.0)))

pub ink_plain : (bytes : List ℕ) → AreInk bytes → ArePlain bytes
ink_plain [] h = refl
ink_plain (b ∷ bytes) h =
    let parts = and_parts (is_ink b) (list_all is_ink bytes) h in
    let bounds = ink_bounds b parts.0 in
    and_from (is_plain b) (list_all is_plain bytes) (and_from (leb 32 b) (leb b 126) (le-leb 32 b (omega (arith, bounds.0))) (le-leb b 126 bounds.1)) (ink_plain bytes parts.1)

-- the words of plain bytes, with the word so far
abbrev pub words_from : Option (List ℕ) → List ℕ → List (List ℕ)
words_from None [] = []
words_from (Some word) [] = word ∷ []
words_from None (b ∷ rest) = cond (b == 32) (words_from None rest) (words_from (Some (b ∷ [])) rest)
words_from (Some word) (b ∷ rest) = cond (b == 32) (word ∷ words_from None rest) (words_from (Some (word ++ b ∷ [])) rest)

-- ---- fields are these words

abbrev span_of : ℕ → List ℕ → Decoded → List (ℕ × ℕ × ℕ)
span_of off bytes d = (off, off + d.size, or_replacement d.char) ∷ spans_from (off + d.size) (pieces (drop d.size bytes))

first_span : (b : ℕ) (rest : List ℕ) (off : ℕ) → is_plain b ≡ true → spans_from off (pieces (b ∷ rest)) ≡ (off, off + 1, b) ∷ spans_from (off + 1) (pieces rest)
first_span b rest off plain =
    let bounds = plain_bounds b plain in
    let one : decoded (b ∷ rest) ≡ good b 1 = value-1 (length (b ∷ rest)) (slice_index (b ∷ rest) 0) (slice_index (b ∷ rest) 1) (slice_index (b ∷ rest) 2) (slice_index (b ∷ rest) 3) (omega arith, omega (arith, bounds.1)) in
    spans-first (b ∷ rest) off (omega arith) ∙ ap (span_of off (b ∷ rest)) one

part_is : (front word rest : List ℕ) → part (length front) (length (front ++ word)) ((front ++ word) ++ rest) ≡ word
part_is front word rest =
    let all = length-append front word in
    let dropped : drop (length front) ((front ++ word) ++ rest) ≡ word ++ rest =
    ap (drop (length front)) (append_assoc front word rest) ∙ drop-append-le (length front) front (word ++ rest) (omega arith) ∙ ap (λ l. l ++ (word ++ rest)) (drop_all (length front) front (omega arith)) in
    let long : length (front ++ word) - length front ≡ length word = omega arith in
    ap (λ n. take n (drop (length front) ((front ++ word) ++ rest))) long ∙ ap (take (length word)) dropped
    ∙ take-append-le (length word) word rest (omega arith) ∙ take_all (length word) word (omega arith)

-- the fields of what follows some bytes; and those where a word has begun behind them
abbrev FieldsAfter : List ℕ → Type 0
FieldsAfter rest = (front : List ℕ) → fields_acc is_whitespace (front ++ rest) None (spans_from (length front) (pieces rest)) ≡ words_from None rest

abbrev FieldsWithin : List ℕ → Type 0
FieldsWithin rest = (front word : List ℕ) → fields_acc is_whitespace ((front ++ word) ++ rest) (Some (length front, length (front ++ word))) (spans_from (length (front ++ word)) (pieces rest)) ≡ words_from (Some word) rest

one_more : (front : List ℕ) (b : ℕ) → length front + 1 ≡ length (front ++ b ∷ [])
one_more front b = let all = length-append front (b ∷ []) in omega arith

after_space : (front rest : List ℕ) (b : ℕ) → FieldsAfter rest → fields_acc is_whitespace (front ++ b ∷ rest) None (spans_from (length front + 1) (pieces rest)) ≡ words_from None rest
after_space front rest b more =
    ap (λ l. fields_acc is_whitespace l None (spans_from (length front + 1) (pieces rest))) (sym (append_assoc front (b ∷ []) rest))
    ∙ ap (λ n. fields_acc is_whitespace ((front ++ b ∷ []) ++ rest) None (spans_from n (pieces rest))) (one_more front b) ∙ more (front ++ b ∷ [])

after_ink : (front rest : List ℕ) (b : ℕ) → FieldsWithin rest → fields_acc is_whitespace (front ++ b ∷ rest) (Some (length front, length front + 1)) (spans_from (length front + 1) (pieces rest)) ≡ words_from (Some (b ∷ [])) rest
after_ink front rest b more =
    ap (λ l. fields_acc is_whitespace l (Some (length front, length front + 1)) (spans_from (length front + 1) (pieces rest))) (sym (append_assoc front (b ∷ []) rest))
    ∙ ap (λ n. fields_acc is_whitespace ((front ++ b ∷ []) ++ rest) (Some (length front, n)) (spans_from n (pieces rest))) (one_more front b) ∙ more front (b ∷ [])

within_ink : (front word rest : List ℕ) (b : ℕ) → FieldsWithin rest → fields_acc is_whitespace ((front ++ word) ++ b ∷ rest) (Some (length front, length (front ++ word) + 1)) (spans_from (length (front ++ word) + 1) (pieces rest)) ≡ words_from (Some (word ++ b ∷ [])) rest
within_ink front word rest b more =
    let longer : front ++ (word ++ b ∷ []) ≡ (front ++ word) ++ b ∷ [] = sym (append_assoc front word (b ∷ [])) in
    ap (λ l. fields_acc is_whitespace l (Some (length front, length (front ++ word) + 1)) (spans_from (length (front ++ word) + 1) (pieces rest))) (sym (append_assoc (front ++ word) (b ∷ []) rest))
    ∙ ap (λ n. fields_acc is_whitespace (((front ++ word) ++ b ∷ []) ++ rest) (Some (length front, n)) (spans_from n (pieces rest))) (one_more (front ++ word) b)
    ∙ ap (λ l. fields_acc is_whitespace (l ++ rest) (Some (length front, length l)) (spans_from (length l) (pieces rest))) (sym longer)
    ∙ more front (word ++ b ∷ [])

fields_are : (rest : List ℕ) → ArePlain rest → FieldsAfter rest × FieldsWithin rest
fields_are [] h = (
  λ front. ap (fields_acc is_whitespace (front ++ []) None) (spans-nil [] (length front) refl) ∙ fields-nil is_whitespace (front ++ []),
  λ front word. ap (fields_acc is_whitespace ((front ++ word) ++ []) (Some (length front, length (front ++ word)))) (spans-nil [] (length (front ++ word)) refl)
      ∙ fields-last is_whitespace ((front ++ word) ++ []) (length front) (length (front ++ word)) ∙ ap (λ w. w ∷ []) (part_is front word []),
)
fields_are (b ∷ rest) h =
    let parts = and_parts (is_plain b) (list_all is_plain rest) h in
    let more = fields_are rest parts.1 in
    elim (cases_Bool (b == 32)) [
      | inl space ↦ (
        λ front. ap (fields_acc is_whitespace (front ++ b ∷ rest) None) (first_span b rest (length front) parts.0)
            ∙ fields-skip is_whitespace (front ++ b ∷ rest) (length front, length front + 1, b) (spans_from (length front + 1) (pieces rest)) (space_alone b parts.0 ∙ space)
            ∙ after_space front rest b more.0 ∙ sym (cond-true (b == 32) (words_from None rest) (words_from (Some (b ∷ [])) rest) space),
        λ front word. ap (fields_acc is_whitespace ((front ++ word) ++ b ∷ rest) (Some (length front, length (front ++ word)))) (first_span b rest (length (front ++ word)) parts.0)
            ∙ fields-stop is_whitespace ((front ++ word) ++ b ∷ rest) (length (front ++ word), length (front ++ word) + 1, b) (spans_from (length (front ++ word) + 1) (pieces rest)) (length front) (length (front ++ word)) (space_alone b parts.0 ∙ space)
            ∙ ap (λ w. w ∷ fields_acc is_whitespace ((front ++ word) ++ b ∷ rest) None (spans_from (length (front ++ word) + 1) (pieces rest))) (part_is front word (b ∷ rest))
            ∙ ap (λ ws. word ∷ ws) (after_space (front ++ word) rest b more.0)
            ∙ sym (cond-true (b == 32) (word ∷ words_from None rest) (words_from (Some (word ++ b ∷ [])) rest) space),
      )
      | inr ink ↦ (
        λ front. ap (fields_acc is_whitespace (front ++ b ∷ rest) None) (first_span b rest (length front) parts.0)
            ∙ fields-start is_whitespace (front ++ b ∷ rest) (length front, length front + 1, b) (spans_from (length front + 1) (pieces rest)) (space_alone b parts.0 ∙ ink)
            ∙ after_ink front rest b more.1 ∙ sym (cond-false (b == 32) (words_from None rest) (words_from (Some (b ∷ [])) rest) ink),
        λ front word. ap (fields_acc is_whitespace ((front ++ word) ++ b ∷ rest) (Some (length front, length (front ++ word)))) (first_span b rest (length (front ++ word)) parts.0)
            ∙ fields-more is_whitespace ((front ++ word) ++ b ∷ rest) (length (front ++ word), length (front ++ word) + 1, b) (spans_from (length (front ++ word) + 1) (pieces rest)) (length front) (length (front ++ word)) (space_alone b parts.0 ∙ ink)
            ∙ within_ink front word rest b more.1
            ∙ sym (cond-false (b == 32) (word ∷ words_from None rest) (words_from (Some (word ++ b ∷ [])) rest) ink),
      )
    ]

words_are : (text : List ℕ) → ArePlain text → words text ≡ words_from None text
words_are text plain = (fields_are text plain).0 []

-- ---- the words of ink and spaces

pub ink_more : (word bytes rest : List ℕ) → AreInk bytes → words_from (Some word) (bytes ++ rest) ≡ words_from (Some (word ++ bytes)) rest
ink_more word [] rest h = ap (λ w. words_from (Some w) rest) (sym (append-nil word))
ink_more word (b ∷ bytes) rest h =
    let parts = and_parts (is_ink b) (list_all is_ink bytes) h in
    cond-false (b == 32) (word ∷ words_from None (bytes ++ rest)) (words_from (Some (word ++ b ∷ [])) (bytes ++ rest)) (ink_no_space b parts.0)
    ∙ ink_more (word ++ b ∷ []) bytes rest parts.1 ∙ ap (λ w. words_from (Some w) rest) (append_assoc word (b ∷ []) bytes)

pub ink_first : (bytes rest : List ℕ) → AreInk bytes → 0 < length bytes → words_from None (bytes ++ rest) ≡ words_from (Some bytes) rest
ink_first [] rest h some = absurd (omega arith)
ink_first (b ∷ bytes) rest h some =
    let parts = and_parts (is_ink b) (list_all is_ink bytes) h in
    cond-false (b == 32) (words_from None (bytes ++ rest)) (words_from (Some (b ∷ [])) (bytes ++ rest)) (ink_no_space b parts.0)
    ∙ ink_more (b ∷ []) bytes rest parts.1

-- ---- the rows of lines

-- what is at a place of a line is a plain byte, or the line's end
at_place : (text : List ℕ) (k : ℕ) → ArePlain text → k < length text → 32 ≤ slice_index (text ++ 10 ∷ []) k
at_place [] k h within = absurd (omega arith)
at_place (b ∷ text) zero h within = (plain_bounds b (and_parts (is_plain b) (list_all is_plain text) h).0).0
at_place (b ∷ text) (suc k) h within = at_place text k (and_parts (is_plain b) (list_all is_plain text) h).1 (omega arith)

last_at : (text : List ℕ) → ArePlain text → 0 < length text → 32 ≤ slice_index text (length text - 1)
last_at [] h some = absurd (omega arith)
last_at (b ∷ []) h some = (plain_bounds b (and_parts (is_plain b) true h).0).0
last_at (b ∷ c ∷ text) h some =
    let place : length (b ∷ c ∷ text) - 1 ≡ suc (length (c ∷ text) - 1) = omega arith in
    subst (λ j. 32 ≤ slice_index (b ∷ c ∷ text) j) (sym place) (last_at (c ∷ text) (and_parts (is_plain b) (list_all is_plain (c ∷ text)) h).1 (omega arith))

not_both : (x y : Bool) → y ≡ false → (x && y) ≡ false
not_both true y h = h
not_both false y h = refl

no_return : (text : List ℕ) → ArePlain text → no_cr text ≡ text
no_return [] h = refl
no_return (b ∷ text) h =
    let low = last_at (b ∷ text) h (omega arith) in
    let other : (slice_index (b ∷ text) (length (b ∷ text) - 1) == 13) ≡ false = ne_eqb (slice_index (b ∷ text) (length (b ∷ text) - 1)) 13 (λ e. absurd (omega (arith, e, low))) in
    cond-false (nat_lt 0 (length (b ∷ text)) && slice_index (b ∷ text) (length (b ∷ text) - 1) == 13) (take (length (b ∷ text) - 1) (b ∷ text)) (b ∷ text)
    (not_both (nat_lt 0 (length (b ∷ text))) (slice_index (b ∷ text) (length (b ∷ text) - 1) == 13) other)

feed_at : (text : List ℕ) → slice_index (text ++ 10 ∷ []) (length text) ≡ 10
feed_at [] = refl
feed_at (b ∷ text) = feed_at text

ended : (text : List ℕ) → ArePlain text → without_terminator (line text) ≡ text
ended text h =
    let all = length-append text (10 ∷ []) in
    let last : length (line text) - 1 ≡ length text = omega arith in
    let feed : slice_index (line text) (length (line text) - 1) ≡ 10 = ap (slice_index (line text)) last ∙ feed_at text in
    let long : 0 < length (line text) = omega arith in
    let some : nat_lt 0 (length (line text)) ≡ true = grind (arith, nat_tests) in
    let front : take (length (line text) - 1) (line text) ≡ text =
    ap (λ n. take n (line text)) last ∙ take-append-le (length text) text (10 ∷ []) (omega arith) ∙ take_all (length text) text (omega arith) in
    cond-true (nat_lt 0 (length (line text)) && slice_index (line text) (length (line text) - 1) == 10) (no_cr (take (length (line text) - 1) (line text))) (line text)
    (and_from (nat_lt 0 (length (line text))) (slice_index (line text) (length (line text) - 1) == 10) some (eq-eqb (slice_index (line text) (length (line text) - 1)) 10 feed))
    ∙ ap no_cr front ∙ no_return text h

lines_are : (text rest : List ℕ) → ArePlain text → lines_of (line text ++ rest) ≡ line text ∷ lines_of rest
lines_are text rest h =
    let all = length-append text (10 ∷ []) in
    let last : length (line text) - 1 ≡ length text = omega arith in
    lines-append (length (line text)) (line text) rest (omega arith) (inr (ap (slice_index (line text)) last ∙ feed_at text))
    ∙ ap (λ ls. ls ++ lines_of rest) (lines-one (line text) (omega arith) (λ k within e. let low = at_place text k h (omega arith) in absurd (omega (arith, e, low))))

-- one line, and those after it
pub row_of : (text rest : List ℕ) → ArePlain text → rows (line text ++ rest) ≡ words_from None text ∷ rows rest
row_of text rest h =
    ap (λ ls. map words (map without_terminator ls)) (lines_are text rest h)
    ∙ ap (λ l. words l ∷ rows rest) (ended text h) ∙ ap (λ ws. ws ∷ rows rest) (words_are text h)

pub no_rows : rows [] ≡ []
no_rows = ap (λ ls. map words (map without_terminator ls)) lines-nil
