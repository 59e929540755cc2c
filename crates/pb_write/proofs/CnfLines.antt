-- The lines of CNF that are written, and the words on them.
use Rattle.std.proofs.Common.{◌≡◌, ℕ, ◌<◌, ◌^◌, List, [], ◌∷◌, ◌++◌, Bool, true, false, not, cond, map, length, codes, decimal, append_assoc, refl, sym, ap, ◌∙◌, eqb, arith, Some}
use Rattle.std.specs.Prelude.{filter, flat_map}
use Rattle.std.specs.List.{list_all, AllByRecursion}
use Rattle.std.proofs.lemmas.Bool.{and_parts, and_from, and_right, or_parts, not-true, ne_eqb, false≢true}
use Rattle.pb_inst.specs.Literal.{Literal}
use Rattle.pb_read.specs.Runs.{first_is, runs}
use Rattle.pb_read.specs.Text.{is_blank, is_margin, is_digit, value, same_word, words, is_marked}
use Rattle.pb_read.specs.Clauses.{Word, Lit, word_of, whole_words}
use Rattle.pb_read.specs.Cnf.{Header, header_words}
use Rattle.pb_read.specs.declared.format.Format.TheVariants.{Cnf}
use Rattle.pb_read.proofs.WordCuts.{words_after_blanks}
use Rattle.pb_write.specs.Text.{cnf_literal, header_text, clause_text}
use Rattle.pb_write.proofs.Numerals.{IsNumeral, are_digits_of, decimal_numeral, digit_passes}
use Rattle.pb_write.proofs.Cutting.{joined, runs_front, is_line, line_after, no_feed}
use Rattle.pb_write.proofs.OpbWords.{digits_pass, digits_unfed}
use Rattle.pb_write.proofs.OpbLines.{unfed_both}

-- ---- words

abbrev is_ink : ℕ → Bool
is_ink b = not (is_blank b)

ink_joined : (w : List ℕ) → list_all is_ink w ≡ true → joined same_word w ≡ true
ink_joined [] h = refl
ink_joined (a ∷ []) h = refl
ink_joined (a ∷ b ∷ w) h =
    let p = and_parts (is_ink a) (list_all is_ink (b ∷ w)) h in
    let q = and_parts (is_ink b) (list_all is_ink w) p.1 in
    and_from (same_word a b) (joined same_word (b ∷ w)) (and_from (is_ink a) (is_ink b) p.0 q.0) (ink_joined (b ∷ w) p.1)

-- one or more bytes that are no blanks
record IsInk (w : List ℕ) : Type 0 where
  pub some : 0 < length w
  pub ink : list_all is_ink w ≡ true

first_ink : (w : List ℕ) → IsInk w → first_is is_blank w ≡ false
first_ink [] h = absurd (let some = h.some in omega arith)
first_ink (b ∷ bs) h = not-true (is_blank b) (and_parts (is_ink b) (list_all is_ink bs) h.ink).0

first_kept : (w : List ℕ) (rs : List (List ℕ)) → first_is is_blank w ≡ false → filter (λ r. not (first_is is_blank r)) (w ∷ rs) ≡ w ∷ filter (λ r. not (first_is is_blank r)) rs
first_kept w rs h = rw h refl

-- a word and a blank come first
word_front : (w rest : List ℕ) (y : ℕ) → IsInk w → is_ink y ≡ false → words (w ++ y ∷ rest) ≡ w ∷ words (y ∷ rest)
word_front w rest y h blank =
    ap (filter (λ r. not (first_is is_blank r))) (runs_front same_word w y rest h.some (ink_joined w h.ink) (λ b. and_right (is_ink b) (is_ink y) blank))
    ∙ first_kept w (runs same_word (y ∷ rest)) (first_ink w h)

next_word : (w rest : List ℕ) → IsInk w → words (w ++ 32 ∷ rest) ≡ w ∷ words rest
next_word w rest h = word_front w rest 32 h refl ∙ ap (λ (ws : List (List ℕ)). w ∷ ws) (sym (words_after_blanks (32 ∷ rest)) ∙ words_after_blanks rest)

digits_ink : (ds : List ℕ) → list_all is_digit ds ≡ true → list_all is_ink ds ≡ true
digits_ink ds h = digits_pass is_ink (digit_passes is_ink refl) ds h

numeral_ink : (n : ℕ) (ds : List ℕ) → IsNumeral n ds → IsInk ds
numeral_ink n [] h = absurd (false≢true h.first)
numeral_ink n (d ∷ ds) h = record { some = omega arith; ink = digits_ink (d ∷ ds) h.each }

-- ---- literals

-- the line begins with a byte that begins no comment and no end of the text
pub record IsContent (l : List ℕ) : Type 0 where
  pub no_end : is_marked 37 l ≡ false
  pub no_comment : is_marked 99 l ≡ false
  pub no_blank : list_all is_blank l ≡ false

content_first : (b : ℕ) (bs : List ℕ) → is_blank b ≡ false → eqb b 37 ≡ false → eqb b 99 ≡ false → IsContent (b ∷ bs)
content_first b bs ink no_end no_comment =
    let margin = (or_parts (is_margin b) (eqb b 10) ink).0 in
    record { no_end = rw margin no_end; no_comment = rw margin no_comment; no_blank = rw ink refl }

digit_content : (n : ℕ) (ds rest : List ℕ) → IsNumeral n ds → IsContent (ds ++ rest)
digit_content n [] rest h = absurd (false≢true h.first)
digit_content n (d ∷ ds) rest h =
    content_first d (ds ++ rest) (not-true (is_blank d) (digit_passes (λ b. not (is_blank b)) refl d h.first))
    (not-true (eqb d 37) (digit_passes (λ b. not (eqb b 37)) refl d h.first)) (not-true (eqb d 99) (digit_passes (λ b. not (eqb b 99)) refl d h.first))

-- the bytes are one word, the literal
record IsLiteral (l : Literal) (w : List ℕ) : Type 0 where
  pub ink : IsInk w
  pub unfed : list_all no_feed w ≡ true
  pub word : word_of w ≡ Lit l
  pub content : (rest : List ℕ) → IsContent (w ++ rest)

positive_word : (v : ℕ) (ds : List ℕ) → IsNumeral v ds → 0 < v → word_of ds ≡ Lit (record { var = v; positive = true })
positive_word v [] h some = absurd (false≢true h.first)
positive_word v (d ∷ ds) h some =
    let digits = are_digits_of v (d ∷ ds) h in
    let other = ne_eqb (value (d ∷ ds)) 0 (λ zero. (let is = h.value_is in omega arith)) in
    rw (digits, other) (ap (λ (n : ℕ). Lit (record { var = n; positive = true })) h.value_is)

negative_word : (v : ℕ) (ds : List ℕ) → IsNumeral v ds → 0 < v → word_of (45 ∷ ds) ≡ Lit (record { var = v; positive = false })
negative_word v ds h some =
    let digits = are_digits_of v ds h in
    let other = ne_eqb (value ds) 0 (λ zero. (let is = h.value_is in omega arith)) in
    rw (digits, other) (ap (λ (n : ℕ). Lit (record { var = n; positive = false })) h.value_is)

abbrev cnf_word : Bool → List ℕ → List ℕ
cnf_word sign ds = cond sign [] (codes "-") ++ ds

literal_by_sign : (sign : Bool) (v : ℕ) (ds : List ℕ) → IsNumeral v ds → 0 < v → IsLiteral (record { var = v; positive = sign }) (cnf_word sign ds)
literal_by_sign true v ds h some = record { ink = numeral_ink v ds h; unfed = digits_unfed ds h.each; word = positive_word v ds h some; content = λ rest. digit_content v ds rest h }
literal_by_sign false v ds h some = record {
  ink = record { some = omega arith; ink = digits_ink ds h.each };
  unfed = digits_unfed ds h.each;
  word = negative_word v ds h some;
  content = λ rest. content_first 45 (ds ++ rest) refl refl refl;
}

-- the literal is of a variable, whose number has digits
abbrev pub IsShort : Literal → Type 0
IsShort l = (0 < l.var) × (l.var < 10 ^ 64)

literal_word : (l : Literal) → IsShort l → IsLiteral l (cnf_word l.positive (decimal l.var))
literal_word l short = literal_by_sign l.positive l.var (decimal l.var) (decimal_numeral l.var short.1) short.0

-- ---- clauses

abbrev literals_text : List Literal → List ℕ
literals_text lits = flat_map cnf_literal lits

literal_regrouped : (w rest more : List ℕ) → ((w ++ codes " ") ++ rest) ++ more ≡ w ++ 32 ∷ (rest ++ more)
literal_regrouped w rest more = simp append_assoc

pub clause_words : (lits : List Literal) → AllByRecursion IsShort lits → map word_of (words (literals_text lits ++ 48 ∷ 10 ∷ [])) ≡ whole_words lits
clause_words [] h = refl
clause_words (l ∷ lits) h =
    let literal = literal_word l h.0 in
    ap (λ (t : List ℕ). map word_of (words t)) (literal_regrouped (cnf_word l.positive (decimal l.var)) (literals_text lits) (48 ∷ 10 ∷ []))
    ∙ ap (map word_of) (next_word (cnf_word l.positive (decimal l.var)) (literals_text lits ++ 48 ∷ 10 ∷ []) literal.ink)
    ∙ ap (λ (w : Word). w ∷ map word_of (words (literals_text lits ++ 48 ∷ 10 ∷ []))) literal.word
    ∙ ap (λ (ws : List Word). Lit l ∷ ws) (clause_words lits h.1)

literals_unfed : (lits : List Literal) → AllByRecursion IsShort lits → list_all no_feed (literals_text lits) ≡ true
literals_unfed [] h = refl
literals_unfed (l ∷ lits) h =
    let literal = literal_word l h.0 in
    unfed_both (cnf_literal l) (literals_text lits) (unfed_both (cnf_word l.positive (decimal l.var)) (codes " ") literal.unfed refl) (literals_unfed lits h.1)

pub clause_is_line : (lits : List Literal) → AllByRecursion IsShort lits → is_line (clause_text Cnf lits) ≡ true
clause_is_line lits h = line_after (literals_text lits) (codes "0\n") (literals_unfed lits h) refl

pub clause_content : (lits : List Literal) → AllByRecursion IsShort lits → IsContent (clause_text Cnf lits)
clause_content [] h = record { no_end = refl; no_comment = refl; no_blank = refl }
clause_content (l ∷ lits) h =
    rw (literal_regrouped (cnf_word l.positive (decimal l.var)) (literals_text lits) (codes "0\n"))
    ((literal_word l h.0).content (32 ∷ (literals_text lits ++ codes "0\n")))

-- ---- the header

abbrev pub cnf_header : ℕ → ℕ → List ℕ
cnf_header n m = header_text Cnf n m

header_regrouped : (n m : List ℕ) → (((codes "p cnf " ++ n) ++ codes " ") ++ m) ++ codes "\n" ≡ codes "p" ++ 32 ∷ (codes "cnf" ++ 32 ∷ (n ++ 32 ∷ (m ++ 10 ∷ [])))
header_regrouped n m = simp append_assoc

header_cut : (n m : List ℕ) → IsInk n → IsInk m → words (codes "p" ++ 32 ∷ (codes "cnf" ++ 32 ∷ (n ++ 32 ∷ (m ++ 10 ∷ [])))) ≡ codes "p" ∷ codes "cnf" ∷ n ∷ m ∷ []
header_cut n m h k =
    next_word (codes "p") (codes "cnf" ++ 32 ∷ (n ++ 32 ∷ (m ++ 10 ∷ []))) (record { some = omega arith; ink = refl })
    ∙ ap (λ (ws : List (List ℕ)). codes "p" ∷ ws) (next_word (codes "cnf") (n ++ 32 ∷ (m ++ 10 ∷ [])) (record { some = omega arith; ink = refl })
    ∙ ap (λ (ws : List (List ℕ)). codes "cnf" ∷ ws) (next_word n (m ++ 10 ∷ []) h ∙ ap (λ (ws : List (List ℕ)). n ∷ ws) (word_front m [] 10 k refl)))

numbers_read : (n m : ℕ) (ns ms : List ℕ) → IsNumeral n ns → IsNumeral m ms → header_words (codes "p" ∷ codes "cnf" ∷ ns ∷ ms ∷ []) ≡ Some (record { vars = n; clauses = m })
numbers_read n m ns ms h k =
    rw (are_digits_of n ns h, are_digits_of m ms k)
    (ap (λ (x : ℕ). Some (let y : Header = record { vars = x; clauses = value ms } in y)) h.value_is ∙ ap (λ (x : ℕ). Some (let y : Header = record { vars = n; clauses = x } in y)) k.value_is)

pub header_read : (n m : ℕ) → n < 10 ^ 64 → m < 10 ^ 64 → header_words (words (cnf_header n m)) ≡ Some (record { vars = n; clauses = m })
header_read n m small few =
    let vars = decimal_numeral n small in
    let clauses = decimal_numeral m few in
    ap (λ (t : List ℕ). header_words (words t)) (header_regrouped (decimal n) (decimal m))
    ∙ ap header_words (header_cut (decimal n) (decimal m) (numeral_ink n (decimal n) vars) (numeral_ink m (decimal m) clauses))
    ∙ numbers_read n m (decimal n) (decimal m) vars clauses

pub header_is_line : (n m : ℕ) → n < 10 ^ 64 → m < 10 ^ 64 → is_line (cnf_header n m) ≡ true
header_is_line n m small few =
    let vars = decimal_numeral n small in
    let clauses = decimal_numeral m few in
    line_after (((codes "p cnf " ++ decimal n) ++ codes " ") ++ decimal m) (codes "\n")
    (unfed_both ((codes "p cnf " ++ decimal n) ++ codes " ") (decimal m)
    (unfed_both (codes "p cnf " ++ decimal n) (codes " ") (unfed_both (codes "p cnf ") (decimal n) refl (digits_unfed (decimal n) vars.each)) refl) (digits_unfed (decimal m) clauses.each)) refl

pub header_content : (n m : ℕ) → IsContent (cnf_header n m)
header_content n m = record { no_end = refl; no_comment = refl; no_blank = refl }
