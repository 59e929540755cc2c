-- The words of OPB that are written, and the tokens that they are.
use Rattle.std.proofs.Common.{◌≡◌, ℕ, ◌<◌, ◌^◌, List, [], ◌∷◌, ◌++◌, Bool, true, false, not, cond, ◌&&◌, ◌||◌, map, length, decimal, codes, refl, sym, ap, ◌∙◌, eqb, arith, suc, ℤ, pos, negsuc, neg_ℤ, unsigned_abs}
use Rattle.std.specs.Prelude.{filter}
use Rattle.std.specs.List.{list_all}
use Rattle.std.specs.Fmt.{signed_decimal}
use Rattle.std.proofs.lemmas.Bool.{and_parts, and_from, and_left, and_right, or_from, or_parts, not-true, false≢true}
use Rattle.pb_inst.specs.declared.constraints.Relation.{Relation}
use Rattle.pb_inst.specs.declared.constraints.Relation.TheVariants.{AtLeast, AtMost, Equal}
use Rattle.pb_inst.specs.Literal.{Literal}
use Rattle.pb_read.specs.Runs.{first_is, runs}
use Rattle.pb_read.specs.Text.{is_blank, is_margin, is_digit, are_digits, value}
use Rattle.pb_read.specs.Opb.{Token, Min, Related, Number, Lit, is_word_byte, same_token, token_of, line_tokens, is_comment}
use Rattle.pb_read.proofs.TokenCuts.{skip_blanks}
use Rattle.pb_write.specs.Text.{opb_literal, relation_text}
use Rattle.pb_write.proofs.Numerals.{IsNumeral, are_digits_of, decimal_numeral, digit_passes}
use Rattle.pb_write.proofs.Cutting.{joined, runs_front, no_feed}

-- a byte after which a word goes on
abbrev pub is_plain : ℕ → Bool
is_plain b = is_word_byte b && not (eqb b 58)

plain_together : (a b : ℕ) → is_plain a ≡ true → is_plain b ≡ true → same_token a b ≡ true
plain_together a b h k =
    let p = and_parts (is_word_byte a) (not (eqb a 58)) h in
    let q = and_parts (is_word_byte b) (not (eqb b 58)) k in
    rw (p.0, q.0, p.1) refl

plain_joined : (w : List ℕ) → list_all is_plain w ≡ true → joined same_token w ≡ true
plain_joined [] h = refl
plain_joined (a ∷ []) h = refl
plain_joined (a ∷ b ∷ w) h =
    let p = and_parts (is_plain a) (list_all is_plain (b ∷ w)) h in
    let q = and_parts (is_plain b) (list_all is_plain w) p.1 in
    and_from (same_token a b) (joined same_token (b ∷ w)) (plain_together a b p.0 q.0) (plain_joined (b ∷ w) p.1)

-- a space goes with no byte
apart : (b : ℕ) → same_token b 32 ≡ false
apart b =
    or_from (is_word_byte b && is_word_byte 32 && not (eqb b 58)) ((eqb b 62 || eqb b 60) && eqb 32 61)
    (and_left (is_word_byte b && is_word_byte 32) (not (eqb b 58)) (and_right (is_word_byte b) (is_word_byte 32) refl))
    (and_right (eqb b 62 || eqb b 60) (eqb 32 61) refl)

-- the bytes are one word, the token, which begins no comment
pub record IsWord (w : List ℕ) (t : Token) : Type 0 where
  pub some : 0 < length w
  pub joined_is : joined same_token w ≡ true
  pub unblank : first_is is_blank w ≡ false
  pub unstarred : first_is (λ b. eqb b 42) w ≡ false
  pub unfed : list_all no_feed w ≡ true
  pub token : token_of w ≡ t

space : (rest : List ℕ) → line_tokens (32 ∷ rest) ≡ line_tokens rest
space rest = sym (skip_blanks (32 ∷ rest)) ∙ skip_blanks rest

first_kept : (w : List ℕ) (rs : List (List ℕ)) → first_is is_blank w ≡ false → map token_of (filter (λ r. not (first_is is_blank r)) (w ∷ rs)) ≡ token_of w ∷ map token_of (filter (λ r. not (first_is is_blank r)) rs)
first_kept w rs h = rw h refl

-- a word and a space come first
pub next_token : (w rest : List ℕ) (t : Token) → IsWord w t → line_tokens (w ++ 32 ∷ rest) ≡ t ∷ line_tokens rest
next_token w rest t h =
    ap (λ (rs : List (List ℕ)). map token_of (filter (λ r. not (first_is is_blank r)) rs)) (runs_front same_token w 32 rest h.some h.joined_is apart)
    ∙ first_kept w (runs same_token (32 ∷ rest)) h.unblank
    ∙ ap (λ (x : Token). x ∷ line_tokens (32 ∷ rest)) h.token
    ∙ ap (λ (ts : List Token). t ∷ ts) (space rest)

-- a line that begins with a word is no comment
pub no_comment : (w rest : List ℕ) (t : Token) → IsWord w t → is_comment (w ++ rest) ≡ false
no_comment [] rest t h = absurd (let some = h.some in omega arith)
no_comment (b ∷ bs) rest t h =
    let margin = or_parts (is_margin b) (eqb b 10) h.unblank in
    rw margin.0 h.unstarred

-- ---- numbers

pub digits_pass : (test : ℕ → Bool) → ((b : ℕ) → is_digit b ≡ true → test b ≡ true) → (ds : List ℕ) → list_all is_digit ds ≡ true → list_all test ds ≡ true
digits_pass test each [] h = refl
digits_pass test each (d ∷ ds) h =
    let p = and_parts (is_digit d) (list_all is_digit ds) h in
    and_from (test d) (list_all test ds) (each d p.0) (digits_pass test each ds p.1)

digits_plain : (ds : List ℕ) → list_all is_digit ds ≡ true → list_all is_plain ds ≡ true
digits_plain ds h = digits_pass is_plain (digit_passes is_plain refl) ds h

pub digits_unfed : (ds : List ℕ) → list_all is_digit ds ≡ true → list_all no_feed ds ≡ true
digits_unfed ds h = digits_pass no_feed (digit_passes no_feed refl) ds h

number_token : (d : ℕ) (ds : List ℕ) → is_digit d ≡ true → list_all is_digit ds ≡ true → token_of (d ∷ ds) ≡ Number (pos (value (d ∷ ds)))
unfolding token_of
number_token d ds t h = rw (
  not-true (eqb d 59) (digit_passes (λ b. not (eqb b 59)) refl d t),
  not-true (eqb d 62) (digit_passes (λ b. not (eqb b 62)) refl d t),
  not-true (eqb d 60) (digit_passes (λ b. not (eqb b 60)) refl d t),
  not-true (eqb d 61) (digit_passes (λ b. not (eqb b 61)) refl d t),
  not-true (eqb d 109) (digit_passes (λ b. not (eqb b 109)) refl d t),
  not-true (eqb d 43) (digit_passes (λ b. not (eqb b 43)) refl d t),
  not-true (eqb d 45) (digit_passes (λ b. not (eqb b 45)) refl d t),
  not-true (eqb d 120) (digit_passes (λ b. not (eqb b 120)) refl d t),
  not-true (eqb d 126) (digit_passes (λ b. not (eqb b 126)) refl d t),
  t,
  h,
) refl

numeral_word : (n : ℕ) (ds : List ℕ) → IsNumeral n ds → IsWord ds (Number (pos n))
numeral_word n [] h = absurd (false≢true h.first)
numeral_word n (d ∷ ds) h =
    let p = and_parts (is_digit d) (list_all is_digit ds) h.each in
    record {
      some = omega arith;
      joined_is = plain_joined (d ∷ ds) (digits_plain (d ∷ ds) h.each);
      unblank = not-true (is_blank d) (digit_passes (λ b. not (is_blank b)) refl d p.0);
      unstarred = not-true (eqb d 42) (digit_passes (λ b. not (eqb b 42)) refl d p.0);
      unfed = digits_unfed (d ∷ ds) h.each;
      token = number_token d ds p.0 p.1 ∙ ap (λ (v : ℕ). Number (pos v)) h.value_is;
    }

negative_token : (ds : List ℕ) → are_digits ds ≡ true → token_of (45 ∷ ds) ≡ Number (neg_ℤ (pos (value ds)))
unfolding token_of
negative_token ds h = rw h refl

negative_word : (n : ℕ) (ds : List ℕ) → IsNumeral n ds → IsWord (45 ∷ ds) (Number (neg_ℤ (pos n)))
negative_word n ds h = record {
  some = omega arith;
  joined_is = plain_joined (45 ∷ ds) (digits_plain ds h.each);
  unblank = refl;
  unstarred = refl;
  unfed = digits_unfed ds h.each;
  token = negative_token ds (are_digits_of n ds h) ∙ ap (λ (v : ℕ). Number (neg_ℤ (pos v))) h.value_is;
}

pub number_word : (z : ℤ) → unsigned_abs z < 10 ^ 64 → IsWord (signed_decimal z) (Number z)
number_word (pos n) small = numeral_word n (decimal n) (decimal_numeral n small)
number_word (negsuc n) small = negative_word (suc n) (decimal (suc n)) (decimal_numeral (suc n) small)

-- ---- literals and the other words

positive_token : (ds : List ℕ) → are_digits ds ≡ true → token_of (120 ∷ ds) ≡ Lit (record { var = value ds; positive = true })
unfolding token_of
positive_token ds h = rw h refl

negated_token : (ds : List ℕ) → are_digits ds ≡ true → token_of (126 ∷ 120 ∷ ds) ≡ Lit (record { var = value ds; positive = false })
unfolding token_of
negated_token ds h = rw h refl

signed_word : (sign : Bool) (v : ℕ) (ds : List ℕ) → IsNumeral v ds → IsWord (cond sign (codes "x") (codes "~x") ++ ds) (Lit (record { var = v; positive = sign }))
signed_word true v ds h = record {
  some = omega arith;
  joined_is = plain_joined (120 ∷ ds) (digits_plain ds h.each);
  unblank = refl;
  unstarred = refl;
  unfed = digits_unfed ds h.each;
  token = positive_token ds (are_digits_of v ds h) ∙ ap (λ (n : ℕ). Lit (record { var = n; positive = true })) h.value_is;
}
signed_word false v ds h = record {
  some = omega arith;
  joined_is = plain_joined (126 ∷ 120 ∷ ds) (digits_plain ds h.each);
  unblank = refl;
  unstarred = refl;
  unfed = digits_unfed ds h.each;
  token = negated_token ds (are_digits_of v ds h) ∙ ap (λ (n : ℕ). Lit (record { var = n; positive = false })) h.value_is;
}

pub literal_word : (l : Literal) → l.var < 10 ^ 64 → IsWord (opb_literal l) (Lit l)
literal_word l small = signed_word l.positive l.var (decimal l.var) (decimal_numeral l.var small)

pub relation_word : (r : Relation) → IsWord (relation_text r) (Related r)
unfolding token_of
relation_word AtLeast = record { some = omega arith; joined_is = refl; unblank = refl; unstarred = refl; unfed = refl; token = refl }
relation_word AtMost = record { some = omega arith; joined_is = refl; unblank = refl; unstarred = refl; unfed = refl; token = refl }
relation_word Equal = record { some = omega arith; joined_is = refl; unblank = refl; unstarred = refl; unfed = refl; token = refl }

pub objective_word : IsWord (codes "min:") Min
unfolding token_of
objective_word = record { some = omega arith; joined_is = refl; unblank = refl; unstarred = refl; unfed = refl; token = refl }
