-- The first token of a line's bytes, cut off by its first byte, and the value of digits.
use Rattle.std.proofs.Common.{◌≡◌, ℕ, ◌+◌, ◌*◌, ◌-◌, ◌≤◌, ◌<◌, refl, sym, ap, subst, ◌∙◌, List, [], ◌∷◌, ◌++◌, Bool, true, false, not, cond, ◌&&◌, ◌||◌, map, length, take, drop, get_or, min, arith, one-add, eqb, leb, inl, inr, Some, None}
use Rattle.std.specs.Prelude.{take_while, codes}
use Rattle.std.specs.List.{list_all}
use Rattle.std.specs.Int.Digits.{number_from_digits_after}
use Rattle.std.proofs.lemmas.Bool.{cases_Bool, and_parts, or_cases, or_parts, or_from, ne_eqb, eqb-true, eq-eqb, leb-true, false≢true, not-true}
use Rattle.std.proofs.lemmas.List.{append-nil, nil_from_length, take-append-drop}
use Rattle.std.proofs.Math.Seq.{take-length}
use Rattle.pb_read.specs.Runs.{first_is, runs, skip_while}
use Rattle.pb_read.proofs.Headers.{front_digits}
use Rattle.pb_read.specs.Text.{is_blank, is_digit, are_digits, value}
use Rattle.pb_read.specs.declared.opb.token.Token as code
use Rattle.pb_inst.specs.declared.constraints.Relation.TheVariants.{AtLeast, AtMost}
use lib.Pointwise.{pointwise}
use Rattle.pb_read.specs.Capped.{cap, cap_count, capped}
use Rattle.pb_read.specs.TokenCuts.{word_front, after_word, value_after, sign_token, after_sign}
use Rattle.pb_read.specs.Opb.{Token, Min, Related, Bad, is_sign, is_word_byte, same_token, token_of, line_tokens}

-- ---- digits

-- a number cut off at a limit, and cut off again after more digits
cut_step : (limit n d : ℕ) → min (min n limit * 10 + d) limit ≡ min (n * 10 + d) limit
cut_step limit n d = omega arith

cut_after : (limit n : ℕ) (ds : List ℕ) → min (number_from_digits_after 10 (min n limit) ds) limit ≡ min (number_from_digits_after 10 n ds) limit
cut_after limit n [] = omega arith
cut_after limit n (d ∷ ds) =
    sym (cut_after limit (min n limit * 10 + d) ds) ∙ ap (λ (m : ℕ). min (number_from_digits_after 10 m ds) limit) (cut_step limit n d) ∙ cut_after limit (n * 10 + d) ds

pub value_digit : (n b : ℕ) (after : List ℕ) → is_digit b ≡ true → value_after n (b ∷ after) ≡ value_after (n * 10 + (b - 48)) after
value_digit n b after t = rw (t, one-add) refl

pub value_digit_cut : (limit n m b : ℕ) (after : List ℕ) → is_digit b ≡ true → m ≡ min (n * 10 + (b - 48)) limit → min (value_after n (b ∷ after)) limit ≡ min (value_after m after) limit
value_digit_cut limit n m b after t e =
    ap (λ (x : ℕ). min x limit) (value_digit n b after t) ∙ sym (cut_after limit (n * 10 + (b - 48)) (map (λ d. d - 48) (take_while is_digit after))) ∙ ap (λ (x : ℕ). min (value_after x after) limit) (sym e)

-- no digit comes next
pub value_end : (n : ℕ) (rest : List ℕ) → is_digit (get_or rest 0 0) ≡ false → value_after n rest ≡ n
value_end n [] h = refl
value_end n (b ∷ bs) h = rw h refl

pub value_nil : (n : ℕ) (rest : List ℕ) → length rest < 1 → value_after n rest ≡ n
value_nil n [] h = refl
value_nil n (b ∷ bs) h = absurd (omega arith)

digit_range : (b : ℕ) → is_digit b ≡ true → (48 ≤ b) × (b ≤ 57)
digit_range b t = let p = and_parts (leb 48 b) (leb b 57) t in (leb-true 48 b p.0, leb-true b 57 p.1)

differs : (b k : ℕ) → (b ≡ k → ⊥) → eqb b k ≡ false
differs b k ne = ne_eqb b k ne

digit_word : (b : ℕ) → is_digit b ≡ true → is_word_byte b ≡ true
digit_word b t =
    let r = digit_range b t in
    rw (
      differs b 32 (λ e. absurd (omega (arith, e, r.0))),
      differs b 9 (λ e. absurd (omega (arith, e, r.0))),
      differs b 13 (λ e. absurd (omega (arith, e, r.0))),
      differs b 10 (λ e. absurd (omega (arith, e, r.0))),
      differs b 59 (λ e. absurd (omega (arith, e, r.1))),
      differs b 62 (λ e. absurd (omega (arith, e, r.1))),
      differs b 60 (λ e. absurd (omega (arith, e, r.1))),
      differs b 61 (λ e. absurd (omega (arith, e, r.1))),
    ) refl

digit_no_colon : (b : ℕ) → is_digit b ≡ true → eqb b 58 ≡ false
digit_no_colon b t = let r = digit_range b t in differs b 58 (λ e. absurd (omega (arith, e, r.1)))

-- digits belong to the word
pub front_from_digits : (bs : List ℕ) → word_front bs ≡ take_while is_digit bs ++ word_front (skip_while is_digit bs)
front_from_digits [] = refl
front_from_digits (b ∷ bs) = elim (cases_Bool (is_digit b)) [
  | inl t ↦ rw (t, one-add, digit_word b t, digit_no_colon b t) (ap (λ (x : List ℕ). b ∷ x) (front_from_digits bs))
  | inr f ↦ rw f refl
]

pub after_digits : (bs : List ℕ) → after_word bs ≡ after_word (skip_while is_digit bs)
after_digits [] = refl
after_digits (b ∷ bs) = elim (cases_Bool (is_digit b)) [
  | inl t ↦ rw (t, digit_word b t, digit_no_colon b t) (after_digits bs)
  | inr f ↦ rw f refl
]

pub skip_first : (test : ℕ → Bool) (bs : List ℕ) → first_is test (skip_while test bs) ≡ false
skip_first test [] = refl
skip_first test (b ∷ bs) = elim (cases_Bool (test b)) [ inl t ↦ rw t (skip_first test bs) | inr f ↦ rw (f, f) refl ]

front_length : (bs : List ℕ) → length (word_front bs) + length (after_word bs) ≡ length bs
front_length [] = refl
front_length (b ∷ bs) = elim (cases_Bool (is_word_byte b)) [
  | inl w ↦ elim (cases_Bool (eqb b 58)) [
    | inl c ↦ rw (w, c) (omega arith)
    | inr d ↦ rw (w, d) (omega (arith, front_length bs))
  ]
  | inr n ↦ rw n (omega arith)
]

skip_digit : (b : ℕ) (bs : List ℕ) → is_digit b ≡ true → skip_while is_digit (b ∷ bs) ≡ skip_while is_digit bs
skip_digit b bs t = rw t refl

skip_other : (b : ℕ) (bs : List ℕ) → is_digit b ≡ false → skip_while is_digit (b ∷ bs) ≡ b ∷ bs
skip_other b bs f = rw f refl

skip_length : (bs : List ℕ) → length (skip_while is_digit bs) ≤ length bs
skip_length [] = omega arith
skip_length (b ∷ bs) = elim (cases_Bool (is_digit b)) [
  | inl t ↦ omega (arith, ap length (skip_digit b bs t), skip_length bs)
  | inr f ↦ omega (arith, ap length (skip_other b bs f))
]

-- all bytes are digits
record AllDigits (ds : List ℕ) : Type 0 where
  pub each : list_all is_digit ds ≡ true
  pub whole : take_while is_digit ds ≡ ds

all_digits : (ds : List ℕ) → skip_while is_digit ds ≡ [] → AllDigits ds
all_digits [] h = record { each = refl; whole = refl }
all_digits (d ∷ ds) h = elim (cases_Bool (is_digit d)) [
  | inl t ↦ let a = all_digits ds (sym (skip_digit d ds t) ∙ h) in record { each = rw t (a.each); whole = rw (t, one-add) (ap (λ (x : List ℕ). d ∷ x) a.whole) }
  | inr f ↦ absurd (omega (arith, ap length (sym (skip_other d ds f) ∙ h)))
]

-- the whole is a number
pub number_of_all : (v : ℕ) (ds : List ℕ) → 0 < length ds → skip_while is_digit ds ≡ [] → v ≡ cap_count (value_after 0 ds) → Some v ≡ cond (are_digits ds) (Some (cap_count (value ds))) None
number_of_all v [] some h e = absurd (omega arith)
number_of_all v (d ∷ ds) some h e =
    let a = all_digits (d ∷ ds) h in
    let p = and_parts (is_digit d) (list_all is_digit ds) a.each in
    let same : v ≡ cap_count (value (d ∷ ds)) = e ∙ ap (λ (x : List ℕ). cap_count (value x)) a.whole in
    rw (p.0, p.1, same) refl

not_all : (ds : List ℕ) → 0 < length (skip_while is_digit ds) → list_all is_digit ds ≡ false
not_all [] h = absurd (omega arith)
not_all (d ∷ ds) h = elim (cases_Bool (is_digit d)) [
  | inl t ↦ rw t (not_all ds (omega (arith, h, ap length (skip_digit d ds t))))
  | inr f ↦ rw f refl
]

and_false : (b : Bool) → (b && false) ≡ false
and_false true = refl
and_false false = refl

-- something else comes after the digits
pub number_of_part : (ds : List ℕ) → 0 < length (skip_while is_digit ds) → None ≡ cond (are_digits ds) (Some (cap_count (value ds))) None
number_of_part ds h = rw (not_all ds h, and_false (first_is is_digit ds)) refl

-- ---- the digits of a word

after_first : (b : ℕ) (bs : List ℕ) → is_word_byte b ≡ false → after_word (b ∷ bs) ≡ b ∷ bs
after_first b bs n = rw n refl

all_then : (xs : List ℕ) (y : ℕ) (ys : List ℕ) → is_digit y ≡ false → list_all is_digit (xs ++ y ∷ ys) ≡ false
all_then [] y ys f = rw f refl
all_then (x ∷ xs) y ys f = rw (all_then xs y ys f) (and_false (is_digit x))

word_first : (b : ℕ) (bs : List ℕ) → is_word_byte b ≡ true → (x : List ℕ) × (word_front (b ∷ bs) ≡ b ∷ x)
word_first b bs w = (cond (eqb b 58) [] (word_front bs), rw w refl)

-- the word goes on after its digits
pub goes_on : (bs : List ℕ) → length (after_word (skip_while is_digit bs)) < length (skip_while is_digit bs) → None ≡ cond (are_digits (word_front bs)) (Some (cap (value (word_front bs)))) None
goes_on bs h = by (skip_while is_digit bs) refl
  where
    by : (r : List ℕ) → r ≡ skip_while is_digit bs → None ≡ cond (are_digits (word_front bs)) (Some (cap (value (word_front bs)))) None
    by [] e = absurd (omega (arith, h, ap length e, ap (λ (x : List ℕ). length (after_word x)) e))
    by (y ∷ ys) e = elim (cases_Bool (is_word_byte y)) [
      | inl w ↦
          let other : is_digit y ≡ false = ap (first_is is_digit) e ∙ skip_first is_digit bs in
          let x = word_first y ys w in
          let whole : word_front bs ≡ take_while is_digit bs ++ y ∷ x.0 = front_from_digits bs ∙ ap (λ (r : List ℕ). take_while is_digit bs ++ word_front r) (sym e) ∙ ap (λ (r : List ℕ). take_while is_digit bs ++ r) x.1 in
          rw (whole, all_then (take_while is_digit bs) y x.0 other, and_false (first_is is_digit (take_while is_digit bs ++ y ∷ x.0))) refl
      | inr n ↦ absurd (omega (arith, h, ap length e, ap (λ (x : List ℕ). length (after_word x)) e, ap length (after_first y ys n)))
    ]

first_of_word : (b : ℕ) (bs : List ℕ) → is_digit b ≡ false → first_is is_digit (word_front (b ∷ bs)) ≡ false
first_of_word b bs f = elim (cases_Bool (is_word_byte b)) [ inl w ↦ rw (w, f) refl | inr n ↦ rw n refl ]

-- the word begins with no digit
pub no_digits : (bs : List ℕ) → length (skip_while is_digit bs) ≡ length bs → None ≡ cond (are_digits (word_front bs)) (Some (cap (value (word_front bs)))) None
no_digits [] h = refl
no_digits (b ∷ bs) h = elim (cases_Bool (is_digit b)) [
  | inl t ↦ absurd (omega (arith, h, ap length (skip_digit b bs t), skip_length bs))
  | inr f ↦ rw (first_of_word b bs f) refl
]

digits_first : (bs : List ℕ) → length (skip_while is_digit bs) < length bs → first_is is_digit bs ≡ true
digits_first [] h = absurd (omega arith)
digits_first (b ∷ bs) h = elim (cases_Bool (is_digit b)) [
  | inl t ↦ t
  | inr f ↦ absurd (omega (arith, h, ap length (skip_other b bs f)))
]

-- the word is digits
pub word_is_digits : (v : ℕ) (bs : List ℕ) → length (skip_while is_digit bs) ≤ length (after_word (skip_while is_digit bs)) → (length (skip_while is_digit bs) ≡ length bs → ⊥) → v ≡ cap (value_after 0 bs)
    → Some v ≡ cond (are_digits (word_front bs)) (Some (cap (value (word_front bs)))) None
word_is_digits v bs ends some e =
    let none : word_front (skip_while is_digit bs) ≡ [] = nil_from_length (word_front (skip_while is_digit bs)) (omega (arith, ends, front_length (skip_while is_digit bs))) in
    let front : word_front bs ≡ take_while is_digit bs = front_from_digits bs ∙ ap (λ (r : List ℕ). take_while is_digit bs ++ r) none ∙ append-nil (take_while is_digit bs) in
    let digits : are_digits (take_while is_digit bs) ≡ true = front_digits bs ∙ digits_first bs (omega (arith, skip_length bs, some)) in
    rw (front, digits, e) refl

-- ---- the word `min:`

same_bytes : (xs ys : List ℕ) → pointwise eqb xs ys ≡ true → xs ≡ ys
same_bytes [] [] h = refl
same_bytes [] (y ∷ ys) h = absurd (false≢true h)
same_bytes (x ∷ xs) [] h = absurd (false≢true h)
same_bytes (x ∷ xs) (y ∷ ys) h =
    let p = and_parts (eqb x y) (pointwise eqb xs ys) h in
    ap (λ (n : ℕ). n ∷ xs) (eqb-true x y p.0) ∙ ap (λ (l : List ℕ). y ∷ l) (same_bytes xs ys p.1)

-- what the front of the word is, the bytes begin with
front_begins : (after text : List ℕ) → word_front after ≡ text → take (length text) after ≡ text
front_begins [] text e = ap (λ (t : List ℕ). take (length t) []) (sym e) ∙ e
front_begins (b ∷ bs) text e = elim (cases_Bool (is_word_byte b)) [
  | inl w ↦ elim (cases_Bool (eqb b 58)) [
    | inl c ↦ let is : b ∷ [] ≡ text = sym (front_colon b bs w c) ∙ e in rw (← is) refl
    | inr d ↦ let is : b ∷ word_front bs ≡ text = sym (front_more b bs w d) ∙ e in rw (← is) (ap (λ (x : List ℕ). b ∷ x) (front_begins bs (word_front bs) refl))
  ]
  | inr n ↦ let is : [] ≡ text = sym (front_none b bs n) ∙ e in rw (← is) refl
]
  where
    front_colon : (b : ℕ) (bs : List ℕ) → is_word_byte b ≡ true → eqb b 58 ≡ true → word_front (b ∷ bs) ≡ b ∷ []
    front_colon b bs w c = rw (w, c) refl

    front_more : (b : ℕ) (bs : List ℕ) → is_word_byte b ≡ true → eqb b 58 ≡ false → word_front (b ∷ bs) ≡ b ∷ word_front bs
    front_more b bs w c = rw (w, c) refl

    front_none : (b : ℕ) (bs : List ℕ) → is_word_byte b ≡ false → word_front (b ∷ bs) ≡ []
    front_none b bs n = rw n refl

pub no_objective_word : (after text : List ℕ) → text ≡ codes "in:" → pointwise eqb (take (length text) after) text ≡ false → token_of (109 ∷ word_front after) ≡ Bad
unfolding token_of
no_objective_word after text is differs = elim (cases_Bool (pointwise eqb (word_front after) (codes "in:"))) [
  | inl same ↦
      let front : word_front after ≡ text = same_bytes (word_front after) (codes "in:") same ∙ sym is in
      absurd (false≢true (sym differs ∙ ap (λ (x : List ℕ). pointwise eqb x text) (front_begins after text front) ∙ itself text))
  | inr other ↦ rw other refl
]
  where
    itself : (xs : List ℕ) → pointwise eqb xs xs ≡ true
    itself [] = refl
    itself (x ∷ xs) = rw (eq-eqb x x refl, itself xs) refl

-- the bytes after `m` go on as those of `min:`
pub record IsObjectiveWord (after rest : List ℕ) : Type 0 where
  pub token : token_of (109 ∷ word_front after) ≡ Min
  pub rest_is : after_word after ≡ rest

pub objective_word_is : (after rest text : List ℕ) → text ≡ codes "in:" → pointwise eqb (take (length text) after) text ≡ true → rest ≡ drop (length text) after → IsObjectiveWord after rest
unfolding token_of
objective_word_is after rest text is same left =
    let begins : take (length text) after ≡ codes "in:" = same_bytes (take (length text) after) text same ∙ is in
    let whole : after ≡ codes "in:" ++ rest = sym (take-append-drop (length text) after) ∙ ap (λ (x : List ℕ). x ++ drop (length text) after) begins ∙ ap (λ (x : List ℕ). codes "in:" ++ x) (sym left) in
    rw whole (record { token = refl; rest_is = refl })

-- ---- blanks

blank_cases : (P : ℕ → Type 0) → P 32 → P 9 → P 13 → P 10 → (b : ℕ) → is_blank b ≡ true → P b
blank_cases P p32 p9 p13 p10 b h = elim (or_cases ((eqb b 32 || eqb b 9) || eqb b 13) (eqb b 10) h) [
  | inl first ↦ elim (or_cases (eqb b 32 || eqb b 9) (eqb b 13) first) [
    | inl two ↦ elim (or_cases (eqb b 32) (eqb b 9) two) [
      | inl space ↦ subst P (sym (eqb-true b 32 space)) p32
      | inr tab ↦ subst P (sym (eqb-true b 9 tab)) p9
    ]
    | inr return ↦ subst P (sym (eqb-true b 13 return)) p13
  ]
  | inr feed ↦ subst P (sym (eqb-true b 10 feed)) p10
]

space : (bs : List ℕ) → line_tokens (32 ∷ bs) ≡ line_tokens bs
space [] = refl
space (b ∷ bs) = refl

tab : (bs : List ℕ) → line_tokens (9 ∷ bs) ≡ line_tokens bs
tab [] = refl
tab (b ∷ bs) = refl

return : (bs : List ℕ) → line_tokens (13 ∷ bs) ≡ line_tokens bs
return [] = refl
return (b ∷ bs) = refl

feed : (bs : List ℕ) → line_tokens (10 ∷ bs) ≡ line_tokens bs
feed [] = refl
feed (b ∷ bs) = refl

blank_first : (b : ℕ) (bs : List ℕ) → is_blank b ≡ true → line_tokens (b ∷ bs) ≡ line_tokens bs
blank_first b bs h = blank_cases (λ (x : ℕ). line_tokens (x ∷ bs) ≡ line_tokens bs) (space bs) (tab bs) (return bs) (feed bs) b h

-- blanks are no tokens
pub skip_blanks : (bs : List ℕ) → line_tokens (skip_while is_blank bs) ≡ line_tokens bs
skip_blanks [] = refl
skip_blanks (b ∷ bs) = elim (cases_Bool (is_blank b)) [
  | inl t ↦ ap line_tokens (skips b bs t) ∙ skip_blanks bs ∙ sym (blank_first b bs t)
  | inr f ↦ ap line_tokens (stops b bs f)
]
  where
    skips : (b : ℕ) (bs : List ℕ) → is_blank b ≡ true → skip_while is_blank (b ∷ bs) ≡ skip_while is_blank bs
    skips b bs t = rw t refl

    stops : (b : ℕ) (bs : List ℕ) → is_blank b ≡ false → skip_while is_blank (b ∷ bs) ≡ b ∷ bs
    stops b bs f = rw f refl

pub no_tokens : (bytes whole : List ℕ) → whole ≡ skip_while is_blank bytes → length whole < 1 → line_tokens bytes ≡ []
no_tokens bytes whole e short = sym (skip_blanks bytes) ∙ ap line_tokens (sym e ∙ nil_from_length whole (omega (arith, short)))

-- ---- signs

semicolon : (rest : List ℕ) → line_tokens (59 ∷ rest) ≡ sign_token 59 rest ∷ line_tokens (after_sign 59 rest)
unfolding token_of
semicolon [] = refl
semicolon (b ∷ bs) = refl

equal : (rest : List ℕ) → line_tokens (61 ∷ rest) ≡ sign_token 61 rest ∷ line_tokens (after_sign 61 rest)
unfolding token_of
equal [] = refl
equal (b ∷ bs) = refl

at_least : (rest : List ℕ) → line_tokens (62 ∷ 61 ∷ rest) ≡ Related AtLeast ∷ line_tokens rest
unfolding token_of
at_least [] = refl
at_least (b ∷ bs) = refl

at_most : (rest : List ℕ) → line_tokens (60 ∷ 61 ∷ rest) ≡ Related AtMost ∷ line_tokens rest
unfolding token_of
at_most [] = refl
at_most (b ∷ bs) = refl

greater : (rest : List ℕ) → line_tokens (62 ∷ rest) ≡ sign_token 62 rest ∷ line_tokens (after_sign 62 rest)
unfolding token_of
greater [] = refl
greater (b ∷ bs) = elim (cases_Bool (eqb b 61)) [
  | inl t ↦ rw (eqb-true b 61 t) (at_least bs)
  | inr f ↦ rw f refl
]

less : (rest : List ℕ) → line_tokens (60 ∷ rest) ≡ sign_token 60 rest ∷ line_tokens (after_sign 60 rest)
unfolding token_of
less [] = refl
less (b ∷ bs) = elim (cases_Bool (eqb b 61)) [
  | inl t ↦ rw (eqb-true b 61 t) (at_most bs)
  | inr f ↦ rw f refl
]

sign_first : (b : ℕ) (rest : List ℕ) → is_sign b ≡ true → line_tokens (b ∷ rest) ≡ sign_token b rest ∷ line_tokens (after_sign b rest)
sign_first b rest h =
    let P : ℕ → Type 0 = λ x. line_tokens (x ∷ rest) ≡ sign_token x rest ∷ line_tokens (after_sign x rest) in
    elim (or_cases ((eqb b 59 || eqb b 62) || eqb b 60) (eqb b 61) h) [
      | inl three ↦ elim (or_cases (eqb b 59 || eqb b 62) (eqb b 60) three) [
        | inl two ↦ elim (or_cases (eqb b 59) (eqb b 62) two) [
          | inl t ↦ subst P (sym (eqb-true b 59 t)) (semicolon rest)
          | inr t ↦ subst P (sym (eqb-true b 62 t)) (greater rest)
        ]
        | inr t ↦ subst P (sym (eqb-true b 60 t)) (less rest)
      ]
      | inr t ↦ subst P (sym (eqb-true b 61 t)) (equal rest)
    ]

-- ---- words

record WordByte (b : ℕ) : Type 0 where
  pub no_blank : is_blank b ≡ false
  pub no_relation : (eqb b 62 || eqb b 60) ≡ false

word_byte : (b : ℕ) → is_word_byte b ≡ true → WordByte b
word_byte b w =
    let p = or_parts (is_blank b) (is_sign b) (not-true (is_blank b || is_sign b) w) in
    let q = or_parts ((eqb b 59 || eqb b 62) || eqb b 60) (eqb b 61) p.1 in
    let r = or_parts (eqb b 59 || eqb b 62) (eqb b 60) q.0 in
    let s = or_parts (eqb b 59) (eqb b 62) r.0 in
    record { no_blank = p.0; no_relation = or_from (eqb b 62) (eqb b 60) s.1 r.1 }

same_word_byte : (b y : ℕ) → is_word_byte b ≡ true → same_token b y ≡ (is_word_byte y && not (eqb b 58))
same_word_byte b y w = rw (w, (word_byte b w).no_relation) (or_false (is_word_byte y && not (eqb b 58)))
  where
    or_false : (x : Bool) → (x || false) ≡ x
    or_false true = refl
    or_false false = refl

-- the first run of the bytes is the word
cut_word : (b : ℕ) (bs : List ℕ) → is_word_byte b ≡ true → runs same_token (b ∷ bs) ≡ word_front (b ∷ bs) ∷ runs same_token (after_word (b ∷ bs))
cut_word b [] w = elim (cases_Bool (eqb b 58)) [ inl c ↦ rw (w, c) refl | inr d ↦ rw (w, d) refl ]
cut_word b (y ∷ ys) w = elim (cases_Bool (eqb b 58)) [
  | inl c ↦ let apart : same_token b y ≡ false = same_word_byte b y w ∙ ap (λ (x : Bool). is_word_byte y && not x) c ∙ and_false (is_word_byte y) in rw (apart, w, c) refl
  | inr d ↦ elim (cases_Bool (is_word_byte y)) [
    | inl v ↦
        let together : same_token b y ≡ true = same_word_byte b y w ∙ ap (λ (x : Bool). x && not (eqb b 58)) v ∙ ap not d in
        rw (together, cut_word y ys v) (joined b y ys w d)
    | inr n ↦ let apart : same_token b y ≡ false = same_word_byte b y w ∙ ap (λ (x : Bool). x && not (eqb b 58)) n in rw (apart, w, d, n) refl
  ]
]
  where
    joined : (b y : ℕ) (ys : List ℕ) → is_word_byte b ≡ true → eqb b 58 ≡ false → (b ∷ word_front (y ∷ ys)) ∷ runs same_token (after_word (y ∷ ys)) ≡ word_front (b ∷ y ∷ ys) ∷ runs same_token (after_word (b ∷ y ∷ ys))
    joined b y ys w d = rw (w, d) refl

word_tokens : (b : ℕ) (bs : List ℕ) → is_word_byte b ≡ true → line_tokens (b ∷ bs) ≡ token_of (word_front (b ∷ bs)) ∷ line_tokens (after_word (b ∷ bs))
word_tokens b bs w =
    let kept : first_is is_blank (word_front (b ∷ bs)) ≡ false = ap (first_is is_blank) (word_first b bs w).1 ∙ (word_byte b w).no_blank in
    rw (cut_word b bs w, kept) refl

-- ---- the next token

pub next_word : (bytes whole rest : List ℕ) (token : code.Token) → whole ≡ skip_while is_blank bytes → 1 ≤ length whole → is_word_byte (get_or whole 0 0) ≡ true → token ≡ capped (token_of (word_front whole)) → rest ≡ after_word whole
    → (x : Token) × (line_tokens bytes ≡ x ∷ line_tokens rest) × (token ≡ capped x)
next_word bytes [] rest token e some w t r = absurd (omega arith)
next_word bytes (b ∷ bs) rest token e some w t r =
    (token_of (word_front (b ∷ bs)), sym (skip_blanks bytes) ∙ ap line_tokens (sym e) ∙ word_tokens b bs w ∙ ap (λ (x : List ℕ). token_of (word_front (b ∷ bs)) ∷ line_tokens x) (sym r), t)

sign_byte : (b : ℕ) → is_blank b ≡ false → is_word_byte b ≡ false → is_sign b ≡ true
sign_byte b n w = elim (cases_Bool (is_sign b)) [
  | inl s ↦ s
  | inr f ↦ absurd (false≢true (sym w ∙ ap not (or_from (is_blank b) (is_sign b) n f)))
]

pub next_sign : (bytes whole after rest : List ℕ) (token : code.Token) → whole ≡ skip_while is_blank bytes → first_is is_blank whole ≡ false → 1 ≤ length whole → is_word_byte (get_or whole 0 0) ≡ false
    → after ≡ take (length whole - 1) (drop 1 whole) → token ≡ capped (sign_token (get_or whole 0 0) after) → rest ≡ after_sign (get_or whole 0 0) after
    → (x : Token) × (line_tokens bytes ≡ x ∷ line_tokens rest) × (token ≡ capped x)
next_sign bytes [] after rest token e n some w a t r = absurd (omega arith)
next_sign bytes (b ∷ bs) after rest token e n some w a t r =
    let less : length (b ∷ bs) - 1 ≡ length bs = omega arith in
    let is : after ≡ bs = a ∙ ap (λ (k : ℕ). take k bs) less ∙ take-length bs in
    let line : line_tokens bytes ≡ sign_token b after ∷ line_tokens (after_sign b after) =
    sym (skip_blanks bytes) ∙ ap line_tokens (sym e) ∙ sign_first b bs (sign_byte b n w) ∙ ap (λ (x : List ℕ). sign_token b x ∷ line_tokens (after_sign b x)) (sym is) in
    (sign_token b after, line ∙ ap (λ (x : List ℕ). sign_token b after ∷ line_tokens x) (sym r), t)
