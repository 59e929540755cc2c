-- The first word of a line's bytes.
use Rattle.std.proofs.Common.{◌≡◌, ℕ, zero, suc, ◌+◌, ◌-◌, ◌<◌, ◌≤◌, refl, sym, ap, ◌∙◌, List, [], ◌∷◌, Bool, true, false, not, ◌&&◌, length, get_or, take, drop, arith, inl, inr}
use Rattle.std.specs.Prelude.{filter}
use Rattle.std.proofs.lemmas.Bool.{cases_Bool}
use Rattle.pb_read.specs.Runs.{first_is, runs, skip_while}
use Rattle.pb_read.specs.Text.{is_blank, same_word, words}
use Rattle.pb_read.proofs.Lexing.{runs_at}

blank_first : (b : ℕ) (xs : List ℕ) → is_blank b ≡ true → words (b ∷ xs) ≡ words xs
blank_first b [] h = rw h refl
blank_first b (x ∷ xs) h =
    let cut : runs same_word (b ∷ x ∷ xs) ≡ (b ∷ []) ∷ runs same_word (x ∷ xs) = rw h refl in
    ap (filter (λ (w : List ℕ). not (first_is is_blank w))) cut ∙ rw h refl

-- the blanks at the front are of no word
pub words_after_blanks : (xs : List ℕ) → words (skip_while is_blank xs) ≡ words xs
words_after_blanks [] = refl
words_after_blanks (b ∷ xs) = elim (cases_Bool (is_blank b)) [
  | inl t ↦ let rest = words_after_blanks xs in rw t (rest ∙ sym (blank_first b xs t))
  | inr f ↦ rw f refl
]

both : (a b : Bool) → a ≡ false → b ≡ false → (not a && not b) ≡ true
both a b h k = rw (h, k) refl

second : (a b : Bool) → b ≡ true → (not a && not b) ≡ false
second true b h = refl
second false b h = rw h refl

first_kept : (xs : List ℕ) (n : ℕ) → 0 < length xs → 0 < n → is_blank (get_or xs 0 0) ≡ false → first_is is_blank (take n xs) ≡ false
first_kept [] n some positive h = absurd (omega arith)
first_kept (x ∷ xs) zero some positive h = absurd (omega arith)
first_kept (x ∷ xs) (suc n) some positive h = h

-- the leading bytes that are no blanks are a word
pub word_at : (xs : List ℕ) (n : ℕ) → 0 < n → n ≤ length xs → ((k : ℕ) → k < n → is_blank (get_or xs k 0) ≡ false) → (n < length xs → is_blank (get_or xs n 0) ≡ true)
    → words xs ≡ take n xs ∷ words (drop n xs)
word_at xs n positive within each ends =
    let cut : runs same_word xs ≡ take n xs ∷ runs same_word (drop n xs) =
    runs_at same_word xs n positive within (λ k lt. both (is_blank (get_or xs k 0)) (is_blank (get_or xs (k + 1) 0)) (each k (omega arith)) (each (k + 1) lt)) (λ lt. second (is_blank (get_or xs (n - 1) 0)) (is_blank (get_or xs n 0)) (ends lt)) in
    let word = first_kept xs n (omega arith) positive (each 0 positive) in
    ap (filter (λ (w : List ℕ). not (first_is is_blank w))) cut ∙ rw word refl
