-- The lines of `bstr` are the lines of the definition.
use Rattle.std.proofs.Common.{◌≡◌, ℕ, zero, suc, ◌≤◌, ◌<◌, refl, sym, ap, ◌∙◌, List, [], ◌∷◌, Bool, length, take, drop, arith, eqb, inl, inr}
use Rattle.std.proofs.lemmas.Bool.{cases_Bool}
use Rattle.std.proofs.lemmas.List.{length-drop}
use Rattle.bstr.specs.Text.{line_len, lines_from, lines_of}
use Rattle.pb_read.specs.Runs.{pieces}
use Rattle.pb_read.specs.Text.{lines}

abbrev is_lf : ℕ → Bool
is_lf b = eqb b 10

first_line : (b : ℕ) (rest : List ℕ) → pieces is_lf (b ∷ rest) ≡ take (line_len (b ∷ rest)) (b ∷ rest) ∷ pieces is_lf (drop (line_len (b ∷ rest)) (b ∷ rest))
unfolding line_len
first_line b [] = elim (cases_Bool (eqb b 10)) [ inl t ↦ rw t refl | inr f ↦ rw f refl ]
first_line b (y ∷ ys) = elim (cases_Bool (eqb b 10)) [
  | inl t ↦ rw t refl
  | inr f ↦ let rest = first_line y ys in rw (f, rest) refl
]

positive_len : (b : ℕ) (rest : List ℕ) → 0 < line_len (b ∷ rest)
unfolding line_len
positive_len b rest = elim (cases_Bool (eqb b 10)) [ inl t ↦ rw t (omega arith) | inr f ↦ rw f (omega arith) ]

lines_by_fuel : (n : ℕ) (bs : List ℕ) → length bs ≤ n → lines_from n bs ≡ pieces is_lf bs
unfolding lines_from
lines_by_fuel zero [] le = refl
lines_by_fuel zero (b ∷ bs) le = absurd (omega arith)
lines_by_fuel (suc n) [] le = refl
lines_by_fuel (suc n) (b ∷ bs) le =
    let k = line_len (b ∷ bs) in
    let short : length (drop (line_len (b ∷ bs)) (b ∷ bs)) ≤ n = omega (arith, length-drop (line_len (b ∷ bs)) (b ∷ bs), positive_len b bs) in
    ap (λ (ls : List (List ℕ)). take (line_len (b ∷ bs)) (b ∷ bs) ∷ ls) (lines_by_fuel n (drop (line_len (b ∷ bs)) (b ∷ bs)) short) ∙ sym (first_line b bs)

pub same_lines : (text : List ℕ) → lines_of text ≡ lines text
same_lines text = lines_by_fuel (length text) text (omega arith)
