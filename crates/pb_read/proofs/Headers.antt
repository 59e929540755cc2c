-- The number of the header.
use Rattle.std.proofs.Common.{◌≡◌, ℕ, refl, sym, ap, List, [], ◌∷◌, Bool, true, false, ◌&&◌, Some, None, Option, cond, inl, inr, one-add}
use Rattle.std.proofs.lemmas.Bool.{cases_Bool}
use Rattle.std.specs.Prelude.{take_while, option_map, unwrap_or}
use Rattle.std.specs.List.{list_all}
use Rattle.pb_read.specs.Runs.{first_is, skip_while}
use Rattle.pb_read.specs.Text.{is_digit, are_digits, value}
use Rattle.pb_read.specs.Opb.{leading_number, first_line, header_of}
use Rattle.pb_read.specs.Capped.{cap_count, ends_word}

all_digits : (bs : List ℕ) → list_all is_digit (take_while is_digit bs) ≡ true
all_digits [] = refl
all_digits (b ∷ bs) = elim (cases_Bool (is_digit b)) [ inl t ↦ rw (t, one-add, t, all_digits bs) refl | inr f ↦ rw f refl ]

pub front_digits : (bs : List ℕ) → are_digits (take_while is_digit bs) ≡ first_is is_digit bs
front_digits [] = refl
front_digits (b ∷ bs) = elim (cases_Bool (is_digit b)) [ inl t ↦ rw (t, one-add, t, all_digits bs) refl | inr f ↦ rw f refl ]

number : (bs : List ℕ) (d : Bool) → (if_digits : Bool) → if_digits ≡ d → cond d (Some (cap_count (value (take_while is_digit bs)))) None ≡ option_map cap_count (cond (if_digits && true) (Some (value (take_while is_digit bs))) None)
number bs true true e = refl
number bs true false e = absurd cc
number bs false true e = absurd cc
number bs false false e = refl

-- the digits before a blank or the end
pub leads_number : (bs digits rest : List ℕ) → digits ≡ take_while is_digit bs → rest ≡ skip_while is_digit bs → ends_word rest ≡ true
    → cond (are_digits digits) (Some (cap_count (value digits))) None ≡ option_map cap_count (leading_number bs)
leads_number bs digits rest d r e = rw (d, sym r, e, front_digits bs) (number bs (first_is is_digit bs) (first_is is_digit bs) refl)

pub leads_none : (bs rest : List ℕ) → rest ≡ skip_while is_digit bs → ends_word rest ≡ false → None ≡ option_map cap_count (leading_number bs)
leads_none bs rest r e = rw (sym r, e) (none (first_is is_digit bs))
  where
    none : (b : Bool) → None ≡ option_map cap_count (cond (b && false) (Some (value (take_while is_digit bs))) None)
    none true = refl
    none false = refl

pub or_zero : (o : Option ℕ) → unwrap_or (option_map cap_count o) 0 ≡ cap_count (unwrap_or o 0)
or_zero None = refl
or_zero (Some n) = refl

pub first_of : (ls : List (List ℕ)) (l : List ℕ) (rest : List (List ℕ)) → ls ≡ l ∷ rest → first_line ls ≡ l
first_of ls l rest e = ap first_line e

pub first_none : (ls : List (List ℕ)) → ls ≡ [] → cap_count (unwrap_or (header_of (first_line ls)) 0) ≡ 0
first_none ls e = rw e refl
