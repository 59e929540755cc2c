-- Which pieces the numbers stand for that are claimed from the board, and how often.
use Rattle.std.proofs.Common.{◌≡◌, ◌≢◌, ℕ, ◌+◌, ◌-◌, ◌*◌, ◌^◌, ◌<◌, ◌≤◌, List, [], ◌∷◌, ◌++◌, Bool, true, false, cond, not, Option, refl, sym, ◌∙◌, ap, arith}
use Rattle.std.specs.Prelude.{flat_map, nat_lt, ◌&&◌, if◌then◌else◌}
use mathlib.Core.Logic.{dite}
use native.Mathlib.Decide.{ℕ_discrete}
use Rattle.std.proofs.lemmas.Bool.{false≢true}
use Rattle.std.proofs.lemmas.Bool.Decides.{nat_tests}
use Rattle.std.proofs.lemmas.List.Concat.{flat_map-append}
use Rattle.pb_board.specs.Numbers.{IsEachOnceBelow, times}
use Rattle.pb_board.proofs.Counts.{mark, none_here, one_here, times-append, times-cons}
use Rattle.pb_workers.specs.Dealing.{TaskView, has_claims, is_dealt, is_for_others, is_own_piece, numbers_for, piece_of}
use Rattle.pb_workers.specs.Claims.{pieces_among}

first_of_both : (a b : Bool) → a && b ≡ true → a ≡ true
first_of_both true b both = refl
first_of_both false b both = absurd (false≢true both)

pub second_of_both : (a b : Bool) → a && b ≡ true → b ≡ true
second_of_both true b both = both
second_of_both false b both = absurd (false≢true both)

is_not : (b : Bool) → not b ≡ true → b ≡ false
is_not false denied = refl
is_not true denied = absurd (false≢true denied)

pub below_by_test : (n count : ℕ) → nat_lt n count ≡ true → n < count
below_by_test n count told = grind (arith, nat_tests)

past_by_test : (n count : ℕ) → nat_lt n count ≡ false → count ≤ n
past_by_test n count told = grind (arith, nat_tests)

append_nil : (l : List ℕ) → l ++ [] ≡ l
append_nil [] = refl
append_nil (n ∷ l) = ap (λ (r : List ℕ). n ∷ r) (append_nil l)

-- there are as many numbers as pieces, or twice as many at most
pub more_numbers : (task : Option TaskView) (count : ℕ) → count ≤ numbers_for task count
more_numbers task count = of (has_claims task && nat_lt count (2 ^ 31))
  where
    of : (b : Bool) → count ≤ (if b then 2 * count else count)
    of true = omega arith
    of false = omega arith

twice_at_most : (task : Option TaskView) (count : ℕ) → numbers_for task count ≤ 2 * count
twice_at_most task count = of (has_claims task && nat_lt count (2 ^ 31))
  where
    of : (b : Bool) → (if b then 2 * count else count) ≤ 2 * count
    of true = omega arith
    of false = omega arith

-- a piece that the task is dealt is one of the `count` pieces
pub own_below : (task : Option TaskView) (count n : ℕ) → is_own_piece task count n ≡ true → n < count
own_below task count n own = below_by_test n count (second_of_both (is_dealt task n) (nat_lt n count) own)

own_dealt : (task : Option TaskView) (count n : ℕ) → is_own_piece task count n ≡ true → is_dealt task n ≡ true
own_dealt task count n own = first_of_both (is_dealt task n) (nat_lt n count) own

-- what is known of a number that stands for a piece of another task
record IsForOthers (task : Option TaskView) (count n : ℕ) : Type 0 where
  below : n < 2 * count
  past : count ≤ n
  not_dealt : is_dealt task (2 * count - (n + 1)) ≡ false
  within : n < numbers_for task count

for_others : (task : Option TaskView) (count n : ℕ) → is_for_others task count n ≡ true → IsForOthers task count n
for_others task count n is =
    let rest = second_of_both (has_claims task) _ is in
    let last = second_of_both (nat_lt n (numbers_for task count)) _ rest in
    let within : n < numbers_for task count = below_by_test n (numbers_for task count) (first_of_both (nat_lt n (numbers_for task count)) _ rest) in
    record {
      below = omega (arith, twice_at_most task count);
      past = past_by_test n count (is_not (nat_lt n count) (first_of_both (not (nat_lt n count)) _ last));
      not_dealt = is_not (is_dealt task (2 * count - (n + 1))) (second_of_both (not (nat_lt n count)) _ last);
      within = within;
    }

-- a number past all of them stands for no piece
pub past_none : (task : Option TaskView) (count n : ℕ) → numbers_for task count ≤ n → piece_of task count n ≡ []
past_none task count n past = of (is_own_piece task count n) (is_for_others task count n) refl refl
  where
    of : (own others : Bool) → is_own_piece task count n ≡ own → is_for_others task count n ≡ others → (if own then n ∷ [] else (if others then (2 * count - (n + 1)) ∷ [] else [])) ≡ []
    of true others is_own is = let below = own_below task count n is_own in absurd (omega (arith, more_numbers task count))
    of false true is_own is = let within = (for_others task count n is).within in absurd (omega arith)
    of false false is_own is = refl

-- one claim more stands for these pieces
pub among_more : (task : Option TaskView) (count : ℕ) (claimed after : List ℕ) (n : ℕ) (pieces : List ℕ) → after ≡ claimed ++ n ∷ [] → piece_of task count n ≡ pieces → pieces_among task count after ≡ pieces_among task count claimed ++ pieces
among_more task count claimed after n pieces claim is =
    ap (pieces_among task count) claim
    ∙ flat_map-append (piece_of task count) claimed (n ∷ [])
    ∙ ap (λ (l : List ℕ). pieces_among task count claimed ++ l) (append_nil (piece_of task count n) ∙ is)

pub among_same : (task : Option TaskView) (count : ℕ) (claimed after : List ℕ) (n : ℕ) → after ≡ claimed ++ n ∷ [] → piece_of task count n ≡ [] → pieces_among task count after ≡ pieces_among task count claimed
among_same task count claimed after n claim none = among_more task count claimed after n [] claim none ∙ append_nil (pieces_among task count claimed)

-- the number that stands for a piece
abbrev number_of : Option TaskView → ℕ → ℕ → ℕ
number_of task count i = if is_dealt task i then i else 2 * count - (i + 1)

dealt_number : (task : Option TaskView) (count i : ℕ) → is_dealt task i ≡ true → number_of task count i ≡ i
dealt_number task count i is = ap (λ b. if b then i else 2 * count - (i + 1)) is

other_number : (task : Option TaskView) (count i : ℕ) → is_dealt task i ≡ false → number_of task count i ≡ 2 * count - (i + 1)
other_number task count i is = ap (λ b. if b then i else 2 * count - (i + 1)) is

-- no other number stands for the piece
at_most_here : (task : Option TaskView) (count i m : ℕ) → times i (piece_of task count m) ≤ mark (number_of task count i) m
at_most_here task count i m = of (is_own_piece task count m) (is_for_others task count m) refl refl
  where
    own_here : is_own_piece task count m ≡ true → m ≡ i → 1 ≤ mark (number_of task count i) m
    own_here own same =
        let dealt : is_dealt task i ≡ true = sym (ap (is_dealt task) same) ∙ own_dealt task count m own in
        omega (arith, one_here (number_of task count i) m (same ∙ sym (dealt_number task count i dealt)))

    other_here : is_for_others task count m ≡ true → 2 * count - (m + 1) ≡ i → 1 ≤ mark (number_of task count i) m
    other_here others same =
        let is = for_others task count m others in
        let below = is.below in
        let dealt : is_dealt task i ≡ false = sym (ap (is_dealt task) same) ∙ is.not_dealt in
        let back : m ≡ 2 * count - (i + 1) = omega arith in
        omega (arith, one_here (number_of task count i) m (back ∙ sym (other_number task count i dealt)))

    of : (own others : Bool) → is_own_piece task count m ≡ own → is_for_others task count m ≡ others
        → times i (if own then m ∷ [] else (if others then (2 * count - (m + 1)) ∷ [] else [])) ≤ mark (number_of task count i) m
    of true others own is = dite (ℕ_discrete m i)
        (λ same. omega (arith, times-cons i m [], one_here i m same, own_here own same))
        (λ differs. omega (arith, times-cons i m [], none_here i m differs))
    of false true own is = dite (ℕ_discrete (2 * count - (m + 1)) i)
        (λ same. omega (arith, times-cons i (2 * count - (m + 1)) [], one_here i (2 * count - (m + 1)) same, other_here is same))
        (λ differs. omega (arith, times-cons i (2 * count - (m + 1)) [], none_here i (2 * count - (m + 1)) differs))
    of false false own is = omega arith

-- a number that is that of no piece stands for none
none_past : (task : Option TaskView) (count i m : ℕ) → count ≤ i → times i (piece_of task count m) ≡ 0
none_past task count i m past = of (is_own_piece task count m) (is_for_others task count m) refl refl
  where
    of : (own others : Bool) → is_own_piece task count m ≡ own → is_for_others task count m ≡ others
        → times i (if own then m ∷ [] else (if others then (2 * count - (m + 1)) ∷ [] else [])) ≡ 0
    of true others own is =
        let below = own_below task count m own in
        omega (arith, times-cons i m [], none_here i m (λ same. absurd (omega arith)))
    of false true own is =
        let known = for_others task count m is in
        let below = known.below in
        let from = known.past in
        omega (arith, times-cons i (2 * count - (m + 1)) [], none_here i (2 * count - (m + 1)) (λ same. absurd (omega arith)))
    of false false own is = omega arith

most_times : (task : Option TaskView) (count i : ℕ) (claimed : List ℕ) → times i (pieces_among task count claimed) ≤ times (number_of task count i) claimed
most_times task count i [] = omega arith
most_times task count i (m ∷ claimed) =
    omega (arith, times-append i (piece_of task count m) (pieces_among task count claimed), at_most_here task count i m, times-cons (number_of task count i) m claimed, most_times task count i claimed)

none_among_past : (task : Option TaskView) (count i : ℕ) (claimed : List ℕ) → count ≤ i → times i (pieces_among task count claimed) ≡ 0
none_among_past task count i [] past = omega arith
none_among_past task count i (m ∷ claimed) past =
    omega (arith, times-append i (piece_of task count m) (pieces_among task count claimed), none_past task count i m past, none_among_past task count i claimed past)

one_at_most : (n total k : ℕ) → k ≡ (if nat_lt n total then 1 else 0) → k ≤ 1
one_at_most n total k is = of (nat_lt n total) is
  where
    of : (b : Bool) → k ≡ (if b then 1 else 0) → k ≤ 1
    of true is = omega arith
    of false is = omega arith

-- where each number is claimed once at most, each stands for another piece
pub once_at_most : (task : Option TaskView) (count total i : ℕ) (claimed : List ℕ) → IsEachOnceBelow total claimed → times i (pieces_among task count claimed) ≤ (if nat_lt i count then 1 else 0)
once_at_most task count total i claimed once = of (nat_lt i count) refl
  where
    of : (b : Bool) → nat_lt i count ≡ b → times i (pieces_among task count claimed) ≤ (if b then 1 else 0)
    of true is = omega (arith, most_times task count i claimed, one_at_most (number_of task count i) total (times (number_of task count i) claimed) (once (number_of task count i)))
    of false is = omega (arith, none_among_past task count i claimed (past_by_test i count is))

-- where none but the dealt pieces are claimed, each number stands for itself
none_for_others : (task : Option TaskView) (count n : ℕ) → has_claims task ≡ false → is_for_others task count n ≡ false
none_for_others task count n none = ap (λ b. b && (nat_lt n (numbers_for task count) && (not (nat_lt n count) && not (is_dealt task (2 * count - (n + 1)))))) none

own_alone : (task : Option TaskView) (count n : ℕ) → has_claims task ≡ false → piece_of task count n ≡ (if is_own_piece task count n then n ∷ [] else [])
own_alone task count n none = ap (λ b. if is_own_piece task count n then n ∷ [] else (if b then (2 * count - (n + 1)) ∷ [] else [])) (none_for_others task count n none)

own_or_none : (own own_i : Bool) (i m : ℕ) → (m ≡ i → own ≡ own_i) → times i (if own then m ∷ [] else []) ≡ cond own_i (mark i m) 0
own_or_none true true i m alike = omega (arith, times-cons i m [])
own_or_none false false i m alike = omega arith
own_or_none true false i m alike = dite (ℕ_discrete m i) (λ same. absurd (false≢true (sym (alike same)))) (λ differs. omega (arith, times-cons i m [], none_here i m differs))
own_or_none false true i m alike = dite (ℕ_discrete m i) (λ same. absurd (false≢true (alike same))) (λ differs. omega (arith, none_here i m differs))

both_or_none : (b : Bool) (m n : ℕ) → cond b m 0 + cond b n 0 ≡ cond b (m + n) 0
both_or_none true m n = refl
both_or_none false m n = omega arith

none_or_none : (b : Bool) (n : ℕ) → n ≡ 0 → n ≡ cond b n 0
none_or_none true n none = refl
none_or_none false n none = none

-- then a piece that the task is dealt stands among them as often as it is claimed, and another one does not
pub times_own : (task : Option TaskView) (count : ℕ) (claimed : List ℕ) (i : ℕ) → has_claims task ≡ false → times i (pieces_among task count claimed) ≡ cond (is_own_piece task count i) (times i claimed) 0
times_own task count [] i none = none_or_none (is_own_piece task count i) (times i []) (omega arith)
times_own task count (m ∷ claimed) i none =
    times-append i (piece_of task count m) (pieces_among task count claimed)
    ∙ ap (λ (l : List ℕ). times i l + times i (pieces_among task count claimed)) (own_alone task count m none)
    ∙ ap (λ n. n + times i (pieces_among task count claimed)) (own_or_none (is_own_piece task count m) (is_own_piece task count i) i m (λ same. ap (is_own_piece task count) same))
    ∙ ap (λ n. cond (is_own_piece task count i) (mark i m) 0 + n) (times_own task count claimed i none)
    ∙ both_or_none (is_own_piece task count i) (mark i m) (times i claimed)
    ∙ ap (λ n. cond (is_own_piece task count i) n 0) (sym (times-cons i m claimed))
