-- Laws of the board's rule: what it says of the next number, of the least word, and of the seats left after some were dropped.
use Rattle.std.specs.Prelude.{◌≡◌, ℕ, ◌≤◌, ◌+◌, ◌*◌, ◌-◌, ◌^◌, List, [], ◌∷◌, Bool, true, false, length, All, Contains, slice_index}
use Rattle.atomic_table.specs.Table.{State}
use Rattle.pb_board.specs.declared.board.TheConstants.{COUNTER, LEAST}
use Rattle.pb_board.specs.declared.view.View.{View}
use Rattle.pb_board.specs.Numbers.{IsLeast}
use Rattle.pb_board.specs.Rule.{top_key, most_claims, all_parts, all_claimed, all_offered, ClaimRule, OfferRule, BoardRule}

-- the words of a board, and what all its seats know, those that were dropped included
abbrev pub Situation : Type 0
Situation = State (Unit {0}) View

-- the number that the next claim draws
abbrev pub next_number : Situation → ℕ
next_number s = slice_index s.words COUNTER

-- the word that an offer lowers
abbrev pub least_word : Situation → ℕ
least_word s = slice_index s.words LEAST

-- The number that is drawn next was drawn by no seat
abbrev pub NextNumberIsNew : Type 0
NextNumberIsNew = (workers : ℕ) (s : Situation) → BoardRule workers s → All (λ v. ¬ Contains v.claimed (next_number s)) s.views

-- What a look at the least word finds is top or a key that some seat offered, and none of these is less
abbrev pub LeastWordIsLeast : Type 0
LeastWordIsLeast = (workers : ℕ) (s : Situation) → BoardRule workers s → IsLeast (least_word s) (top_key ∷ all_offered s.views)

-- the seats that the marks keep
abbrev pub left : List Bool → List View → List View
left [] seats = []
left (mark ∷ marks) [] = []
left (true ∷ marks) (v ∷ seats) = v ∷ left marks seats
left (false ∷ marks) (v ∷ seats) = left marks seats

-- Where no part is missing, the rule of claims holds of the seats that are left. Always, the counter is at most their claims and 2^57 for each missing part, and at most 2^63
abbrev pub ClaimsOfTheRest : Type 0
ClaimsOfTheRest =
    (workers counter : ℕ) (seats : List View) (marks : List Bool)
    → ClaimRule workers counter seats
    → (all_parts (left marks seats) ≡ workers → ClaimRule workers counter (left marks seats))
    × (counter ≤ length (all_claimed (left marks seats)) + most_claims * (workers - all_parts (left marks seats)))
    × (counter ≤ 2 ^ 63)

-- Where no part is missing, the rule of offers holds of the seats that are left. Always, each has seen a key that is at least the least word and at most its own keys
abbrev pub OffersOfTheRest : Type 0
OffersOfTheRest =
    (workers counter least : ℕ) (seats : List View) (marks : List Bool)
    → ClaimRule workers counter seats
    → OfferRule least seats
    → (all_parts (left marks seats) ≡ workers → OfferRule least (left marks seats))
    × All (λ v. (least ≤ v.seen) × All (λ key. v.seen ≤ key) v.offered) (left marks seats)
