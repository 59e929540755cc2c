-- The laws of the board's rule.
use Rattle.std.proofs.Common.{◌≡◌, ℕ, suc, ◌+◌, ◌*◌, ◌≤◌, List, [], ◌∷◌, Bool, true, false, length, eqb, sym, refl, ap, ◌∙◌, subst, arith, length-append}
use Rattle.std.specs.Prelude.{All, Contains, sum_by, slice_index}
use Rattle.std.proofs.lemmas.List.Sums.{sum_by-cons}
use Rattle.std.proofs.lemmas.List.Concat.{length-flat_map}
use Rattle.pb_board.specs.declared.view.View.{View}
use Rattle.pb_board.specs.Numbers.{times, IsLeast}
use Rattle.pb_board.specs.Rule.{top_key, most_claims, spent, all_parts, all_claimed, all_offered, IsSeat, SeesRightly}
use Rattle.pb_board.specs.Laws.{left, next_number, NextNumberIsNew, LeastWordIsLeast, ClaimsOfTheRest, OffersOfTheRest}
use Rattle.pb_board.proofs.Counts.{count_flat}
use Rattle.std.proofs.lemmas.List.Elements.{All-head, All-tail, All-cons}
use mathlib.Core.Option.{some}
use lib.ListN.{get_elem?}
use Rattle.pb_board.proofs.ClaimLemmas.{seat_claims, claims_le, counter_le, claimed_below}
use Rattle.pb_board.proofs.CloseLemmas.{none_left}
use Rattle.pb_board.proofs.OfferLemmas.{offers_kept, all_moved}

-- what holds of the view at each place
all_places : (P : View → Type 0) (seats : List View) → ((i : ℕ) (v : View) → get_elem? seats i ≡ some v → P v) → All P seats
all_places P [] f = λ k d h. absurd (omega arith)
all_places P (v ∷ vs) f = All-cons P v vs (f 0 v refl) (all_places P vs (λ i. f (suc i)))

pub next_number_is_new : NextNumberIsNew
next_number_is_new workers s r =
    let is : next_number s ≡ r.counter = ap (λ ws. slice_index ws 0) r.words in
    all_places (λ (v : View). ¬ Contains v.claimed (next_number s)) s.views (λ i v at c. let low = claimed_below workers r.counter s.views i v r.claims at (next_number s) c in omega arith)

pub least_word_is_least : LeastWordIsLeast
least_word_is_least workers s r = subst (λ (n : ℕ). IsLeast n (top_key ∷ all_offered s.views)) (sym (ap (λ ws. slice_index ws 1) r.words)) r.offers.is_least

left_le : (g : View → ℕ) (marks : List Bool) (seats : List View) → sum_by g (left marks seats) ≤ sum_by g seats
left_le g [] seats = omega arith
left_le g (m ∷ ms) [] = omega arith
left_le g (true ∷ ms) (v ∷ vs) = omega (arith, sum_by-cons g v vs, sum_by-cons g v (left ms vs), left_le g ms vs)
left_le g (false ∷ ms) (v ∷ vs) = omega (arith, sum_by-cons g v vs, left_le g ms vs)

left_all : (P : View → Type 0) (marks : List Bool) (seats : List View) → All P seats → All P (left marks seats)
left_all P [] seats all = λ k d h. absurd (omega arith)
left_all P (m ∷ ms) [] all = all
left_all P (true ∷ ms) (v ∷ vs) all = All-cons P v (left ms vs) (All-head P v vs all) (left_all P ms vs (All-tail P v vs all))
left_all P (false ∷ ms) (v ∷ vs) all = left_all P ms vs (All-tail P v vs all)

-- the dropped seats have at most 2^57 claims for each of their parts
claims_gone : (marks : List Bool) (seats : List View) → All IsSeat seats
    → length (all_claimed seats) + most_claims * all_parts (left marks seats) ≤ length (all_claimed (left marks seats)) + most_claims * all_parts seats
claims_gone [] seats all = omega (arith, claims_le seats all)
claims_gone (m ∷ ms) [] all = omega arith
claims_gone (true ∷ ms) (v ∷ vs) all =
    omega (arith, claims_gone ms vs (All-tail IsSeat v vs all), length-append v.claimed (all_claimed vs), length-append v.claimed (all_claimed (left ms vs)), sum_by-cons (λ (u : View). u.parts) v vs, sum_by-cons (λ (u : View). u.parts) v (left ms vs))
claims_gone (false ∷ ms) (v ∷ vs) all =
    omega (arith, claims_gone ms vs (All-tail IsSeat v vs all), seat_claims v (All-head IsSeat v vs all), length-append v.claimed (all_claimed vs), sum_by-cons (λ (u : View). u.parts) v vs)

-- where no part is missing, the dropped seats have nothing
nothing_gone : (g : View → ℕ) → g spent ≡ 0 → (marks : List Bool) (seats : List View) → All IsSeat seats → all_parts (left marks seats) ≡ all_parts seats → sum_by g (left marks seats) ≡ sum_by g seats
nothing_gone g z [] seats all same = sym (none_left g z seats all (sym same))
nothing_gone g z (m ∷ ms) [] all same = refl
nothing_gone g z (true ∷ ms) (v ∷ vs) all same =
    omega (arith, sum_by-cons g v vs, sum_by-cons g v (left ms vs), nothing_gone g z ms vs (All-tail IsSeat v vs all) (omega (arith, sum_by-cons (λ (u : View). u.parts) v vs, sum_by-cons (λ (u : View). u.parts) v (left ms vs))))
nothing_gone g z (false ∷ ms) (v ∷ vs) all same =
    let few = left_le (λ (u : View). u.parts) ms vs in let add = sum_by-cons (λ (u : View). u.parts) v vs in
    omega (arith, sum_by-cons g v vs, ap g ((All-head IsSeat v vs all).0 (omega arith)), nothing_gone g z ms vs (All-tail IsSeat v vs all) (omega arith))

pub claims_of_the_rest : ClaimsOfTheRest
claims_of_the_rest workers counter seats marks r =
    let all = r.parts in let count = r.count in (
      (λ whole.
          let same : (g : View → ℕ) → g spent ≡ 0 → sum_by g (left marks seats) ≡ sum_by g seats = λ g z. nothing_gone g z marks seats r.each (omega arith) in
          record {
            limit = r.limit;
            parts = whole;
            each = left_all IsSeat marks seats r.each;
            count = omega (arith, length-flat_map (λ (u : View). u.claimed) seats, length-flat_map (λ (u : View). u.claimed) (left marks seats), same (λ (u : View). length u.claimed) refl);
            numbers = λ x. count_flat (λ y. eqb y x) (λ (u : View). u.claimed) (left marks seats) ∙ same (λ (u : View). times x u.claimed) refl ∙ sym (count_flat (λ y. eqb y x) (λ (u : View). u.claimed) seats) ∙ r.numbers x;
          }),
      omega (arith, claims_gone marks seats r.each),
      counter_le workers counter seats r,
    )

pub offers_of_the_rest : OffersOfTheRest
offers_of_the_rest workers counter least seats marks r o =
    let all = r.parts in (
      (λ whole.
          offers_kept least seats (left marks seats) o
          (λ x. count_flat (λ y. eqb y x) (λ (u : View). u.offered) (left marks seats) ∙ nothing_gone (λ (u : View). times x u.offered) refl marks seats r.each (omega arith) ∙ sym (count_flat (λ y. eqb y x) (λ (u : View). u.offered) seats))
          (λ more. left_all (SeesRightly least (left marks seats)) marks seats (all_moved least least seats (left marks seats) (omega arith) more o.each))),
      left_all (λ (v : View). (least ≤ v.seen) × All (λ key. v.seen ≤ key) v.offered) marks seats (λ k d h. let s = o.each k d h in (s.0, s.1)),
    )
