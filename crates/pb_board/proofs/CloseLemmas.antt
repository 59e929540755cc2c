-- What the board's rule says of a seat that has all parts.
use Rattle.std.proofs.Common.{◌≡◌, ℕ, zero, suc, ◌≤◌, List, [], ◌∷◌, length, eqb, ltb, sym, refl, ap, ◌∙◌, subst, arith}
use Rattle.std.specs.Prelude.{All, Contains, sum_by}
use mathlib.Core.Option.{some, some-injective, some-ne-none}
use lib.ListN.{get_elem?}
use Rattle.std.proofs.lemmas.List.Sums.{sum_by-cons}
use Rattle.std.proofs.lemmas.List.Elements.{All-head, All-tail}
use Rattle.atomic_table.specs.Table.{Final, Seen}
use Rattle.pb_board.specs.declared.view.View.{View}
use Rattle.pb_board.specs.Numbers.{times, IsEachOnceBelow, IsLeast}
use Rattle.pb_board.specs.Rule.{top_key, spent, all_parts, all_claimed, all_offered, IsSeat, SeesRightly, BoardRule}
use Rattle.std.proofs.lemmas.List.Concat.{length-flat_map}
use Rattle.pb_board.proofs.Counts.{count_flat, all_at, term_le, times-cons, contains_more, all_of}
use Rattle.pb_board.proofs.ClaimLemmas.{one_if}
use Rattle.pb_board.proofs.OfferLemmas.{keys, least_le}
use Rattle.pb_board.proofs.StepLemmas.{U}

pub none_left : (g : View → ℕ) → g spent ≡ 0 → (seats : List View) → All IsSeat seats → all_parts seats ≡ 0 → sum_by g seats ≡ 0
none_left g z [] all empty = refl
none_left g z (v ∷ vs) all empty =
    let add = sum_by-cons (λ (u : View). u.parts) v vs in
    omega (arith, sum_by-cons g v vs, ap g ((All-head IsSeat v vs all).0 (omega arith)), none_left g z vs (All-tail IsSeat v vs all) (omega arith))

-- where one seat has all parts, the others have nothing
alone : (g : View → ℕ) → g spent ≡ 0 → (seats : List View) (i : ℕ) (v : View) → All IsSeat seats → get_elem? seats i ≡ some v → all_parts seats ≡ v.parts → sum_by g seats ≡ g v
alone g z [] i v all at has = absurd (some-ne-none v (sym at))
alone g z (u ∷ us) zero v all at has =
    let same = some-injective u v at in
    omega (arith, sum_by-cons g u us, sum_by-cons (λ (t : View). t.parts) u us, ap g same, none_left g z us (All-tail IsSeat u us all) (omega (arith, sum_by-cons (λ (t : View). t.parts) u us, ap (λ (t : View). t.parts) same)))
alone g z (u ∷ us) (suc i) v all at has =
    let add = sum_by-cons (λ (t : View). t.parts) u us in let mine = term_le (λ (t : View). t.parts) us i v at in
    omega (arith, sum_by-cons g u us, ap g ((All-head IsSeat u us all).0 (omega arith)), alone g z us i v (All-tail IsSeat u us all) at (omega arith))

-- what closing a board tells of the last seat's claims and offers
abbrev pub Ended : ℕ → ℕ → View → Type 0
Ended claims least v = (claims ≡ length v.claimed) × IsEachOnceBelow claims v.claimed × IsLeast least (top_key ∷ v.offered) × Contains (top_key ∷ v.offered) v.seen

abbrev pub Last : ℕ → ℕ → View → List ℕ → List U → Type 0
Last workers id v ws slots = Final (Seen (BoardRule workers {S = U}) id v) ws slots

word_at : (ws us : List ℕ) (i n : ℕ) → ws ≡ us → get_elem? us i ≡ some n → get_elem? ws i ≡ some n
word_at ws us i n e at = subst (λ xs. get_elem? xs i ≡ some n) (sym e) at

pub ends : (workers id claims least : ℕ) (v : View) (ws : List ℕ) (slots : List U) → Last workers id v ws slots → v.parts ≡ workers → get_elem? ws 0 ≡ some claims → get_elem? ws 1 ≡ some least → Ended claims least v
ends workers id claims least v ws slots (s, (r, at), same, homes, values) whole-seat first second =
    let words : r.counter ∷ r.least ∷ r.rows ≡ ws = sym r.words ∙ same in
    let c : r.counter ≡ claims = some-injective r.counter claims (word_at _ _ 0 claims words first) in
    let l : r.least ≡ least = some-injective r.least least (word_at _ _ 1 least words second) in
    let has : all_parts s.views ≡ v.parts = r.claims.parts ∙ sym whole-seat in
    let only : (g : View → ℕ) → g spent ≡ 0 → sum_by g s.views ≡ g v = λ g z. alone g z s.views id v r.claims.each at has in
    let claimed : (x : ℕ) → times x (all_claimed s.views) ≡ times x v.claimed = λ x. count_flat (λ y. eqb y x) (λ (u : View). u.claimed) s.views ∙ only (λ (u : View). times x u.claimed) refl in
    let offered : (x : ℕ) → times x (all_offered s.views) ≡ times x v.offered = λ x. count_flat (λ y. eqb y x) (λ (u : View). u.offered) s.views ∙ only (λ (u : View). times x u.offered) refl in
    let among : (x : ℕ) → Contains (top_key ∷ v.offered) x → Contains (keys s.views) x =
    λ x t. contains_more x (top_key ∷ v.offered) (keys s.views) (omega (arith, times-cons x top_key v.offered, times-cons x top_key (all_offered s.views), offered x)) t in
    let back : (x : ℕ) → Contains (keys s.views) x → Contains (top_key ∷ v.offered) x =
    λ x t. contains_more x (keys s.views) (top_key ∷ v.offered) (omega (arith, times-cons x top_key v.offered, times-cons x top_key (all_offered s.views), offered x)) t in (
      sym c ∙ r.claims.count ∙ length-flat_map (λ (u : View). u.claimed) s.views ∙ only (λ (u : View). length u.claimed) refl,
      (λ x. sym (claimed x) ∙ r.claims.numbers x ∙ ap (λ n. one_if (ltb x n)) c),
      subst (λ (m : ℕ). IsLeast m (top_key ∷ v.offered)) l (
        contains_more r.least (keys s.views) (top_key ∷ v.offered) (omega (arith, times-cons r.least top_key v.offered, times-cons r.least top_key (all_offered s.views), offered r.least)) r.offers.is_least.0,
        all_of (λ x. r.least ≤ x) (top_key ∷ v.offered) (λ x t. least_le r.least (keys s.views) x r.offers.is_least (among x t)),
      ),
      back v.seen (all_at (SeesRightly r.least s.views) s.views id v r.offers.each at).2,
    )
