-- Each atomic step keeps the board's rule.
use Rattle.std.proofs.Common.{◌≡◌, ℕ, zero, suc, ◌+◌, ◌%◌, ◌^◌, ◌<◌, ◌≤◌, List, [], ◌∷◌, ◌++◌, length, set, min, sym, refl, ap, subst, arith}
use Rattle.std.specs.Prelude.{slice_index, max}
use mathlib.Core.Option.{none, some}
use lib.ListN.{get_elem?}
use Rattle.atomic_table.specs.Table.{State, step, keeps, Allows, Splits, Joins}
use Rattle.atomic_table.proofs.Lists.{set_again}
use Rattle.pb_board.specs.declared.view.View.{View}
use Rattle.pb_board.specs.Rule.{most_claims, spent, ClaimRule, SeesRightly, OfferRule, BoardRule}
use Rattle.pb_board.specs.Steps.{Held, Claims, Offers, Reads, Stays, Counts, kept, given, joined}
use Rattle.pb_board.proofs.Counts.{all_at, term_le, all_of}
use Rattle.pb_board.proofs.ClaimLemmas.{counter_le, claims_same, claims_one, claims_split, claims_join, claimed_below}
use Rattle.pb_board.proofs.OfferLemmas.{keys, own_key, least_le, offers_same, offers_one, offers_read, offers_split, offers_join}

abbrev pub U : Type 0
U = Unit {0}

abbrev Table : Type 0
Table = State U View

-- a view that is set to what it was
unmoved : (F : List View → Type 0) (seats : List View) (i : ℕ) (v : View) → get_elem? seats i ≡ some v → F seats → F (set seats i v)
unmoved F seats i v at h = subst F (sym (set_again seats i v at)) h

pub claims : (workers slots id : ℕ) (m : Held) → 0 < m.0.parts → length m.0.claimed < most_claims → Allows (BoardRule workers {S = U}) slots id m 0 (λ n. (n + 1) % 2 ^ 64) (Claims (step slots 0 1 0 none) m)
claims workers slots id m part room s r homes at fits =
    let x : ℕ = slice_index s.words 0 in
    let is : x ≡ r.counter = ap (λ ws. slice_index ws 0) r.words in
    let low = counter_le workers r.counter s.views r.claims in
    let next : r.counter + 1 ≡ (r.counter + 1) % 2 ^ 64 = omega arith in
    let w : ℕ → View = λ n. record m.0 { claimed = m.0.claimed ++ n ∷ [] } in (
      w x,
      keeps,
      tt,
      record {
        counter = (x + 1) % 2 ^ 64;
        least = r.least;
        rows = r.rows;
        words = ap (λ ws. set ws 0 ((x + 1) % 2 ^ 64)) r.words;
        claims = subst (λ (n : ℕ). ClaimRule workers ((n + 1) % 2 ^ 64) (set s.views id (w n))) (sym is)
            (subst (λ (n : ℕ). ClaimRule workers n (set s.views id (w r.counter))) next (claims_one workers r.counter s.views id m.0 r.claims at part room));
        offers = offers_same r.least s.views id m.0 (w x) r.offers at refl refl;
      },
      (refl, all_of (λ n. n < x) m.0.claimed (λ y c. let low = claimed_below workers r.counter s.views id m.0 r.claims at y c in omega arith)),
    )

pub offers : (workers slots id key : ℕ) (m : Held) → 0 < m.0.parts → Allows (BoardRule workers {S = U}) slots id m 1 (λ n. min n key) (Offers (step slots 1 key 0 none) m)
offers workers slots id key m part s r homes at fits =
    let x : ℕ = slice_index s.words 1 in
    let is : x ≡ r.least = ap (λ ws. slice_index ws 1) r.words in
    let w : View = record m.0 { offered = m.0.offered ++ key ∷ []; seen = min m.0.seen key } in (
      w,
      keeps,
      tt,
      record {
        counter = r.counter;
        least = min x key;
        rows = r.rows;
        words = ap (λ ws. set ws 1 (min x key)) r.words;
        claims = claims_same workers r.counter s.views id m.0 w r.claims at part refl refl;
        offers = subst (λ (n : ℕ). OfferRule (min n key) (set s.views id w)) (sym is) (offers_one r.least key s.views id m.0 r.offers at);
      },
      refl,
    )

pub reads : (workers slots id : ℕ) (m : Held) → 0 < m.0.parts → Allows (BoardRule workers {S = U}) slots id m 1 (λ n. n) (Reads (step slots 1 0 0 none) m)
reads workers slots id m part s r homes at fits =
    let x : ℕ = slice_index s.words 1 in
    let is : x ≡ r.least = ap (λ ws. slice_index ws 1) r.words in
    let w : ℕ → View = λ n. record m.0 { seen = n } in
    let mine = all_at (SeesRightly r.least s.views) s.views id m.0 r.offers.each at in (
      w x,
      keeps,
      tt,
      record {
        counter = r.counter;
        least = x;
        rows = r.rows;
        words = ap (λ ws. set ws 1 x) r.words;
        claims = claims_same workers r.counter s.views id m.0 (w x) r.claims at part refl refl;
        offers = subst (λ (n : ℕ). OfferRule n (set s.views id (w n))) (sym is) (offers_read r.least s.views id m.0 r.offers at);
      },
      (refl, (let a = mine.0 in omega arith), all_of (λ k. x ≤ k) m.0.offered (λ k c. let low = least_le r.least (keys s.views) k r.offers.is_least (own_key s.views id m.0 k at c) in omega arith)),
    )

-- a word of a row changes nothing else
row_set : (ws : List ℕ) (counter least : ℕ) (rows : List ℕ) (i n : ℕ) → 2 ≤ i → ws ≡ counter ∷ least ∷ rows → (rows' : List ℕ) × (set ws i n ≡ counter ∷ least ∷ rows')
row_set ws counter least rows zero n h e = absurd (omega arith)
row_set ws counter least rows (suc zero) n h e = absurd (omega arith)
row_set ws counter least rows (suc (suc i)) n h e = (set rows i n, ap (λ us. set us (suc (suc i)) n) e)

-- a step on a row's word, which keeps the seat's view
row_kept : (workers id i n : ℕ) (v : View) (s : Table) → 2 ≤ i → BoardRule workers s → get_elem? s.views id ≡ some v
    → BoardRule workers {S = U} record { words = set s.words i n; homes = s.homes; views = set s.views id v }
row_kept workers id i n v s h r at =
    let row = row_set s.words r.counter r.least r.rows i n h r.words in
    record {
      counter = r.counter;
      least = r.least;
      rows = row.0;
      words = row.1;
      claims = unmoved (ClaimRule workers r.counter) s.views id v at r.claims;
      offers = unmoved (OfferRule r.least) s.views id v at r.offers;
    }

pub stores : (workers slots id i n : ℕ) (m : Held) → 2 ≤ i → Allows (BoardRule workers {S = U}) slots id m i (λ _. n) (λ _. Stays (step slots i n 0 none) m n)
stores workers slots id i n m h s r homes at fits = (m.0, keeps, tt, row_kept workers id i n m.0 s h r at, refl)

pub loads : (workers slots id i : ℕ) (m : Held) → 2 ≤ i → Allows (BoardRule workers {S = U}) slots id m i (λ n. n) (Stays (step slots i 0 0 none) m)
loads workers slots id i m h s r homes at fits = (m.0, keeps, tt, row_kept workers id i (slice_index s.words i) m.0 s h r at, refl)

pub raises : (workers slots id i k : ℕ) (m : Held) → 2 ≤ i → Allows (BoardRule workers {S = U}) slots id m i (λ n. max n k) (Stays (step slots i k 0 none) m)
raises workers slots id i k m h s r homes at fits = (m.0, keeps, tt, row_kept workers id i (max (slice_index s.words i) k) m.0 s h r at, refl)

pub counts : (workers slots id : ℕ) (m : Held) → Allows (BoardRule workers {S = U}) slots id m 0 (λ n. n) (Counts (step slots 0 0 0 none) m)
counts workers slots id m s r homes at fits =
    let x : ℕ = slice_index s.words 0 in
    let is : x ≡ r.counter = ap (λ ws. slice_index ws 0) r.words in
    let few = r.claims.limit in let sum = r.claims.parts in (
      m.0,
      keeps,
      tt,
      record {
        counter = x;
        least = r.least;
        rows = r.rows;
        words = ap (λ ws. set ws 0 x) r.words;
        claims = unmoved (ClaimRule workers x) s.views id m.0 at (subst (λ (n : ℕ). ClaimRule workers n s.views) (sym is) r.claims);
        offers = unmoved (OfferRule r.least) s.views id m.0 at r.offers;
      },
      (refl, omega (arith, term_le (λ (u : View). u.parts) s.views id m.0 at)),
    )

pub splits : (workers id keep : ℕ) (v : View) → 0 < keep → keep < v.parts → Splits (BoardRule workers {S = U}) id v (kept keep v) (given keep v)
splits workers id keep v some-part less s r at =
    record {
      counter = r.counter;
      least = r.least;
      rows = r.rows;
      words = r.words;
      claims = claims_split workers r.counter s.views id v (kept keep v) (given keep v) r.claims at some-part (omega arith) (omega arith) refl refl;
      offers = offers_split r.least s.views id v (kept keep v) (given keep v) r.offers at refl refl refl refl;
    }

pub joins : (workers id other : ℕ) (v w : View) → 0 < v.parts → length v.claimed + length w.claimed ≤ most_claims → Joins (BoardRule workers {S = U}) id v other w (joined v w) spent
joins workers id other v w some-part room s r at apart there =
    record {
      counter = r.counter;
      least = r.least;
      rows = r.rows;
      words = r.words;
      claims = claims_join workers r.counter s.views id other v w (joined v w) r.claims at there some-part refl refl room;
      offers = offers_join r.least s.views id other v w (joined v w) r.offers at apart there refl refl;
    }
