-- The rule of offers, where one seat changes, is cut in two, or takes in another.
use Rattle.std.proofs.Common.{◌≡◌, ℕ, ◌+◌, ◌≤◌, ◌⊎◌, List, [], ◌∷◌, ◌++◌, set, get_or, min, sym, refl, ap, subst, inl, inr, ⊎_elim, arith}
use Rattle.std.specs.Prelude.{All, Contains}
use mathlib.Core.Option.{some}
use mathlib.Core.Logic.{dite}
use native.Mathlib.Decide.{ℕ_discrete, dec_le}
use lib.ListN.{get_elem?}
use Rattle.std.proofs.lemmas.List.Elements.{All-contains, All-set, All-push, All-append}
use Rattle.pb_board.specs.declared.view.View.{View}
use Rattle.pb_board.specs.Numbers.{times, IsLeast}
use Rattle.pb_board.specs.Rule.{top_key, spent, all_offered, SeesRightly, OfferRule}
use Rattle.pb_board.proofs.Counts.{all_at, flat_set_times, flat_push_times, flat_term, times-append, times-cons, times-push, mark, one_here, none_here, found, contains_more, all_of}
use Rattle.pb_board.proofs.Counts.{at_other}

abbrev pub keys : List View → List ℕ
keys seats = top_key ∷ all_offered seats

-- what is among the keys stays among them where no count falls
keys_more : (seats seats' : List View) (x : ℕ) → times x (all_offered seats) ≤ times x (all_offered seats') → Contains (keys seats) x → Contains (keys seats') x
keys_more seats seats' x le c = contains_more x (keys seats) (keys seats') (omega (arith, times-cons x top_key (all_offered seats), times-cons x top_key (all_offered seats'))) c

pub own_key : (seats : List View) (i : ℕ) (v : View) (x : ℕ) → get_elem? seats i ≡ some v → Contains v.offered x → Contains (keys seats) x
own_key seats i v x at c = contains_more x v.offered (keys seats) (omega (arith, times-cons x top_key (all_offered seats), flat_term (λ (u : View). u.offered) x seats i v at)) c

pub least_le : (m : ℕ) (xs : List ℕ) (x : ℕ) → IsLeast m xs → Contains xs x → m ≤ x
least_le m xs x is c = All-contains (λ (y : ℕ). m ≤ y) xs x is.1 c

sees_moved : (least least' : ℕ) (seats seats' : List View) (v : View) → least' ≤ least → ((x : ℕ) → Contains (keys seats) x → Contains (keys seats') x)
    → SeesRightly least seats v → SeesRightly least' seats' v
sees_moved least least' seats seats' v le more s = ((let a = s.0 in omega arith), s.1, more v.seen s.2)

-- the keys stay as they are, and what each seat has seen fits
pub offers_kept : (least : ℕ) (seats seats' : List View) → OfferRule least seats → ((x : ℕ) → times x (all_offered seats') ≡ times x (all_offered seats))
    → (((x : ℕ) → Contains (keys seats) x → Contains (keys seats') x) → All (SeesRightly least seats') seats') → OfferRule least seats'
offers_kept least seats seats' o same each =
    let more : (x : ℕ) → Contains (keys seats) x → Contains (keys seats') x = λ x c. keys_more seats seats' x (omega (arith, same x)) c in
    record {
      is_least = (more least o.is_least.0, all_of (λ x. least ≤ x) (keys seats') (λ x c. least_le least (keys seats) x o.is_least (keys_more seats' seats x (omega (arith, same x)) c)));
      each = each more;
    }

pub all_moved : (least least' : ℕ) (seats seats' : List View) → least' ≤ least → ((x : ℕ) → Contains (keys seats) x → Contains (keys seats') x)
    → All (SeesRightly least seats) seats → All (SeesRightly least' seats') seats
all_moved least least' seats seats' le more all k d h = sees_moved least least' seats seats' (get_or seats k d) le more (all k d h)

-- one seat sees another key, and offers empty
pub offers_seen : (least : ℕ) (seats : List View) (i : ℕ) (v w : View) → OfferRule least seats → get_elem? seats i ≡ some v
    → w.offered ≡ v.offered → least ≤ w.seen → All (λ k. w.seen ≤ k) v.offered → Contains (keys seats) w.seen → OfferRule least (set seats i w)
offers_seen least seats i v w o at same up down among =
    offers_kept least seats (set seats i w) o (λ x. omega (arith, flat_set_times (λ (u : View). u.offered) x seats i v w at, ap (times x) same))
    (λ more. All-set (SeesRightly least (set seats i w)) seats i w (up, subst (λ ks. All (λ k. w.seen ≤ k) ks) (sym same) down, more w.seen among) (all_moved least least seats (set seats i w) (omega arith) more o.each))

pub offers_same : (least : ℕ) (seats : List View) (i : ℕ) (v w : View) → OfferRule least seats → get_elem? seats i ≡ some v → w.offered ≡ v.offered → w.seen ≡ v.seen → OfferRule least (set seats i w)
offers_same least seats i v w o at same seen =
    let mine = all_at (SeesRightly least seats) seats i v o.each at in
    offers_seen least seats i v w o at same (let a = mine.0 in omega arith) (subst (λ (s : ℕ). All (λ k. s ≤ k) v.offered) (sym seen) mine.1) (subst (Contains (keys seats)) (sym seen) mine.2)

-- the seat reads the least word
pub offers_read : (least : ℕ) (seats : List View) (i : ℕ) (v : View) → OfferRule least seats → get_elem? seats i ≡ some v → OfferRule least (set seats i (record v { seen = least }))
offers_read least seats i v o at =
    offers_seen least seats i v (record v { seen = least }) o at refl (omega arith) (all_of (λ k. least ≤ k) v.offered (λ x c. least_le least (keys seats) x o.is_least (own_key seats i v x at c))) o.is_least.0

pub offers_one : (least key : ℕ) (seats : List View) (i : ℕ) (v : View) → OfferRule least seats → get_elem? seats i ≡ some v
    → OfferRule (min least key) (set seats i (record v { offered = v.offered ++ key ∷ []; seen = min v.seen key }))
offers_one least key seats i v o at =
    let w : View = record v { offered = v.offered ++ key ∷ []; seen = min v.seen key } in
    let seats' : List View = set seats i w in
    let counts : (x : ℕ) → times x (all_offered seats') ≡ times x (all_offered seats) + mark x key = λ x. omega (arith, flat_set_times (λ (u : View). u.offered) x seats i v w at, times-push x key v.offered) in
    let more : (x : ℕ) → Contains (keys seats) x → Contains (keys seats') x = λ x c. keys_more seats seats' x (omega (arith, counts x)) c in
    let new-key : Contains (keys seats') key = found (keys seats') key (omega (arith, times-cons key top_key (all_offered seats'), counts key, one_here key key refl)) in
    let cases : (x : ℕ) → Contains (keys seats') x → Contains (keys seats) x ⊎ (key ≡ x) = λ x c. dite (ℕ_discrete key x) (λ e. inr e) (λ ne. inl (keys_more seats' seats x (omega (arith, counts x, none_here x key ne)) c)) in
    let either-of : (s : ℕ) → Contains (keys seats) s → Contains (keys seats') (min s key) = λ s c. dite (dec_le s key)
    (λ le. let e : s ≡ min s key = omega arith in subst (Contains (keys seats')) e (more s c)) (λ gt. let e : key ≡ min s key = omega arith in subst (Contains (keys seats')) e new-key) in
    let mine = all_at (SeesRightly least seats) seats i v o.each at in
    record {
      is_least = (
        either-of least o.is_least.0,
        all_of (λ x. min least key ≤ x) (keys seats') (λ x c. ⊎_elim (λ (was : Contains (keys seats) x). let le = least_le least (keys seats) x o.is_least was in omega arith) (λ (e : key ≡ x). omega arith) (cases x c)),
      );
      each = All-set (SeesRightly (min least key) seats') seats i w (
        (let a = mine.0 in omega arith),
        All-push (λ k. min v.seen key ≤ k) v.offered key (λ k d h. let a = mine.1 k d h in omega arith) (omega arith),
        either-of v.seen mine.2,
      )
          (all_moved least (min least key) seats seats' (omega arith) more o.each);
    }

pub offers_split : (least : ℕ) (seats : List View) (i : ℕ) (v w u : View) → OfferRule least seats → get_elem? seats i ≡ some v
    → w.offered ≡ v.offered → w.seen ≡ v.seen → u.offered ≡ [] → u.seen ≡ v.seen → OfferRule least (set seats i w ++ u ∷ [])
offers_split least seats i v w u o at same seen empty told =
    let first = offers_same least seats i v w o at same seen in
    let mine = all_at (SeesRightly least seats) seats i v o.each at in
    let seats' : List View = set seats i w in
    offers_kept least seats' (seats' ++ u ∷ []) first (λ x. omega (arith, flat_push_times (λ (s : View). s.offered) x seats' u, ap (times x) empty))
    (λ more. All-push (SeesRightly least (seats' ++ u ∷ [])) seats' u (all_moved least least seats' (seats' ++ u ∷ []) (omega arith) more first.each) (
      (let a = mine.0 in omega arith),
      subst (λ ks. All (λ k. u.seen ≤ k) ks) (sym empty) (λ k d h. absurd (omega arith)),
      more u.seen (subst (Contains (keys seats')) (sym told) (keys_more seats seats' v.seen (omega (arith, flat_set_times (λ (s : View). s.offered) v.seen seats i v w at, ap (times v.seen) same)) mine.2)),
    ))

pub offers_join : (least : ℕ) (seats : List View) (i j : ℕ) (v u w : View) → OfferRule least seats → get_elem? seats i ≡ some v → ¬ (j ≡ i) → get_elem? (set seats i w) j ≡ some u
    → w.offered ≡ v.offered ++ u.offered → w.seen ≡ min v.seen u.seen → OfferRule least (set (set seats i w) j spent)
offers_join least seats i j v u w o at apart there offered seen =
    let seats' : List View = set (set seats i w) j spent in
    let mine = all_at (SeesRightly least seats) seats i v o.each at in
    let theirs = all_at (SeesRightly least seats) seats j u o.each (at_other seats i j w u apart there) in
    let among : Contains (keys seats) (min v.seen u.seen) = dite (dec_le v.seen u.seen)
    (λ le. let e : v.seen ≡ min v.seen u.seen = omega arith in subst (Contains (keys seats)) e mine.2) (λ gt. let e : u.seen ≡ min v.seen u.seen = omega arith in subst (Contains (keys seats)) e theirs.2) in
    offers_kept least seats seats' o
    (λ x. omega (arith, flat_set_times (λ (s : View). s.offered) x seats i v w at, flat_set_times (λ (s : View). s.offered) x (set seats i w) j u spent there, ap (times x) offered, times-append x v.offered u.offered))
    (λ more. All-set (SeesRightly least seats') (set seats i w) j spent
    ((let top = least_le least (keys seats) top_key o.is_least (0, (omega arith), refl) in top), (λ k d h. absurd (omega arith)), (0, (omega arith), refl))
    (All-set (SeesRightly least seats') seats i w (
      (let a = mine.0 in let b = theirs.0 in omega arith),
      subst (λ ks. All (λ k. w.seen ≤ k) ks) (sym offered)
          (All-append (λ k. w.seen ≤ k) v.offered u.offered (λ k d h. let a = mine.1 k d h in omega arith) (λ k d h. let a = theirs.1 k d h in omega arith)),
      more w.seen (subst (Contains (keys seats)) (sym seen) among),
    )
    (all_moved least least seats seats' (omega arith) more o.each)))
