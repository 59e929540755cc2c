-- The rule of claims, where one seat changes, is cut in two, or takes in another.
use Rattle.std.proofs.Common.{◌≡◌, ℕ, ◌+◌, ◌*◌, ◌<◌, ◌≤◌, List, [], ◌∷◌, ◌++◌, Bool, length, set, cond, ltb, lt-ltb, le-ltb, sym, refl, ap, ◌∙◌, subst, arith, length-append}
use Rattle.std.specs.Prelude.{All, Contains}
use mathlib.Core.Option.{some}
use mathlib.Core.Logic.{dite}
use native.Mathlib.Decide.{ℕ_discrete, dec_lt}
use lib.ListN.{get_elem?}
use Rattle.std.proofs.lemmas.List.Sums.{sum_by-cons, sum_by-append}
use Rattle.std.proofs.lemmas.List.Elements.{All-head, All-tail, All-set, All-push}
use Rattle.pb_board.specs.declared.view.View.{View}
use Rattle.pb_board.specs.Numbers.{times}
use Rattle.pb_board.specs.Rule.{most_claims, spent, all_parts, all_claimed, IsSeat, ClaimRule}
use Rattle.pb_board.proofs.Counts.{all_at, sum_set, flat_set_times, flat_set_length, flat_push_times, flat_push_length, flat_term, times-append, times-push, mark, one_here, none_here, counted}

pub seat_claims : (v : View) → IsSeat v → length v.claimed ≤ most_claims * v.parts
seat_claims v is =
    dite (ℕ_discrete v.parts 0) (λ empty. omega (arith, ap (λ (u : View). length u.claimed) (is.0 empty)))
    (λ some-part. let few = is.1 in omega arith)

pub claims_le : (seats : List View) → All IsSeat seats → length (all_claimed seats) ≤ most_claims * all_parts seats
claims_le [] all = omega arith
claims_le (v ∷ vs) all =
    omega (arith, claims_le vs (All-tail IsSeat v vs all), seat_claims v (All-head IsSeat v vs all), length-append v.claimed (all_claimed vs), sum_by-cons (λ (u : View). u.parts) v vs)

-- there are at most 2^63 claims, so a claim never wraps the counter
pub counter_le : (workers counter : ℕ) (seats : List View) → ClaimRule workers counter seats → counter ≤ 9223372036854775808
counter_le workers counter seats r = let few = r.limit in let sum = r.parts in let is = r.count in omega (arith, claims_le seats r.each)

abbrev pub one_if : Bool → ℕ
one_if b = cond b 1 0

lt_yes : (x c : ℕ) → x < c → one_if (ltb x c) ≡ 1
lt_yes x c h = ap one_if (lt-ltb x c h)

lt_no : (x c : ℕ) → c ≤ x → one_if (ltb x c) ≡ 0
lt_no x c h = ap one_if (le-ltb x c h)

once_more : (x c : ℕ) → cond (ltb x c) 1 0 + mark x c ≡ cond (ltb x (c + 1)) 1 0
once_more x c =
    dite (dec_lt x c)
    (λ below. let not-here = none_here x c (λ e. omega arith) in let was = lt_yes x c below in let is = lt_yes x (c + 1) (omega arith) in omega arith)
    (λ above. dite (ℕ_discrete c x)
    (λ e. let here = one_here x c e in let was = lt_no x c (omega arith) in let is = lt_yes x (c + 1) (omega arith) in omega arith)
    (λ ne. let not-here = none_here x c ne in let was = lt_no x c (omega arith) in let is = lt_no x (c + 1) (omega arith) in omega arith))

-- the claims of one seat may change, with those of the counter
claims_set : (workers c c' : ℕ) (seats : List View) (i : ℕ) (v w : View) → ClaimRule workers c seats → get_elem? seats i ≡ some v
    → w.parts ≡ v.parts → IsSeat w → length w.claimed + c ≡ length v.claimed + c'
    → ((x : ℕ) → times x w.claimed + cond (ltb x c) 1 0 ≡ times x v.claimed + cond (ltb x c') 1 0)
    → ClaimRule workers c' (set seats i w)
claims_set workers c c' seats i v w r at parts is size each =
    let sum = r.parts in let count = r.count in
    record {
      limit = r.limit;
      parts = omega (arith, sum_set (λ (u : View). u.parts) seats i v w at);
      each = All-set IsSeat seats i w is r.each;
      count = omega (arith, flat_set_length (λ (u : View). u.claimed) seats i v w at);
      numbers = λ x. omega (arith, flat_set_times (λ (u : View). u.claimed) x seats i v w at, r.numbers x, each x);
    }

pub claims_same : (workers c : ℕ) (seats : List View) (i : ℕ) (v w : View) → ClaimRule workers c seats → get_elem? seats i ≡ some v
    → 0 < v.parts → w.parts ≡ v.parts → w.claimed ≡ v.claimed → ClaimRule workers c (set seats i w)
claims_same workers c seats i v w r at part parts claimed =
    claims_set workers c c seats i v w r at parts ((λ z. absurd (omega arith)), subst (λ ks. length ks ≤ most_claims) (sym claimed) (all_at IsSeat seats i v r.each at).1)
    (ap (λ ks. length ks + c) claimed) (λ x. ap (λ ks. times x ks + cond (ltb x c) 1 0) claimed)

pub claims_one : (workers c : ℕ) (seats : List View) (i : ℕ) (v : View) → ClaimRule workers c seats → get_elem? seats i ≡ some v
    → 0 < v.parts → length v.claimed < most_claims → ClaimRule workers (c + 1) (set seats i (record v { claimed = v.claimed ++ c ∷ [] }))
claims_one workers c seats i v r at part room =
    claims_set workers c (c + 1) seats i v (record v { claimed = v.claimed ++ c ∷ [] }) r at refl
    ((λ z. absurd (omega arith)), omega (arith, length-append v.claimed (c ∷ []))) (omega (arith, length-append v.claimed (c ∷ [])))
    (λ x. omega (arith, times-push x c v.claimed, once_more x c))

pub claims_split : (workers c : ℕ) (seats : List View) (i : ℕ) (v w u : View) → ClaimRule workers c seats → get_elem? seats i ≡ some v
    → 0 < w.parts → 0 < u.parts → w.parts + u.parts ≡ v.parts → w.claimed ≡ v.claimed → u.claimed ≡ [] → ClaimRule workers c (set seats i w ++ u ∷ [])
claims_split workers c seats i v w u r at left right parts claimed empty =
    let sum = r.parts in let count = r.count in
    let size : length w.claimed ≡ length v.claimed = ap length claimed in let no-size : length u.claimed ≡ 0 = ap length empty in
    record {
      limit = r.limit;
      parts = omega (arith, sum_set (λ (s : View). s.parts) seats i v w at, sum_by-append (λ (s : View). s.parts) (set seats i w) (u ∷ []));
      each = All-push IsSeat (set seats i w) u
          (All-set IsSeat seats i w ((λ z. absurd (omega arith)), (let few = (all_at IsSeat seats i v r.each at).1 in omega arith)) r.each)
          ((λ z. absurd (omega arith)), omega arith);
      count = omega (arith, flat_set_length (λ (s : View). s.claimed) seats i v w at, flat_push_length (λ (s : View). s.claimed) (set seats i w) u);
      numbers = λ x. omega (arith, flat_set_times (λ (s : View). s.claimed) x seats i v w at, flat_push_times (λ (s : View). s.claimed) x (set seats i w) u, r.numbers x, ap (times x) claimed, ap (times x) empty);
    }

pub claims_join : (workers c : ℕ) (seats : List View) (i j : ℕ) (v u w : View) → ClaimRule workers c seats → get_elem? seats i ≡ some v → get_elem? (set seats i w) j ≡ some u
    → 0 < v.parts → w.parts ≡ v.parts + u.parts → w.claimed ≡ v.claimed ++ u.claimed → length v.claimed + length u.claimed ≤ most_claims
    → ClaimRule workers c (set (set seats i w) j spent)
claims_join workers c seats i j v u w r at there some-part parts claimed room =
    let sum = r.parts in let count = r.count in
    let size : length w.claimed ≡ length v.claimed + length u.claimed = ap length claimed ∙ length-append v.claimed u.claimed in
    record {
      limit = r.limit;
      parts = omega (arith, sum_set (λ (s : View). s.parts) seats i v w at, sum_set (λ (s : View). s.parts) (set seats i w) j u spent there);
      each = All-set IsSeat (set seats i w) j spent ((λ _. refl), omega arith) (All-set IsSeat seats i w ((λ z. absurd (omega arith)), omega arith) r.each);
      count = omega (arith, flat_set_length (λ (s : View). s.claimed) seats i v w at, flat_set_length (λ (s : View). s.claimed) (set seats i w) j u spent there);
      numbers = λ x. omega (arith, flat_set_times (λ (s : View). s.claimed) x seats i v w at, flat_set_times (λ (s : View). s.claimed) x (set seats i w) j u spent there, r.numbers x, ap (times x) claimed, times-append x v.claimed u.claimed);
    }

-- each claimed number is below the counter
pub claimed_below : (workers c : ℕ) (seats : List View) (i : ℕ) (v : View) → ClaimRule workers c seats → get_elem? seats i ≡ some v → (x : ℕ) → Contains v.claimed x → x < c
claimed_below workers c seats i v r at x there =
    dite (dec_lt x c) (λ h. h)
    (λ n. absurd (omega (arith, counted v.claimed x there, flat_term (λ (u : View). u.claimed) x seats i v at, r.numbers x, lt_no x c (omega arith))))
