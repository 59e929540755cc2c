-- How the deficits of rows are kept up to date.
use Rattle.std.proofs.Common.{◌≡◌, ℕ, ◌+◌, ◌-◌, ◌<◌, ◌≤◌, List, [], ◌∷◌, ◌++◌, length, get_or, set, map, take, replicate, refl, sym, ◌∙◌, ap, arith, Bool, false, get_or-set_same, length-append, suc, None, ◌*◌}
use Rattle.std.specs.Prelude.{nat_lt}
use Rattle.std.proofs.lemmas.List.{map-set, length-map, take_more, take_all, map_push, length-take-le, length-replicate}
use Rattle.pb_inst.specs.Literal.{Literal}
use Rattle.pb_normal.specs.declared.terms.PositiveTerm.{PositiveTerm}
use Rattle.pb_normal.specs.NormalForm.{PositiveRow}
use Rattle.pb_normal.specs.Fits.{HasSumsBelow}
use Rattle.pb_row_bound.specs.DisjointRows.{gain, loss}
use Rattle.pb_normal.specs.Literals.{negation}
use Rattle.pb_trail.specs.Trail.{value_on}
use Rattle.pb_row_bound.proofs.SpareLemmas.{spare-push}
use Rattle.pb_row_bound.specs.Deficits.{are_open, IsDeficitOf}

pub are_open-set : (limit : ℕ) (deficits : List ℕ) (r deficit : ℕ) → are_open limit (set deficits r deficit) ≡ set (are_open limit deficits) r (nat_lt limit deficit)
unfolding are_open
are_open-set limit deficits r deficit = map-set (λ (n : ℕ). nat_lt limit n) deficits r deficit

pub length-are_open : (limit : ℕ) (deficits : List ℕ) → length (are_open limit deficits) ≡ length deficits
unfolding are_open
length-are_open limit deficits = length-map deficits (λ (n : ℕ). nat_lt limit n)

-- the row of a changed deficit is open where that is above the limit
pub are_open-put : (limit : ℕ) (old new : List Bool) (deficits : List ℕ) (r deficit met read : ℕ) (wanted : Bool) → old ≡ are_open limit deficits → r < length deficits → met ≡ limit → read ≡ get_or (set deficits r deficit) r read → wanted ≡ nat_lt met read → new ≡ set old r wanted → new ≡ are_open limit (set deficits r deficit)
are_open-put limit old new deficits r deficit met read wanted was within met_is read_is tested is =
    let written : get_or (set deficits r deficit) r read ≡ deficit = rw get_or-set_same refl in
    let test : wanted ≡ nat_lt limit deficit = tested ∙ (ap (λ (n : ℕ). nat_lt n read) met_is ∙ ap (λ (n : ℕ). nat_lt limit n) (read_is ∙ written)) in
    is ∙ (ap (λ (ms : List Bool). set ms r wanted) was ∙ (ap (λ (b : Bool). set (are_open limit deficits) r b) test ∙ sym (are_open-set limit deficits r deficit)))

-- there is a place for each row
pub are_open-room : (limit : ℕ) (members : List Bool) (deficits : List ℕ) → members ≡ are_open limit deficits → length members ≡ length deficits
are_open-room limit members deficits is = ap (λ (ms : List Bool). length ms) is ∙ length-are_open limit deficits

-- the rows so far, and none of those to come
pub are_open_none : (limit : ℕ) (members : List Bool) (deficits : List ℕ) → members ≡ replicate (length deficits) false → members ≡ are_open limit (take 0 deficits) ++ replicate (length deficits - 0) false
unfolding are_open
are_open_none limit members deficits is = is ∙ ap (λ (n : ℕ). replicate n false) (let same : length deficits ≡ length deficits - 0 = omega arith in same)

set_at_end : (xs ys : List Bool) (y b : Bool) → set (xs ++ y ∷ ys) (length xs) b ≡ (xs ++ b ∷ []) ++ ys
set_at_end [] ys y b = refl
set_at_end (x ∷ xs) ys y b = ap (λ (zs : List Bool). x ∷ zs) (set_at_end xs ys y b)

pub are_open_next : (limit : ℕ) (old new : List Bool) (deficits : List ℕ) (i deficit : ℕ) → i < length deficits → deficit ≡ get_or deficits i 0 → old ≡ are_open limit (take i deficits) ++ replicate (length deficits - i) false → new ≡ set old i (nat_lt limit deficit) → new ≡ are_open limit (take (i + 1) deficits) ++ replicate (length deficits - (i + 1)) false
unfolding are_open
are_open_next limit old new deficits i deficit h read was is =
    let f : ℕ → Bool = λ n. nat_lt limit n in
    let left : replicate (length deficits - i) false ≡ false ∷ replicate (length deficits - (i + 1)) false = one_less (length deficits - i) (length deficits - (i + 1)) (omega arith) in
    let count : length (are_open limit (take i deficits)) ≡ i = length-are_open limit (take i deficits) ∙ length-take-le i deficits (omega arith) in
    let more : are_open limit (take (i + 1) deficits) ≡ are_open limit (take i deficits) ++ nat_lt limit deficit ∷ [] = ap (are_open limit) (take_more deficits i 0 h) ∙ (map_push f (take i deficits) (get_or deficits i 0) ∙ ap (λ (n : ℕ). map f (take i deficits) ++ nat_lt limit n ∷ []) (sym read)) in
    is ∙ (ap (λ (ms : List Bool). set ms i (nat_lt limit deficit)) (was ∙ ap (λ (ms : List Bool). are_open limit (take i deficits) ++ ms) left)
    ∙ (ap (λ (n : ℕ). set (are_open limit (take i deficits) ++ false ∷ replicate (length deficits - (i + 1)) false) n (nat_lt limit deficit)) (sym count)
    ∙ (set_at_end (are_open limit (take i deficits)) (replicate (length deficits - (i + 1)) false) false (nat_lt limit deficit)
    ∙ ap (λ (ms : List Bool). ms ++ replicate (length deficits - (i + 1)) false) (sym more))))
  where
    one_less : (m n : ℕ) → m ≡ suc n → replicate m false ≡ false ∷ replicate n false
    one_less m n e = rw e refl

pub are_open_all : (limit : ℕ) (members : List Bool) (deficits : List ℕ) (i : ℕ) → length deficits ≤ i → members ≡ are_open limit (take i deficits) ++ replicate (length deficits - i) false → members ≡ are_open limit deficits
are_open_all limit members deficits i late is =
    let nought : length deficits - i ≡ 0 = omega arith in
    is ∙ (ap (λ (n : ℕ). are_open limit (take i deficits) ++ replicate n false) nought ∙ (append-nil (are_open limit (take i deficits)) ∙ ap (are_open limit) (take_all i deficits late)))
  where
    append-nil : (xs : List Bool) → xs ++ [] ≡ xs
    append-nil [] = refl
    append-nil (x ∷ xs) = ap (λ (ys : List Bool). x ∷ ys) (append-nil xs)

pub are_open_so_far : (limit : ℕ) (members : List Bool) (deficits : List ℕ) (i : ℕ) → i ≤ length deficits → members ≡ are_open limit (take i deficits) ++ replicate (length deficits - i) false → length members ≡ length deficits
are_open_so_far limit members deficits i h is =
    omega (arith, ap (λ (ms : List Bool). length ms) is, length-append (are_open limit (take i deficits)) (replicate (length deficits - i) false), length-are_open limit (take i deficits), length-take-le i deficits h, length-replicate (length deficits - i) false)

-- a literal joins the trail: its rows have enough to lose, their deficits stay within bounds, and what they are then
pub deficit-joined : {limit : ℕ} (objective : List PositiveTerm) (trail : List Literal) (l : Literal) (row : PositiveRow) (deficit : ℕ) → value_on trail l.var ≡ None → HasSumsBelow limit row → IsDeficitOf limit objective trail row deficit → (gain objective l row.terms ≤ deficit) × (deficit + loss objective (negation l) row.terms < 2 * limit + gain objective l row.terms)
deficit-joined {limit} objective trail l row deficit free small is =
    let push = spare-push objective trail l row.terms free in
    (omega (arith, push.0, push.1, small.0, small.1), omega (arith, push.0, push.1, small.0, small.1))

pub deficit-pushed : (limit : ℕ) (objective : List PositiveTerm) (trail : List Literal) (l : Literal) (row : PositiveRow) (deficit new : ℕ) → value_on trail l.var ≡ None → IsDeficitOf limit objective trail row deficit → new + gain objective l row.terms ≡ deficit + loss objective (negation l) row.terms → IsDeficitOf limit objective (trail ++ l ∷ []) row new
deficit-pushed limit objective trail l row deficit new free is changed = omega (arith, (spare-push objective trail l row.terms free).0)

-- a literal leaves the trail
pub deficit-left : {limit : ℕ} (objective : List PositiveTerm) (trail : List Literal) (l : Literal) (row : PositiveRow) (deficit : ℕ) → value_on trail l.var ≡ None → HasSumsBelow limit row → IsDeficitOf limit objective (trail ++ l ∷ []) row deficit → (loss objective (negation l) row.terms ≤ deficit) × (deficit + gain objective l row.terms < 2 * limit + loss objective (negation l) row.terms)
deficit-left {limit} objective trail l row deficit free small is =
    let push = spare-push objective trail l row.terms free in
    (omega (arith, push.0, push.1, small.0, small.1), omega (arith, push.0, push.1, small.0, small.1))

pub deficit-popped : (limit : ℕ) (objective : List PositiveTerm) (trail : List Literal) (l : Literal) (row : PositiveRow) (deficit new : ℕ) → value_on trail l.var ≡ None → IsDeficitOf limit objective (trail ++ l ∷ []) row deficit → new + loss objective (negation l) row.terms ≡ deficit + gain objective l row.terms → IsDeficitOf limit objective trail row new
deficit-popped limit objective trail l row deficit new free is changed = omega (arith, (spare-push objective trail l row.terms free).0)
