-- The counters stay right when a literal is counted or taken back.
use Rattle.std.proofs.Common.{◌≡◌, ℕ, ◌+◌, ◌<◌, ◌≤◌, ◌*◌, List, [], ◌∷◌, ◌++◌, length, get_or, refl, sym, ◌∙◌, ap, arith, Bool, cond, sum_by, All, None}
use Rattle.std.proofs.lemmas.List.Sums.{sum_by-cons}
use Rattle.pb_inst.specs.Literal.{Literal}
use Rattle.pb_normal.specs.declared.terms.PositiveTerm.{PositiveTerm}
use Rattle.pb_normal.specs.NormalForm.{PositiveRow, NormalForm}
use Rattle.pb_rows.specs.Constraints.{row_at}
use Rattle.pb_normal.specs.Fits.{HasSumsBelow}
use Rattle.pb_row_bound.specs.DisjointRows.{gain, loss}
use Rattle.pb_row_bound.specs.Deficits.{are_open, IsDeficitOf, AreCounters}
use Rattle.pb_normal.specs.Literals.{negation, weight_of}
use Rattle.pb_trail.specs.Trail.{is_true, value_on, reached}
use Rattle.pb_row_bound.proofs.BoundLemmas.{reached-le-total}
use Rattle.pb_row_bound.proofs.DeficitLemmas.{deficit-joined, deficit-pushed, deficit-left, deficit-popped}
use Rattle.pb_row_bound.proofs.SpareLemmas.{reached-push}
use Rattle.pb_trail.proofs.TrailLemmas.{is_true-nil}

pub counters-push : {limit : ℕ} (form : NormalForm) (rows : List PositiveRow) (trail : List Literal) (paid new_paid : ℕ) (deficits new_lacks : List ℕ) (open_rows new_wanting : List Bool) (l : Literal) → AreCounters limit form rows trail paid deficits open_rows → value_on trail l.var ≡ None → new_paid ≡ paid + weight_of l form.objective → length new_lacks ≡ length deficits → ((r : ℕ) → r < length deficits → get_or new_lacks r 0 + gain form.objective l (row_at rows r).terms ≡ get_or deficits r 0 + loss form.objective (negation l) (row_at rows r).terms) → new_wanting ≡ are_open limit new_lacks → AreCounters limit form rows (trail ++ l ∷ []) new_paid new_lacks new_wanting
counters-push {limit} form rows trail paid new_paid deficits new_lacks open_rows new_wanting l are free pays count changed wanting_is = record {
  paid_is = omega (arith, are.paid_is, reached-push trail l form.objective free);
  count = count ∙ are.count;
  each = λ r h. deficit-pushed limit form.objective trail l (row_at rows r) (get_or deficits r 0) (get_or new_lacks r 0) free (are.each r h) (changed r (omega (arith, are.count)));
  open_rows_are = wanting_is;
}

pub counters-pop : {limit : ℕ} (form : NormalForm) (rows : List PositiveRow) (trail : List Literal) (paid new_paid : ℕ) (deficits new_lacks : List ℕ) (open_rows new_wanting : List Bool) (l : Literal) → AreCounters limit form rows (trail ++ l ∷ []) paid deficits open_rows → value_on trail l.var ≡ None → new_paid + weight_of l form.objective ≡ paid → length new_lacks ≡ length deficits → ((r : ℕ) → r < length deficits → get_or new_lacks r 0 + loss form.objective (negation l) (row_at rows r).terms ≡ get_or deficits r 0 + gain form.objective l (row_at rows r).terms) → new_wanting ≡ are_open limit new_lacks → AreCounters limit form rows trail new_paid new_lacks new_wanting
counters-pop {limit} form rows trail paid new_paid deficits new_lacks open_rows new_wanting l are free pays count changed wanting_is = record {
  paid_is = omega (arith, are.paid_is, reached-push trail l form.objective free);
  count = count ∙ are.count;
  each = λ r h. deficit-popped limit form.objective trail l (row_at rows r) (get_or deficits r 0) (get_or new_lacks r 0) free (are.each r h) (changed r (omega (arith, are.count)));
  open_rows_are = wanting_is;
}

reached_nothing : (terms : List PositiveTerm) → reached [] terms ≡ 0
unfolding reached
reached_nothing [] = refl
reached_nothing (t ∷ terms) =
    let here : ◌≡◌ {A = ℕ} (cond (is_true [] t.lit) t.coef 0) 0 = rw (is_true-nil t.lit) refl in
    omega (arith, reached_nothing terms, sum_by-cons (λ (u : PositiveTerm). cond (is_true [] u.lit) u.coef 0) t terms)

-- before any literal is counted
pub counters-nil : {limit : ℕ} (form : NormalForm) (rows : List PositiveRow) (deficits : List ℕ) (open_rows : List Bool) → length deficits ≡ length rows → ((r : ℕ) → r < length rows → IsDeficitOf limit form.objective [] (row_at rows r) (get_or deficits r 0)) → open_rows ≡ are_open limit deficits → AreCounters limit form rows [] 0 deficits open_rows
counters-nil {limit} form rows deficits open_rows count each is = record {
  paid_is = sym (reached_nothing form.objective);
  count = count;
  each = each;
  open_rows_are = is;
}

-- the next literal can be counted
pub can_join : {limit : ℕ} (form : NormalForm) (rows : List PositiveRow) (trail : List Literal) (paid : ℕ) (deficits given : List ℕ) (open_rows : List Bool) (l : Literal) → AreCounters limit form rows trail paid deficits open_rows → value_on trail l.var ≡ None → All (λ (row : PositiveRow). HasSumsBelow limit row) rows → given ≡ deficits → (r : ℕ) → r < length given → (gain form.objective l (row_at rows r).terms ≤ get_or given r 0) × (get_or given r 0 + loss form.objective (negation l) (row_at rows r).terms < 2 * limit + gain form.objective l (row_at rows r).terms)
can_join {limit} form rows trail paid deficits given open_rows l are free small same r h =
    let within : r < length rows = omega (arith, ap (λ (xs : List ℕ). length xs) same, are.count) in
    let read = ap (λ (xs : List ℕ). get_or xs r 0) same in
    deficit-joined form.objective trail l (row_at rows r) (get_or given r 0) free (small r (record { terms = []; degree = 0 }) within) (omega (arith, are.each r within))

-- the last literal can be taken back
pub can_leave : {limit : ℕ} (form : NormalForm) (rows : List PositiveRow) (trail : List Literal) (paid : ℕ) (deficits given : List ℕ) (open_rows : List Bool) (l : Literal) → AreCounters limit form rows (trail ++ l ∷ []) paid deficits open_rows → value_on trail l.var ≡ None → All (λ (row : PositiveRow). HasSumsBelow limit row) rows → given ≡ deficits → (r : ℕ) → r < length given → (loss form.objective (negation l) (row_at rows r).terms ≤ get_or given r 0) × (get_or given r 0 + gain form.objective l (row_at rows r).terms < 2 * limit + loss form.objective (negation l) (row_at rows r).terms)
can_leave {limit} form rows trail paid deficits given open_rows l are free small same r h =
    let within : r < length rows = omega (arith, ap (λ (xs : List ℕ). length xs) same, are.count) in
    let read = ap (λ (xs : List ℕ). get_or xs r 0) same in
    deficit-left form.objective trail l (row_at rows r) (get_or given r 0) free (small r (record { terms = []; degree = 0 }) within) (omega (arith, are.each r within))

-- the objective's total bounds what is paid
pub paid_within : (form : NormalForm) (trail : List Literal) (l : Literal) → value_on trail l.var ≡ None → reached trail form.objective + weight_of l form.objective ≤ sum_by (λ (t : PositiveTerm). t.coef) form.objective
paid_within form trail l free = omega (arith, reached-push trail l form.objective free, reached-le-total (trail ++ l ∷ []) form.objective)
