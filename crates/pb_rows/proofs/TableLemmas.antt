-- Sums over occurrences.
use Rattle.std.proofs.Common.{◌≡◌, ◌≢◌, ℕ, ◌+◌, ◌<◌, ◌≤◌, List, [], length, get_or, set, take, refl, ap, sym, ◌∙◌, subst, arith, cond, eqb, inl, inr, get_or-set_same, get_or-set_other}
use Rattle.std.proofs.lemmas.Bool.{eq-eqb, ne_eqb, cases_eq}
use Rattle.std.proofs.lemmas.List.Sums.{sum_by_more, sum_by_more_le}
use Rattle.pb_rows.specs.Occurrences.{Occurrence}
use Rattle.pb_rows.specs.Index.{total_by}

abbrev pub none : Occurrence
none = record { row = 0; coef = 0 }

pub total_by-nil : {A : Type 0} → (f : A → Occurrence) → (r : ℕ) → total_by f r [] ≡ 0
unfolding total_by
total_by-nil f r = refl

-- the occurrences so far and the next one are within all of them
pub total_by-within : {A : Type 0} → (f : A → Occurrence) → (os : List A) (i : ℕ) (d : A) → i < length os → total_by f (f (get_or os i d)).row (take i os) + (f (get_or os i d)).coef ≤ total_by f (f (get_or os i d)).row os
unfolding total_by
total_by-within f os i d h =
    let r = (f (get_or os i d)).row in
    let more = sum_by_more_le (λ o. cond (eqb (f o).row r) (f o).coef 0) os i d h in
    let at : cond (eqb (f (get_or os i d)).row r) (f (get_or os i d)).coef 0 ≡ (f (get_or os i d)).coef = rw (eq-eqb r r refl) refl in
    omega arith

pub total_by-next : {A : Type 0} → (f : A → Occurrence) → (os : List A) (i : ℕ) (d : A) → i < length os → total_by f (f (get_or os i d)).row (take (i + 1) os) ≡ total_by f (f (get_or os i d)).row (take i os) + (f (get_or os i d)).coef
unfolding total_by
total_by-next f os i d h =
    let r = (f (get_or os i d)).row in
    let more = sum_by_more (λ o. cond (eqb (f o).row r) (f o).coef 0) os i d h in
    let at : cond (eqb (f (get_or os i d)).row r) (f (get_or os i d)).coef 0 ≡ (f (get_or os i d)).coef = rw (eq-eqb r r refl) refl in
    omega arith

pub total_by-other : {A : Type 0} → (f : A → Occurrence) → (os : List A) (i : ℕ) (d : A) (r : ℕ) → i < length os → (f (get_or os i d)).row ≢ r → total_by f r (take (i + 1) os) ≡ total_by f r (take i os)
unfolding total_by
total_by-other f os i d r h other =
    let more = sum_by_more (λ o. cond (eqb (f o).row r) (f o).coef 0) os i d h in
    let at : cond (eqb (f (get_or os i d)).row r) (f (get_or os i d)).coef 0 ≡ 0 = rw (ne_eqb (f (get_or os i d)).row r other) refl in
    omega arith

-- one more occurrence is taken from the sum of its row
pub lower_step : {A : Type 0} → (f : A → Occurrence) → (before sums : List ℕ) (os : List A) (i : ℕ) (d : A) (row left : ℕ) → i < length os → row ≡ (f (get_or os i d)).row → row < length sums → left + (f (get_or os i d)).coef ≡ get_or sums row 0 → ((r : ℕ) → r < length sums → get_or sums r 0 + total_by f r (take i os) ≡ get_or before r 0) → (r : ℕ) → r < length sums → get_or (set sums row left) r 0 + total_by f r (take (i + 1) os) ≡ get_or before r 0
lower_step f before sums os i d row left h is exists taken so_far r within =
    elim (cases_eq row r) [
      | inl same ↦
          let next = total_by-next f os i d h in
          let known = so_far row exists in
          let was = ap (λ (k : ℕ). total_by f k (take i os)) is in
          let now = ap (λ (k : ℕ). total_by f k (take (i + 1) os)) is in
          let here : get_or (set sums row left) row 0 + total_by f row (take (i + 1) os) ≡ get_or before row 0 = rw get_or-set_same (omega arith) in
          subst (λ (k : ℕ). get_or (set sums row left) k 0 + total_by f k (take (i + 1) os) ≡ get_or before k 0) same here
      | inr other ↦
          let back : r ≢ row = λ e. other (sym e) in
          let next = total_by-other f os i d r h (λ e. other (is ∙ e)) in
          let known = so_far r within in
          rw (get_or-set_other) (omega arith)
    ]

-- one more occurrence is added to the sum of its row
pub raise_step : {A : Type 0} → (f : A → Occurrence) → (before sums : List ℕ) (os : List A) (i : ℕ) (d : A) (row more : ℕ) → i < length os → row ≡ (f (get_or os i d)).row → row < length sums → more ≡ get_or sums row 0 + (f (get_or os i d)).coef → ((r : ℕ) → r < length sums → get_or sums r 0 ≡ get_or before r 0 + total_by f r (take i os)) → (r : ℕ) → r < length sums → get_or (set sums row more) r 0 ≡ get_or before r 0 + total_by f r (take (i + 1) os)
raise_step f before sums os i d row more h is exists added so_far r within =
    elim (cases_eq row r) [
      | inl same ↦
          let next = total_by-next f os i d h in
          let known = so_far row exists in
          let was = ap (λ (k : ℕ). total_by f k (take i os)) is in
          let now = ap (λ (k : ℕ). total_by f k (take (i + 1) os)) is in
          let here : get_or (set sums row more) row 0 ≡ get_or before row 0 + total_by f row (take (i + 1) os) = rw get_or-set_same (omega arith) in
          subst (λ (k : ℕ). get_or (set sums row more) k 0 ≡ get_or before k 0 + total_by f k (take (i + 1) os)) same here
      | inr other ↦
          let back : r ≢ row = λ e. other (sym e) in
          let next = total_by-other f os i d r h (λ e. other (is ∙ e)) in
          let known = so_far r within in
          rw (get_or-set_other) (omega arith)
    ]
