-- The limits of rows, one row after another.
use Rattle.std.proofs.Common.{◌≡◌, ℕ, ◌+◌, List, [], ◌∷◌, ◌++◌, arith, inl, inr, length-append}
use Rattle.std.proofs.lemmas.Bool.{cases_lt}
use Rattle.std.proofs.lemmas.List.{get_or_append_left, get_or_push}
use Rattle.pb_normal.specs.NormalForm.{PositiveRow}
use Rattle.pb_rows.specs.declared.rows.Limits.{Limits}
use Rattle.pb_rows.specs.Constraints.{row_at}
use Rattle.pb_rows.specs.Table.{AreLimits, AreLimitsOf}

pub limits-next : {C : Type 0} (rows : List PositiveRow) (n : ℕ) (limits : List (Limits C)) (last : Limits C) → AreLimitsOf rows n limits → AreLimits (row_at rows n) last → AreLimitsOf rows (n + 1) (limits ++ last ∷ [])
limits-next {C} rows n limits last so_far next = record {
  count = omega (arith, length-append limits (last ∷ []), so_far.count);
  each = λ r d h.
      elim (cases_lt r n) [
        | inl before ↦ rw (get_or_append_left limits (last ∷ []) d r (omega (arith, so_far.count))) (so_far.each r d before)
        | inr from ↦ (
            let at : r ≡ n = omega arith in
            rw (at, get_or_push limits last d n so_far.count) next)
      ];
}
