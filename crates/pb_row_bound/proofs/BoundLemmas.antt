-- What the trail already pays stays within the bound on sums.
use Rattle.std.proofs.Common.{◌≡◌, ℕ, ℤ, ◌≤◌, List, refl, sym, ◌∙◌, ap, subst, arith, Bool, true, false, cond, sum_by}
use Rattle.std.specs.Prelude.{pos, neg_ℤ, ◌≤ℤ◌, ◌+ℤ◌, unsigned_abs, FitsSigned}
use Rattle.pb_inst.specs.declared.limits.TheConstants.{SUM_BOUND}
use Rattle.pb_inst.proofs.NumberWidth.{number_width}
use Rattle.std.proofs.lemmas.Int.{ints, to_z-of_z, to_z_pos, fits_signed_from_abs}
use mir.Val.{to_z, of_z}
use Rattle.std.proofs.lemmas.List.Sums.{sum_by-le-sum_by}
use Rattle.pb_inst.specs.Literal.{Literal}
use Rattle.pb_normal.specs.declared.terms.PositiveTerm.{PositiveTerm}
use Rattle.pb_trail.specs.Trail.{is_true, reached}

pub reached-le-total : (trail : List Literal) (terms : List PositiveTerm) → reached trail terms ≤ sum_by (λ (t : PositiveTerm). t.coef) terms
unfolding reached
reached-le-total trail terms = sum_by-le-sum_by (λ (t : PositiveTerm). cond (is_true trail t.lit) t.coef 0) (λ (t : PositiveTerm). t.coef) terms (λ t. at_most (is_true trail t.lit) t.coef)
  where
    at_most : (b : Bool) (n : ℕ) → cond b n 0 ≤ n
    at_most true n = omega arith
    at_most false n = omega arith

-- the base and what the trail pays stay within the bound on sums
pub paid_in_range : (base : ℤ) (paid total : ℕ) → unsigned_abs base ≤ SUM_BOUND → (base +ℤ pos total) ≤ℤ pos SUM_BOUND → paid ≤ total → (neg_ℤ (pos SUM_BOUND) ≤ℤ (base +ℤ pos paid)) × ((base +ℤ pos paid) ≤ℤ pos SUM_BOUND)
paid_in_range base paid total low high most = (omega (arith, ints), omega (arith, ints))

fits_in_range : (z : ℤ) → neg_ℤ (pos SUM_BOUND) ≤ℤ z → z ≤ℤ pos SUM_BOUND → FitsSigned number_width z
fits_in_range z low high = omega (arith, ints)

-- the sum of the base and what is paid, as the code makes it
pub sum_is : (base : ℤ) (paid total : ℕ) → unsigned_abs base ≤ SUM_BOUND → (base +ℤ pos total) ≤ℤ pos SUM_BOUND → paid ≤ total → total ≤ SUM_BOUND → FitsSigned number_width (to_z number_width (of_z number_width base) +ℤ to_z number_width paid) × (to_z number_width (of_z number_width (to_z number_width (of_z number_width base) +ℤ to_z number_width paid)) ≡ base +ℤ pos paid)
sum_is base paid total low high most small =
    let base_fits : FitsSigned number_width base = fits_signed_from_abs number_width base (omega arith) in
    let inner : to_z number_width (of_z number_width base) +ℤ to_z number_width paid ≡ base +ℤ pos paid = rw (to_z-of_z number_width base base_fits, to_z_pos number_width paid (omega arith)) refl in
    let range = paid_in_range base paid total low high most in
    let fits = fits_in_range (base +ℤ pos paid) range.0 range.1 in
    (subst (FitsSigned number_width) (sym inner) fits, ap (λ (z : ℤ). to_z number_width (of_z number_width z)) inner ∙ to_z-of_z number_width (base +ℤ pos paid) fits)
