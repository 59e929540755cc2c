-- Multipliers beside the trail of a search.
use Rattle.std.specs.Prelude.{◌≡◌, List, length, take}
use Rattle.pb_inst.specs.Literal.{Literal}
use Rattle.pb_normal.specs.NormalForm.{NormalForm}
use Rattle.pb_dual.specs.Multipliers.{MultipliersState}

-- the multipliers are for this form, and have followed the trail up to some place
pub record IsBeside (form : NormalForm) (trail : List Literal) (m : MultipliersState) : Type 0 where
  pub form_is : m.form ≡ form
  pub trail_is : m.trail ≡ take (length m.trail) trail
