-- What stays where multipliers are shifted.
use Rattle.std.specs.Prelude.{◌≡◌}
use Rattle.pb_dual.specs.Multipliers.{MultipliersState}

-- the form and the trail are the same; the multipliers may be others
pub record IsSameButShifted (old new : MultipliersState) : Type 0 where
  pub form_is : new.form ≡ old.form
  pub trail_is : new.trail ≡ old.trail
