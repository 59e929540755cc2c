-- Faults of a writer are no refusals.
use Rattle.std.proofs.Common.{◌≡◌, ◌⊎◌, inl, inr}
use Rattle.std.specs.Prelude.{Result, Ok, Err, IfErr, IsErrOf}
use Rattle.pb_write.specs.declared.fault.WriteFault.{WriteFault}
use Rattle.pb_write.specs.declared.fault.WriteFault.TheVariants.{NotClauses, TooMany, Memory, Write}

abbrev pub IsOfWriter : WriteFault → Type 0
IsOfWriter fault = (fault ≡ Memory) ⊎ (fault ≡ Write)

pub other_than_form : {T : Type 0} (r : Result T WriteFault) → IfErr r IsOfWriter → IsErrOf r NotClauses → ⊥
other_than_form (Ok x) h is = let bad : Ok x ≡ Err NotClauses = is in absurd cc
other_than_form (Err fault) (inl memory) is = absurd cc
other_than_form (Err fault) (inr failed) is = absurd cc

pub other_than_counts : {T : Type 0} (r : Result T WriteFault) → IfErr r IsOfWriter → IsErrOf r TooMany → ⊥
other_than_counts (Ok x) h is = let bad : Ok x ≡ Err TooMany = is in absurd cc
other_than_counts (Err fault) (inl memory) is = absurd cc
other_than_counts (Err fault) (inr failed) is = absurd cc
