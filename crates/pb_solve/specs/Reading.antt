-- What reading a device to its end tells.
use Rattle.std.specs.Prelude.{◌≡◌, ℕ, Bool, true, false, List, Option, Some, None, Result, Ok, Err, ⊤}
use Rattle.pb_solve.specs.declared.prepare.reading.ReadStop.{ReadStop}
use Rattle.pb_solve.specs.declared.prepare.reading.ReadStop.TheVariants.{Fault, Memory}

-- the device answered a fault
abbrev pub is_fault : {T : Type 0} → Result T ReadStop → Bool
is_fault (Ok text) = false
is_fault (Err Fault) = true
is_fault (Err Memory) = false

-- what was read is the text that is told
abbrev pub TellsText : Option (Option (List ℕ)) → Option (List ℕ) → Type 0
TellsText None None = ⊤
TellsText None (Some text) = ⊥
TellsText (Some told) None = ⊥
TellsText (Some None) (Some text) = ⊤
TellsText (Some (Some told)) (Some text) = text ≡ told
