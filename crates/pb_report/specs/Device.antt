-- What a contract sees of a reader or writer that notes its faults.
use Rattle.std.specs.Prelude.{◌≡◌, Bool, ◌||◌, refl, Result, is_err}
use Rattle.std.specs.Coded.{Coded, code_by, coded×, coded_bool}

-- what it holds, and whether that has answered a fault
pub record Device (T : Type 0) : Type 0 where
  pub held : T
  pub failed : Bool

abbrev pub device_code : {T : Type 0} → Coded T → Coded (Device T)
device_code {T} code =
    code_by (T × Bool) (coded× code coded_bool) (λ d. (d.held, d.failed))
    (λ p. record { held = p.0; failed = p.1 }) (λ _. refl)

-- the flag is set where the call answered a fault, and stays as it was where it did not
abbrev pub NotesFault : {T X E : Type 0} → Device T → Device T → Result X E → Type 0
NotesFault old new r = new.failed ≡ (old.failed || is_err r)
