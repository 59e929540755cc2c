-- What a run promises of the bytes that it read and wrote.
use Rattle.std.specs.Prelude.{◌≡◌, ℕ, Bool, true, false, List, Option, None, Some, IfSome, Result, Ok, Err, ⊤, ◌⊎◌}
use Rattle.std.proofs.Common.{inl, inr}
use Rattle.std.specs.Borrow.{MutBor}
use Rattle.std.specs.Io.KnownBytes.{Appends}
use Rattle.pb_inst.specs.Literal.{Literal}
use Rattle.pb_inst.specs.Problem.{Problem}
use Rattle.pb_cubes.specs.Pieces.{CubeList}
use Rattle.pb_read.specs.declared.format.Format.{Format}
use Rattle.pb_read.specs.declared.fault.ReadFault.{ReadFault}
use Rattle.pb_report.specs.declared.statuses.Status.{Status}
use Rattle.pb_report.specs.declared.statuses.Status.TheVariants.{Unsupported}
use Rattle.pb_report.specs.Written.{refusal_report}
use Rattle.pb_solve.specs.declared.prepare.Prepared.{Prepared}
use Rattle.pb_solve.specs.declared.prepare.PrepareError.{PrepareError}
use Rattle.pb_solve.specs.declared.prepare.PrepareError.TheVariants.{ReadInput, ReadCubes, Memory, Refused}
use Rattle.pb_report.specs.Device.{Device}
use Rattle.pb_report.specs.declared.ends.Refusal.TheVariants as refusal
use Rattle.pb_read.specs.Format.{Spells, text_refusal}
use Rattle.pb_report.specs.Outcome as outcome
use Rattle.pb_report.specs.Outcome.{Outcome, report, status_of}
pub use Rattle.pb_report.specs.Outcome.{Answers}
use Rattle.pb_report.specs.Found.{Found, found_report, found_status}
pub use Rattle.pb_report.specs.Found.{AnswersHeld}
use Rattle.pb_solve.specs.Outcome.{IsOutcome, IsDivisionRefused}
use Rattle.pb_solve.specs.Budgeted.{IsFoundIn, IsFoundOf}
use Rattle.pb_solve.specs.Division.{IsDivided}

-- what the cube file has left: nothing where there is no file, else its text where the reader tells it
abbrev pub text_left : {T : Type 0} → (T → Option (List ℕ)) → Option (MutBor (Device T)) → Option (Option (List ℕ))
text_left remaining None = None
text_left remaining (Some device) = Some (remaining device.now.held)

-- an optional device that has not failed
abbrev pub IsUnfailed : {T : Type 0} → Option (MutBor (Device T)) → Type 0
IsUnfailed None = ⊤
IsUnfailed (Some device) = device.now.failed ≡ false

-- whether an optional device has failed by the return
abbrev pub failed_after : {T X Y : Type 0} → Unit {0} ⊎ ((MutBor (Device T) × X) ⊎ Y) → Bool
failed_after (inl none) = false
failed_after (inr (inl some)) = some.0.now.failed
failed_after (inr (inr never)) = false

-- an optional device is at the return what it was
abbrev pub IsUnread : {T X Y : Type 0} → Option (MutBor (Device T)) → Unit {0} ⊎ ((MutBor (Device T) × X) ⊎ Y) → Type 0
IsUnread None after = ⊤
IsUnread (Some device) (inl none) = ⊤
IsUnread (Some device) (inr (inl some)) = some.0.now ≡ device.now
IsUnread (Some device) (inr (inr never)) = ⊤

-- a fact about the texts that readers tell: of the input, and of the cube file where there is one
abbrev pub WhereTold : Option (List ℕ) → Option (Option (List ℕ)) → (List ℕ → Option (List ℕ) → Type 0) → Type 0
WhereTold input None P = IfSome input (λ text. P text None)
WhereTold input (Some None) P = ⊤
WhereTold input (Some (Some cubes)) P = IfSome input (λ text. P text (Some cubes))

-- a run ended with this status, and all that it wrote is the report of the outcome of what it was given
pub record Reports (format : Format) (input : Option (List ℕ)) (cubes : Option (Option (List ℕ))) (split : ℕ) (old new : Option (List ℕ)) (ended : Status) : Type 0 where
  pub outcome : Outcome
  pub ends : ended ≡ status_of outcome
  pub writes : Appends old new (report format outcome)
  pub right : WhereTold input cubes (λ text cube_text. IsOutcome format text cube_text split outcome)

-- a run that was cut ended with this status, and all that it wrote is the report of what was found of what it was given
pub record ReportsFound (format : Format) (input : Option (List ℕ)) (cubes : Option (Option (List ℕ))) (split : ℕ) (old new : Option (List ℕ)) (ended : Status) : Type 0 where
  pub found : Found
  pub ends : ended ≡ found_status found
  pub writes : Appends old new (found_report format found)
  pub right : WhereTold input cubes (λ text cube_text. IsFoundIn format text cube_text split found)

-- a run ended with this status, and all that it wrote is the report that the input is refused for this
pub record ReportsRefusal (fault : ReadFault) (old new : Option (List ℕ)) (ended : Status) : Type 0 where
  pub ends : ended ≡ Unsupported
  pub writes : Appends old new (refusal_report (refusal.Input fault))

-- a run that was cut ended with this status, and all that it wrote is the report of what was found of the instance and its pieces
pub record AnswersFound (format : Format) (p : Problem) (pieces : CubeList) (old new : Option (List ℕ)) (ended : Status) : Type 0 where
  pub found : Found
  pub ends : ended ≡ found_status found
  pub writes : Appends old new (found_report format found)
  pub right : IsFoundOf p pieces found

-- the input spells the instance, with cubes of its own, and the cubes and the split are accepted and make the pieces
abbrev pub IsAccepted : Format → List ℕ → Option (List ℕ) → ℕ → Prepared → Type 0
IsAccepted format text cube_text split found = (input_cubes : List (List Literal)) × Spells format text found.instance input_cubes × IsDivided found.instance input_cubes cube_text split found.pieces.cubes

-- the instance and the pieces of the texts and the split, unless something is refused: then that is the outcome
abbrev pub IsPrepared : Format → Option (List ℕ) → Option (Option (List ℕ)) → ℕ → Result Prepared PrepareError → Type 0
IsPrepared format input cubes split (Ok found) = WhereTold input cubes (λ text cube_text. IsAccepted format text cube_text split found)
IsPrepared format input cubes split (Err ReadInput) = ⊤
IsPrepared format input cubes split (Err ReadCubes) = ⊤
IsPrepared format input cubes split (Err Memory) = ⊤
IsPrepared format input cubes split (Err (Refused refusal)) = WhereTold input cubes (λ text cube_text. IsOutcome format text cube_text split (outcome.Refused refusal))

-- the input could not be read, or memory ran out, or the input is refused with this fault
abbrev pub IsInputError : Format → Option (List ℕ) → PrepareError → Type 0
IsInputError format input ReadInput = ⊤
IsInputError format input ReadCubes = ⊥
IsInputError format input Memory = ⊤
IsInputError format input (Refused (refusal.Input fault)) = IfSome input (λ text. text_refusal format text ≡ Some fault)
IsInputError format input (Refused (refusal.Cubes fault)) = ⊥
IsInputError format input (Refused refusal.Split) = ⊥
IsInputError format input (Refused refusal.TooManyCubes) = ⊥

-- of an input that is refused for this nothing is prepared: it could not be read, or memory ran out, or that is the refusal
abbrev pub StopsAtFault : ReadFault → Result Prepared PrepareError → Type 0
StopsAtFault fault (Ok found) = ⊥
StopsAtFault fault (Err ReadInput) = ⊤
StopsAtFault fault (Err ReadCubes) = ⊥
StopsAtFault fault (Err Memory) = ⊤
StopsAtFault fault (Err (Refused why)) = why ≡ refusal.Input fault

-- a fact about the cube file's text, if there is a file, where the reader tells it
abbrev pub CubesTold : Option (Option (List ℕ)) → (Option (List ℕ) → Type 0) → Type 0
CubesTold None P = P None
CubesTold (Some None) P = ⊤
CubesTold (Some (Some cubes)) P = P (Some cubes)

-- the cube file could not be read, or memory ran out, or this is refused of the cubes and the split
abbrev pub IsDivisionError : Problem → List (List Literal) → Option (List ℕ) → ℕ → PrepareError → Type 0
IsDivisionError p input_cubes cube_text split ReadInput = ⊥
IsDivisionError p input_cubes cube_text split ReadCubes = ⊤
IsDivisionError p input_cubes cube_text split Memory = ⊤
IsDivisionError p input_cubes cube_text split (Refused refusal) = IsDivisionRefused p input_cubes cube_text split refusal

-- the input answered a fault
abbrev pub stops_at_input : {T : Type 0} → Result T PrepareError → Bool
stops_at_input (Ok found) = false
stops_at_input (Err ReadInput) = true
stops_at_input (Err ReadCubes) = false
stops_at_input (Err Memory) = false
stops_at_input (Err (Refused refusal)) = false

-- the cube file answered a fault
abbrev pub stops_at_cubes : {T : Type 0} → Result T PrepareError → Bool
stops_at_cubes (Ok found) = false
stops_at_cubes (Err ReadInput) = false
stops_at_cubes (Err ReadCubes) = true
stops_at_cubes (Err Memory) = false
stops_at_cubes (Err (Refused refusal)) = false
