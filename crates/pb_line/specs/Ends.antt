-- How words may be refused, and how a program may end on them.
use Rattle.std.specs.Prelude.{◌≡◌, ◌≢◌, ◌⊎◌, ℕ, List, []}
use Rattle.clap.specs.Words.{App, IsAmong, Row, Text, fault_of, matches_of}
use Rattle.clap.specs.declared.error.kind.ErrorKind.{ErrorKind}
use Rattle.clap.specs.declared.error.kind.ErrorKind.TheVariants.{DisplayHelp, DisplayVersion, InvalidValue, OutOfMemory}
use Rattle.pb_line.specs.declared.faults.Untold.{Untold}
use Rattle.pb_line.specs.declared.faults.Untold.TheVariants.{Memory, Unwritten}

-- the words may have a fault of this kind: memory ran out, or clap refuses the words by it, or a value is wrong, so
-- that there is no line of the matches
abbrev pub MayFailBy : App → (List Row → Type 0) → List Text → ErrorKind → Type 0
MayFailBy app HasNoLine words kind =
    (kind ≡ OutOfMemory) ⊎ (IsAmong kind (fault_of app words) ⊎ ((kind ≡ InvalidValue) × HasNoLine (matches_of app words)))

-- a fault of this kind is no mistake: help or the version, which go to the output
abbrev pub IsShown : ErrorKind → Type 0
IsShown kind = (kind ≡ DisplayHelp) ⊎ (kind ≡ DisplayVersion)

-- the status where a fault of this kind was told: where a text is shown 0, and for all mistakes 2
abbrev pub IsTold : ErrorKind → ℕ → Type 0
IsTold kind status = (IsShown kind × (status ≡ 0)) ⊎ ((kind ≢ OutOfMemory) × (IsShown kind → ⊥) × (status ≡ 2))

-- why a fault of this kind was not told: it is that memory ran out, or a text that is shown was not written
abbrev pub IsUntold : ErrorKind → Untold → Type 0
IsUntold kind Memory = kind ≡ OutOfMemory
IsUntold kind (Unwritten reason) = IsShown kind

-- the status after a fault of this kind: where a text is shown 0, or 1 if it cannot be written; and for all mistakes 2
abbrev pub EndsTold : ErrorKind → ℕ → Type 0
EndsTold kind status =
    (IsShown kind × ((status ≡ 0) ⊎ (status ≡ 1)))
    ⊎ ((kind ≢ OutOfMemory) × (IsShown kind → ⊥) × (status ≡ 2))

-- the status where the words have a fault of this kind: where memory ran out as the program ends then, and else that of a fault
-- that was told
abbrev pub EndsBy : (ℕ → Type 0) → ErrorKind → ℕ → Type 0
EndsBy EndsWithoutMemory kind status = ((kind ≡ OutOfMemory) × EndsWithoutMemory status) ⊎ EndsTold kind status

-- the status on these words: that of a fault that they may have, or, where clap has no fault in them, that of what was
-- done, or 1 if that failed
abbrev pub EndsOn : App → (List Row → Type 0) → (ℕ → Type 0) → (ℕ → Type 0) → List Text → ℕ → Type 0
EndsOn app HasNoLine EndsWithoutMemory EndsDone words status =
    ((kind : ErrorKind) × MayFailBy app HasNoLine words kind × EndsBy EndsWithoutMemory kind status)
    ⊎ ((fault_of app words ≡ []) × (EndsDone status ⊎ (status ≡ 1)))
