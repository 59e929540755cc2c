-- Why a statement was not taken.
use Rattle.std.specs.Prelude.{◌≡◌, Option, Some}
use Rattle.pb_read.specs.declared.fault.ReadKind.{ReadKind}
use Rattle.pb_read.specs.declared.opb.builder.StatementError.{StatementError}
use Rattle.pb_read.specs.declared.opb.builder.StatementError.TheVariants.{Memory, Fault}

-- memory ran out, or it is the statement's first fault
abbrev pub StatementFails : StatementError → Option ReadKind → Type 0
StatementFails Memory first = Unit {0}
StatementFails (Fault kind) first = first ≡ Some kind
