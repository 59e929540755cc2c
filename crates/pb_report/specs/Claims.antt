-- What a report claims.
use Rattle.std.specs.Prelude.{ℕ, Bool, true, false, not, List, [], ◌∷◌, Option, None, Some, codes}
use Rattle.pb_report.specs.declared.claims.Witness.{Witness}
use Rattle.pb_report.specs.declared.claims.Claim.{Claim}
use Rattle.pb_report.specs.declared.claims.Claim.TheVariants.{Optimum, Satisfiable, Unsatisfiable, Unknown, Unsupported}
use Rattle.pb_report.specs.declared.statuses.Status.{Status}
use Rattle.pb_report.specs.declared.statuses.Status.TheVariants as status

-- the assignment that is claimed, and the cost that it is given
abbrev pub witness_of : Claim → Option Witness
witness_of (Optimum w) = Some w
witness_of (Satisfiable w) = Some w
witness_of Unsatisfiable = None
witness_of Unknown = None
witness_of Unsupported = None

-- whether it is the answer on an instance with an objective, or on one without
abbrev pub is_final : Bool → Claim → Bool
is_final has_objective (Optimum w) = true
is_final has_objective (Satisfiable w) = not has_objective
is_final has_objective Unsatisfiable = true
is_final has_objective Unknown = false
is_final has_objective Unsupported = false

-- the status of a claim
abbrev pub status_of : Claim → Status
status_of (Optimum w) = status.Optimum
status_of (Satisfiable w) = status.Satisfiable
status_of Unsatisfiable = status.Unsatisfiable
status_of Unknown = status.Unknown
status_of Unsupported = status.Unsupported

-- the words of a status
abbrev pub status_words : Status → List (List ℕ)
status_words status.Optimum = codes "OPTIMUM" ∷ codes "FOUND" ∷ []
status_words status.Satisfiable = codes "SATISFIABLE" ∷ []
status_words status.Unsatisfiable = codes "UNSATISFIABLE" ∷ []
status_words status.Unknown = codes "UNKNOWN" ∷ []
status_words status.Unsupported = codes "UNSUPPORTED" ∷ []
