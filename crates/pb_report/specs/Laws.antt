-- What a report that was written claims where it is read.
use Rattle.std.specs.Prelude.{◌≡◌, ℕ, ℤ, ◌^◌, ◌<◌, Bool, List, length, None, Some}
use Rattle.pb_read.specs.declared.format.Format.{Format}
use Rattle.pb_report.specs.declared.claims.Claim.{Claim}
use Rattle.pb_report.specs.declared.claims.Claim.TheVariants.{Optimum, Satisfiable, Unsatisfiable, Unknown, Unsupported}
use Rattle.pb_report.specs.declared.ends.Refusal.{Refusal}
use Rattle.pb_report.specs.declared.ends.Refusal.TheVariants as refusal
use Rattle.pb_report.specs.Numbers.{Fits128}
use Rattle.pb_report.specs.Report.{AreNarrow, Claims}
use Rattle.pb_report.specs.Written.{refusal_report, memory_report, infeasible_report, unknown_report, satisfiable_report, attained_report, optimum_report}

-- the text claims this of an instance of n variables, and nothing else, and its `o` lines are such as are accepted
pub record IsReadAs (format : Format) (n : ℕ) (text : List ℕ) (claim : Claim) : Type 0 where
  pub claims : Claims format n text claim
  pub narrow : AreNarrow text
  pub nothing_else : (other : Claim) → Claims format n text other → other ≡ claim

-- the variables are counted in 32 bits, and the cost is a number of 128 bits
abbrev pub AreInRange : List Bool → ℤ → Type 0
AreInRange values cost = (length values < 2 ^ 32) × Fits128 cost

-- the report of the least assignment claims that it is least, with its cost
abbrev pub OptimumIsReadBack : Type 0
OptimumIsReadBack = (format : Format) (cost : ℤ) (values : List Bool) → AreInRange values cost
    → IsReadAs format (length values) (optimum_report format cost values) (Optimum (record { cost = Some cost; values = values }))

-- the report of an assignment that was found claims that it is feasible, with its cost
abbrev pub AttainedIsReadBack : Type 0
AttainedIsReadBack = (format : Format) (cost : ℤ) (values : List Bool) → AreInRange values cost
    → IsReadAs format (length values) (attained_report format cost values) (Satisfiable (record { cost = Some cost; values = values }))

-- the same without an objective
abbrev pub SatisfiableIsReadBack : Type 0
SatisfiableIsReadBack = (format : Format) (values : List Bool) → length values < 2 ^ 32
    → IsReadAs format (length values) (satisfiable_report format values) (Satisfiable (record { cost = None; values = values }))

-- the report where nothing is feasible claims that
abbrev pub InfeasibleIsReadBack : Type 0
InfeasibleIsReadBack = (format : Format) (n : ℕ) → IsReadAs format n infeasible_report Unsatisfiable

-- the reports where nothing was found before a piece was cut, and where memory ran out, claim nothing
abbrev pub UnknownIsReadBack : Type 0
UnknownIsReadBack = (format : Format) (n : ℕ) → IsReadAs format n unknown_report Unknown

abbrev pub MemoryIsReadBack : Type 0
MemoryIsReadBack = (format : Format) (n : ℕ) → IsReadAs format n memory_report Unknown

-- the line of what was refused
abbrev pub line_of : Refusal → ℕ
line_of (refusal.Input fault) = fault.line
line_of (refusal.Cubes fault) = fault.line
line_of refusal.Split = 0
line_of refusal.TooManyCubes = 0

-- the report of a refusal claims that the instance was not solved
abbrev pub RefusalIsReadBack : Type 0
RefusalIsReadBack = (format : Format) (n : ℕ) (why : Refusal) → line_of why < 2 ^ 64 → IsReadAs format n (refusal_report why) Unsupported
