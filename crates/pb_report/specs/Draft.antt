-- What a reader knows of the lines that it has seen.
use Rattle.std.specs.Prelude.{◌≡◌, ◌≢◌, ℕ, ℤ, Bool, true, false, List, [], ◌∷◌, ◌++◌, All, Option, None, Some}
use Rattle.std.specs.List.{flat_map}
use Rattle.pb_read.specs.declared.format.Format.{Format}
use Rattle.pb_report.specs.declared.statuses.Status.{Status}
use Rattle.pb_report.specs.declared.statuses.Status.TheVariants.{Satisfiable, Unsatisfiable, Optimum, Unsupported, Unknown}
use Rattle.pb_report.specs.declared.draft.Draft.{Draft}
use Rattle.pb_report.specs.Claims.{status_words}
use Rattle.pb_report.specs.Lines.{said, is_cost, is_status, is_values, IsKnown}
use Rattle.pb_report.specs.Numbers.{Fits128}
use Rattle.pb_report.specs.Report.{IsCost, IsLastCost}
use Rattle.pb_report.specs.declared.values.Values.{Values}
use Rattle.pb_report.specs.Values.{AreTaken, CompleteWords, fresh_values}

-- the one `s` line that was seen, if one was
abbrev pub status_lines : Option Status → List (List (List ℕ))
status_lines None = []
status_lines (Some status) = status_words status ∷ []

-- a `v` line was seen just where its number is known
abbrev pub AreSeen : List (List (List ℕ)) → Option ℕ → Type 0
AreSeen lines None = lines ≡ []
AreSeen lines (Some last) = lines ≢ []

-- these lines were taken of a report on n variables
pub record IsDraft (n : ℕ) (lines : List (List (List ℕ))) (draft : Draft) : Type 0 where
  pub known : All (λ line. IsKnown line) lines
  pub status : said is_status lines ≡ status_lines draft.status
  pub cost : IsLastCost (said is_cost lines) draft.cost
  pub values : AreTaken n (flat_map (λ words. words) (said is_values lines)) draft.values
  pub seen : AreSeen (said is_values lines) draft.last_values

-- no line was read
abbrev pub fresh_draft : Format → ℕ → Draft
fresh_draft format n = record { status = None; cost = None; values = fresh_values format n; last_values = None; status_line = 0 }

-- whether a report of the status has an assignment
abbrev pub has_assignment : Status → Bool
has_assignment Optimum = true
has_assignment Satisfiable = true
has_assignment Unsatisfiable = false
has_assignment Unknown = false
has_assignment Unsupported = false

-- with what such lines say every variable has its value; or there are none, and there were none
abbrev pub ValuesFollow : Bool → List (List (List ℕ)) → Values → Option ℕ → Type 0
ValuesFollow true lines values last = CompleteWords (flat_map (λ words. words) lines) values × (last ≡ None → lines ≢ [])
ValuesFollow false lines values last = (lines ≡ []) × (last ≡ None)

-- the words are one number, of 128 bits
abbrev pub IsNarrowCost : List (List ℕ) → Type 0
IsNarrowCost words = (z : ℤ) × IsCost words z × Fits128 z

-- These lines can follow those that were seen, and then the report is one of this status.
pub record Follow (status : Status) (lines : List (List (List ℕ))) (draft : Draft) : Type 0 where
  pub known : All (λ line. IsKnown line) lines
  pub one_status : status_lines draft.status ++ said is_status lines ≡ status_words status ∷ []
  pub costs : All (λ words. IsNarrowCost words) (said is_cost lines)
  pub values : ValuesFollow (has_assignment status) (said is_values lines) draft.values draft.last_values
