-- What the text of a report claims.
-- Source: [OPB]
use Rattle.std.specs.Prelude.{◌≡◌, ◌≢◌, ℕ, ℤ, List, [], ◌∷◌, ◌++◌, All, Option, None, Some}
use Rattle.std.specs.List.{flat_map}
use Rattle.std.specs.Option.{IfSome}
use Rattle.pb_read.specs.declared.format.Format.{Format}
use Rattle.pb_report.specs.declared.claims.Witness.{Witness}
use Rattle.pb_report.specs.declared.claims.Claim.{Claim}
use Rattle.pb_report.specs.Claims.{witness_of, status_of, status_words}
use Rattle.pb_report.specs.Numbers.{Fits128, IsNumber}
use Rattle.pb_report.specs.Lines.{rows, said, is_cost, is_status, is_values, IsKnown}
use Rattle.pb_report.specs.Values.{AreSpelled}

-- the words are one number
abbrev pub IsCost : List (List ℕ) → ℤ → Type 0
IsCost words z = (word : List ℕ) × (words ≡ word ∷ []) × IsNumber word z

-- each of the lines has one number, and this is that of the last, if there is one
abbrev pub IsLastCost : List (List (List ℕ)) → Option ℤ → Type 0
IsLastCost lines None = lines ≡ []
IsLastCost lines (Some z) = (earlier : List (List (List ℕ))) × (last : List (List ℕ)) × (lines ≡ earlier ++ last ∷ []) × All (λ words. (y : ℤ) × IsCost words y) earlier × IsCost last z

-- the lines spell the values that are claimed, and there is none where none are
abbrev pub AreValuesOf : Format → ℕ → List (List (List ℕ)) → Option Witness → Type 0
AreValuesOf format n lines None = lines ≡ []
AreValuesOf format n lines (Some w) = (lines ≢ []) × AreSpelled format n (flat_map (λ words. words) lines) w.values

-- Each line is of a known kind; the `s` line has the claim's status; the last `o` line has the cost that is told, and the `v`
-- lines together spell the values of all n variables.
pub record Claims (format : Format) (n : ℕ) (text : List ℕ) (claim : Claim) : Type 0 where
  pub known : All (λ line. IsKnown line) (rows text)
  pub status : said is_status (rows text) ≡ status_words (status_of claim) ∷ []
  pub cost : Option ℤ
  pub last_cost : IsLastCost (said is_cost (rows text)) cost
  pub cost_is : IfSome (witness_of claim) (λ w. w.cost ≡ cost)
  pub values : AreValuesOf format n (said is_values (rows text)) (witness_of claim)

-- the number of each `o` line has at most 128 bits
abbrev pub AreNarrow : List ℕ → Type 0
AreNarrow text = All (λ words. (z : ℤ) → IsCost words z → Fits128 z) (said is_cost (rows text))
