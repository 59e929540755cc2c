-- What a run has to report. Nothing here speaks of workers, and an answer speaks of the instance alone.
use Rattle.std.specs.Prelude.{◌≡◌, ℕ, ◌+◌, ◌^◌, ◌<◌, ◌≤◌, ◌⊎◌, ◌==◌, if◌then◌else◌, List, [], length, Option, None, Some, IsSomeAnd}
use Rattle.pb_inst.specs.Literal.{Literal}
use Rattle.pb_inst.specs.Problem.{Problem}
use Rattle.pb_read.specs.declared.fault.ReadFault.{ReadFault}
use Rattle.pb_read.specs.declared.format.Format.{Format}
use Rattle.pb_report.specs.declared.ends.Refusal.{Refusal}
use Rattle.pb_report.specs.declared.ends.Refusal.TheVariants.{Input, Cubes, Split, TooManyCubes}
use Rattle.pb_read.specs.Format.{Spells, text_refusal}
pub use Rattle.pb_report.specs.Outcome.{Outcome, Refused, Infeasible, Feasible, Optimal, IsAnswer}
pub use Rattle.pb_cubes.specs.Solving.{IsInfeasible}
use Rattle.pb_solve.specs.Texts.{SpellsCubes, cube_text_refusal}

-- the most cubes that may be taken together
abbrev pub most_cubes : ℕ
most_cubes = 1048575

-- the most variables that may be split
abbrev pub most_split : ℕ
most_split = 12

-- `split` variables of an instance of `vars` cannot be split
abbrev pub IsBadSplit : ℕ → ℕ → Type 0
IsBadSplit split vars = (1 ≤ split) × ((most_split < split) ⊎ (vars < split))

-- a split of 0 makes no cube
abbrev pub split_count : ℕ → ℕ
split_count split = if split == 0 then 0 else 2 ^ split

-- the cubes of a cube file, and none where there is no file
abbrev pub FileSpells : ℕ → Option (List ℕ) → List (List Literal) → Type 0
FileSpells vars None cubes = cubes ≡ []
FileSpells vars (Some text) cubes = SpellsCubes vars text cubes

-- the fault of a cube file, where there is one
abbrev pub IsFileRefused : ℕ → Option (List ℕ) → ReadFault → Type 0
IsFileRefused vars cube_text fault = IsSomeAnd cube_text (λ text. cube_text_refusal vars text ≡ Some fault)

-- `count` cubes are too many with those that the split makes
abbrev pub IsTooMany : ℕ → ℕ → Type 0
IsTooMany count split = most_cubes < count + split_count split

-- of the cubes and the split, the first that is refused is this
abbrev pub IsDivisionRefused : Problem → List (List Literal) → Option (List ℕ) → ℕ → Refusal → Type 0
IsDivisionRefused p input_cubes cube_text split (Input fault) = ⊥
IsDivisionRefused p input_cubes cube_text split (Cubes fault) = IsFileRefused p.vars cube_text fault
IsDivisionRefused p input_cubes cube_text split Split = ((file_cubes : List (List Literal)) × FileSpells p.vars cube_text file_cubes) × IsBadSplit split p.vars
IsDivisionRefused p input_cubes cube_text split TooManyCubes =
    (file_cubes : List (List Literal)) × FileSpells p.vars cube_text file_cubes × (¬ IsBadSplit split p.vars) × IsTooMany (length input_cubes + length file_cubes) split

-- nothing of the cubes and the split is refused
abbrev pub IsDivisionAccepted : Problem → List (List Literal) → Option (List ℕ) → ℕ → Type 0
IsDivisionAccepted p input_cubes cube_text split =
    (file_cubes : List (List Literal)) × FileSpells p.vars cube_text file_cubes × (¬ IsBadSplit split p.vars) × (¬ IsTooMany (length input_cubes + length file_cubes) split)

-- the outcome on an instance and its text's own cubes
abbrev pub IsOutcomeOn : Problem → List (List Literal) → Option (List ℕ) → ℕ → Outcome → Type 0
IsOutcomeOn p input_cubes cube_text split outcome =
    ((refusal : Refusal) × (outcome ≡ Refused refusal) × IsDivisionRefused p input_cubes cube_text split refusal)
    ⊎ (IsDivisionAccepted p input_cubes cube_text split × IsAnswer p outcome)

-- The outcome of an input text, the text of a cube file if there is one, and a split: the input's refusal,
-- else that of the cubes or the split, else the answer.
abbrev pub IsOutcome : Format → List ℕ → Option (List ℕ) → ℕ → Outcome → Type 0
IsOutcome format text cube_text split outcome =
    ((fault : ReadFault) × (outcome ≡ Refused (Input fault)) × (text_refusal format text ≡ Some fault))
    ⊎ ((p : Problem) × (input_cubes : List (List Literal)) × Spells format text p input_cubes × IsOutcomeOn p input_cubes cube_text split outcome)
