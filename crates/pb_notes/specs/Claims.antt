-- The bytes of a claim.
use Rattle.std.specs.Prelude.{ℕ, List, ◌++◌, codes, decimal, Option, None, Some}
use Rattle.hex.specs.Hex.{encode_lower}
use Rattle.pb_notes.specs.declared.claimant.Division.{Division}

-- a text, and a number after it
abbrev pub numbered : List ℕ → ℕ → List ℕ
numbered text number = text ++ decimal number

-- `pbcube claim of instance <digits of the digest>`
abbrev pub claim_line : List ℕ → List ℕ
claim_line instance = codes "pbcube claim of instance " ++ encode_lower instance ++ codes "\n"

-- the digest of the cube file in hex digits, or `none`
abbrev pub cubes_text : Option (List ℕ) → List ℕ
cubes_text None = codes "none"
cubes_text (Some digest) = encode_lower digest

-- `pieces <pieces> split <split> cubes <digest or none>`
abbrev pub division_line : ℕ → ℕ → Option (List ℕ) → List ℕ
division_line pieces split cubes = numbered (codes "pieces ") pieces ++ numbered (codes " split ") split ++ codes " cubes " ++ cubes_text cubes ++ codes "\n"

-- `task <task> of <tasks>`
abbrev pub task_line : ℕ → ℕ → List ℕ
task_line task tasks = numbered (codes "task ") task ++ numbered (codes " of ") tasks ++ codes "\n"

-- the text of a claim: of which instance it is, how that was divided, and which task made it
abbrev pub claim_text : Division → ℕ → List ℕ
claim_text division task = claim_line division.instance ++ division_line division.pieces division.split division.cubes ++ task_line task division.tasks
