-- The lines that head the report of a part.
use Rattle.std.specs.Prelude.{ℕ, List, ◌++◌, codes, decimal, Option, None, Some}
use Rattle.std.specs.List.{flat_map}
use Rattle.hex.specs.Hex.{encode_lower}
use Rattle.pb_report.specs.Written.{line}
use Rattle.pb_parts.specs.declared.parts.Division.{Division}

-- a text, and a number after it
abbrev pub numbered : List ℕ → ℕ → List ℕ
numbered text number = text ++ decimal number

-- `c part <task> of <tasks> of instance <digest>`
abbrev pub part_line : ℕ → ℕ → List ℕ → List ℕ
part_line task tasks instance = line (numbered (codes "c part ") task ++ numbered (codes " of ") tasks ++ codes " of instance " ++ encode_lower instance)

-- the digest of the cube file in hex digits, or `none`
abbrev pub cubes_text : Option (List ℕ) → List ℕ
cubes_text None = codes "none"
cubes_text (Some digest) = encode_lower digest

-- `c pieces <pieces> split <split> cubes <digest or none>`
abbrev pub pieces_line : ℕ → ℕ → Option (List ℕ) → List ℕ
pieces_line pieces split cubes = line (numbered (codes "c pieces ") pieces ++ numbered (codes " split ") split ++ codes " cubes " ++ cubes_text cubes)

-- a text, and the numbers after it, each after a space
abbrev pub numbers_line : List ℕ → List ℕ → List ℕ
numbers_line text numbers = line (text ++ flat_map (numbered (codes " ")) numbers)

-- the heading of the report of this task, with the pieces that are done and those that were cut
abbrev pub part_heading : Division → ℕ → List ℕ → List ℕ → List ℕ
part_heading division task done cut =
    part_line task division.tasks division.instance
    ++ pieces_line division.pieces division.split division.cubes
    ++ numbers_line (codes "c done") done
    ++ numbers_line (codes "c cut") cut
