-- What the text of a cube file means.
use Rattle.std.specs.Prelude.{ℕ, List, Option}
use Rattle.pb_inst.specs.Literal.{Literal}
use Rattle.pb_read.specs.declared.fault.ReadFault.{ReadFault}
use Rattle.pb_read.specs.Cubes.{CubeText, cube_refusal}

-- the text of a cube file spells these cubes of `vars` variables
abbrev pub SpellsCubes : ℕ → List ℕ → List (List Literal) → Type 0
SpellsCubes vars text cubes = CubeText text vars cubes

-- the fault of a cube file that spells no cubes of `vars` variables
abbrev pub cube_text_refusal : ℕ → List ℕ → Option ReadFault
cube_text_refusal vars text = cube_refusal text vars
