-- What a text means, by its format, and what the formats write.
use Rattle.std.specs.Prelude.{◌≡◌, ℕ, Bool, true, false, List, [], Option, codes}
use Rattle.pb_inst.specs.Literal.{Literal}
use Rattle.pb_inst.specs.Problem.{Problem}
use Rattle.pb_read.specs.declared.fault.ReadFault.{ReadFault}
use Rattle.pb_read.specs.declared.format.Format.{Format}
use Rattle.pb_read.specs.declared.format.Format.TheVariants.{Opb, Cnf, Icnf}
use Rattle.pb_read.specs.Opb.{OpbText, opb_refusal}
use Rattle.pb_read.specs.Cnf.{CnfText, cnf_refusal}
use Rattle.pb_read.specs.Icnf.{IcnfText, icnf_refusal}

-- the text spells the instance, and these cubes of its own, which only iCNF has
abbrev pub Spells : Format → List ℕ → Problem → List (List Literal) → Type 0
Spells Opb text problem cubes = OpbText text problem × (cubes ≡ [])
Spells Cnf text problem cubes = CnfText text problem × (cubes ≡ [])
Spells Icnf text problem cubes = IcnfText text problem cubes

-- the fault of a text that spells no instance
abbrev pub text_refusal : Format → List ℕ → Option ReadFault
text_refusal Opb text = opb_refusal text
text_refusal Cnf text = cnf_refusal text
text_refusal Icnf text = icnf_refusal text

-- the name of a format
abbrev pub format_name : Format → List ℕ
format_name Opb = codes "opb"
format_name Cnf = codes "cnf"
format_name Icnf = codes "icnf"

-- whether every constraint that the format can spell is a clause
abbrev pub is_clausal : Format → Bool
is_clausal Opb = false
is_clausal Cnf = true
is_clausal Icnf = true

-- what a line of values has before the number of a variable with this value
abbrev pub literal_prefix : Format → Bool → List ℕ
literal_prefix Opb true = codes " x"
literal_prefix Opb false = codes " -x"
literal_prefix Cnf true = codes " "
literal_prefix Cnf false = codes " -"
literal_prefix Icnf true = codes " "
literal_prefix Icnf false = codes " -"

-- what a line of values has behind its literals
abbrev pub ending : Format → List ℕ
ending Opb = []
ending Cnf = codes " 0"
ending Icnf = codes " 0"
