-- The bytes of a report that is written.
-- Source: [OPB]
use Rattle.std.specs.Prelude.{ℕ, ◌+◌, ℤ, Bool, true, false, List, [], ◌∷◌, ◌++◌, codes, decimal}
use Rattle.std.specs.Fmt.{signed_decimal}
use Rattle.pb_read.specs.declared.fault.ReadFault.{ReadFault}
use Rattle.pb_read.specs.declared.fault.ReadKind.{ReadKind}
use Rattle.pb_read.specs.declared.fault.ReadKind.TheVariants as kind
use Rattle.pb_read.specs.declared.format.Format.{Format}
use Rattle.pb_read.specs.declared.format.Format.TheVariants.{Opb, Cnf, Icnf}
use Rattle.pb_report.specs.declared.ends.Refusal.{Refusal}
use Rattle.pb_report.specs.declared.ends.Refusal.TheVariants.{Input, Cubes, Split, TooManyCubes}

-- a text and the line's end
abbrev pub line : List ℕ → List ℕ
line text = text ++ 10 ∷ []

abbrev pub kind_name : ReadKind → List ℕ
kind_name kind.Unfinished = codes "Unfinished"
kind_name kind.Syntax = codes "Syntax"
kind_name kind.NonLinear = codes "NonLinear"
kind_name kind.LateObjective = codes "LateObjective"
kind_name kind.BadVariable = codes "BadVariable"
kind_name kind.TooLarge = codes "TooLarge"
kind_name kind.TooMany = codes "TooMany"
kind_name kind.BadHeader = codes "BadHeader"
kind_name kind.TooFewClauses = codes "TooFewClauses"
kind_name kind.TooManyClauses = codes "TooManyClauses"
kind_name kind.ClauseAfterCube = codes "ClauseAfterCube"
kind_name kind.Memory = codes "Memory"

-- `<Kind> at line <n>`
abbrev pub fault_text : ReadFault → List ℕ
fault_text fault = kind_name fault.kind ++ codes " at line " ++ decimal fault.line

-- what was refused, and why
abbrev pub refusal_text : Refusal → List ℕ
refusal_text (Input fault) = codes "c refused: " ++ fault_text fault
refusal_text (Cubes fault) = codes "c refused cubes: " ++ fault_text fault
refusal_text Split = codes "c refused split: BadSplit"
refusal_text TooManyCubes = codes "c refused cubes: TooMany"

-- a refusal and that it was not solved
abbrev pub refusal_report : Refusal → List ℕ
refusal_report refusal = line (refusal_text refusal) ++ line (codes "s UNSUPPORTED")

-- the report where memory ran out
abbrev pub memory_report : List ℕ
memory_report = line (codes "c refused: Memory") ++ line (codes "s UNKNOWN")

-- the sign of a variable with this value, as a format writes it
abbrev pub sign : Format → Bool → List ℕ
sign Opb true = codes " x"
sign Opb false = codes " -x"
sign Cnf true = codes " "
sign Cnf false = codes " -"
sign Icnf true = codes " "
sign Icnf false = codes " -"

-- the literals of an assignment's values, the first of them of the variable n
abbrev pub literals : Format → ℕ → List Bool → List ℕ
literals format n [] = []
literals format n (value ∷ values) = (sign format value ++ decimal n) ++ literals format (n + 1) values

-- what ends the literals
abbrev pub ending : Format → List ℕ
ending Opb = []
ending Cnf = codes " 0"
ending Icnf = codes " 0"

-- `v` and the literals of the variables from 1 on
abbrev pub value_line : Format → List Bool → List ℕ
value_line format values = line (codes "v" ++ literals format 1 values ++ ending format)

-- `o <cost>`
abbrev pub cost_line : ℤ → List ℕ
cost_line cost = line (codes "o " ++ signed_decimal cost)

-- the report where nothing is feasible
abbrev pub infeasible_report : List ℕ
infeasible_report = line (codes "s UNSATISFIABLE")

-- the report of an assignment of an instance without an objective
abbrev pub satisfiable_report : Format → List Bool → List ℕ
satisfiable_report format values = line (codes "s SATISFIABLE") ++ value_line format values

-- the report of an assignment that was found, and its cost
abbrev pub attained_report : Format → ℤ → List Bool → List ℕ
attained_report format cost values = (cost_line cost ++ line (codes "s SATISFIABLE")) ++ value_line format values

-- the report where nothing was found before a piece was cut
abbrev pub unknown_report : List ℕ
unknown_report = line (codes "s UNKNOWN")

-- the report of the least assignment and its cost
abbrev pub optimum_report : Format → ℤ → List Bool → List ℕ
optimum_report format cost values = (cost_line cost ++ line (codes "s OPTIMUM FOUND")) ++ value_line format values
