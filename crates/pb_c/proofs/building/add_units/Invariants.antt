use Rattle.std.proofs.Common.{◌≡◌, List, All, map, take}
use Rattle.pb_inst.specs.Constraints.{unit_term}
use Rattle.pb_inst.specs.Literal.{Literal}
use Rattle.pb_c.specs.Called.{number_of, IsVariable}
use Rattle.pb_c.proofs.building.add_units.Given as goal

-- the numbers so far are those of literals, which are the terms
abbrev pub invariant-loop-literal : goal.invariant-loop-literal
invariant-loop-literal l = (lits : List Literal) × (map number_of lits ≡ take l.literal-index l.literals) × (l.session ≡ record l.fn.session { terms = map unit_term lits }) × All IsVariable (take l.literal-index l.literals)
