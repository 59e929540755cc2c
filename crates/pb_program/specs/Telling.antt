-- What is told of a fault.
use Rattle.std.specs.Prelude.{ℕ, List, ◌++◌, codes}
use Rattle.pb_program.specs.declared.faults.ProgramFault.{ProgramFault}
use Rattle.pb_program.specs.declared.faults.ProgramFault.TheVariants.{CannotRead, CannotWrite}

-- the line on the standard error: the name of the file as it was given, and no reason
abbrev pub fault_line : ProgramFault → List ℕ
fault_line (CannotRead name) = codes "pbcube: cannot read " ++ name.now ++ codes "\n"
fault_line CannotWrite = codes "pbcube: cannot write\n"
