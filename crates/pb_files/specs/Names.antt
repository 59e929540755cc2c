-- The names of the files in the folder.
use Rattle.std.specs.Prelude.{ℕ, ◌-◌, List, ◌++◌, length, codes, decimal, replicate}
use Rattle.pb_read.specs.declared.format.Format.{Format}
use Rattle.pb_read.specs.declared.format.Format.TheVariants.{Opb, Cnf, Icnf}

-- the name of the format in which a piece of an instance in this format is written
abbrev pub written_name : Format → List ℕ
written_name Opb = codes "opb"
written_name Cnf = codes "cnf"
written_name Icnf = codes "cnf"

-- the ending of the name of such a piece's file
abbrev pub ending : Format → List ℕ
ending Opb = codes ".opb"
ending Cnf = codes ".cnf"
ending Icnf = codes ".cnf"

-- the number, with zeros in front where it has fewer digits than the last one
abbrev pub piece_name : Format → ℕ → ℕ → List ℕ
piece_name format number last = replicate (length (decimal last) - length (decimal number)) 48 ++ decimal number ++ ending format

abbrev pub path : List ℕ → List ℕ → List ℕ
path folder name = folder ++ codes "/" ++ name
