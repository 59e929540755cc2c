-- What texts of a format begin as.
use Rattle.std.specs.Prelude.{Bool, true, false}
use Rattle.pb_read.specs.declared.format.Format.{Format}
use Rattle.pb_read.specs.declared.format.Format.TheVariants as format
use Rattle.pb_hint.specs.declared.beginnings.Beginning.{Beginning}
use Rattle.pb_hint.specs.declared.beginnings.Beginning.TheVariants.{Cnf, Icnf, Opb}

-- whether a text of the format may begin so
abbrev pub is_of : Beginning → Format → Bool
is_of Cnf format.Cnf = true
is_of Icnf format.Icnf = true
is_of Opb format.Opb = true
is_of begins f = false
