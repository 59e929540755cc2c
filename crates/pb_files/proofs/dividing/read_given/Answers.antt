use Rattle.std.proofs.Common.{refl, sym}
use Rattle.pb_files.proofs.Within.{joined_within}
use Rattle.pb_files.proofs.dividing.read_given.Goals as goal

pub returns-clause-within : goal.returns-clause-within
returns-clause-within g c =
    joined_within c.in-Ok.found.0.vars c.vars.result c.in-Ok.found.0.vars c.in-Ok.found.1.items c.in_ok-of_file.field-0.cubes.items c.append.new.self.items
    c.in_ok-append.ensures.items c.in-Ok.ensures.within c.in_ok-of_file.ensures.within refl (sym c.vars.ensures.value)
