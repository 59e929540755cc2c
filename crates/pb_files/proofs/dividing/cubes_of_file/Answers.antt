use Rattle.pb_files.proofs.Within.{file_within}
use Rattle.pb_files.proofs.dividing.cubes_of_file.Goals as goal

pub returns-in-Ok-clause-within : goal.returns-in-Ok-clause-within
returns-in-Ok-clause-within g c = file_within c.args.vars c.deref.result.now c.in-Ok.cubes.items c.in-Ok.ensures.found
