use Rattle.std.proofs.lemmas.Result.{IfOk-weaker}
use Rattle.pb_cubes.specs.Pieces.{AreWithin}
use Rattle.pb_solve.specs.Texts.{SpellsCubes}
use Rattle.pb_solve.proofs.DividingLaws.{file_within}
use Rattle.pb_solve.proofs.prepare.division.cubes_of_file.Goals as goal

pub returns-in-Some-clause-within : goal.returns-in-Some-clause-within
returns-in-Some-clause-within c =
    IfOk-weaker c.read_cubes.result (λ cubes. SpellsCubes c.args.vars c.in-Some.text.now cubes.items) (λ cubes. AreWithin c.args.vars cubes.items)
    (λ cubes h. file_within c.args.vars c.in-Some.text.now cubes.items h) c.read_cubes.ensures.found
