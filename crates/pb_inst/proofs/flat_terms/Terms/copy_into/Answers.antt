use Rattle.std.proofs.Common.{arith}
use Rattle.std.proofs.lemmas.Grind.{common_steps}
use Rattle.std.proofs.lemmas.Option.{gets}
use Rattle.pb_inst.proofs.flat_terms.Terms.copy_into.Goals as goal

pub loop-i-preserved : goal.loop-i-preserved
loop-i-preserved c = grind (arith, common_steps, gets)
