use Rattle.std.proofs.Common.{arith}
use Rattle.std.proofs.lemmas.Int.{ints}
use Rattle.pb_normal.proofs.FormLemmas.{adds_negated}
use Rattle.pb_normal.proofs.forms.add_at_most.Goals as goal

pub returns-clause-rows : goal.returns-clause-rows
returns-clause-rows g c = adds_negated c.add_at_least.result c.args.rows.now c.add_at_least.new.rows c.args.sum.now.base c.args.bound _ _ c.args.sum.now.terms.items _ c.add_at_least.ensures.rows (omega (arith, ints)) c.negate.ensures.base c.negate.ensures.terms
