use Rattle.std.proofs.Common.{arith}
use Rattle.std.proofs.lemmas.Int.{ints}
use Rattle.pb_normal.proofs.FormLemmas.{adds_no_row, adds_one_row}
use Rattle.pb_normal.proofs.forms.add_at_least.Goals as goal

pub returns-then-degree-le0-clause-rows : goal.returns-then-degree-le0-clause-rows
returns-then-degree-le0-clause-rows g c = λ n terms sum. adds_no_row n terms c.args.sum.now.base c.args.bound c.args.sum.now.terms.items c.args.rows.now sum (omega (arith, ints))

pub returns-clause-rows : goal.returns-clause-rows
returns-clause-rows g c = adds_one_row c.args.rows.now c.push.new.self _ _ c.args.sum.now.terms.items c.args.sum.now.base c.args.bound c.in_ok-push.ensures.added c.deref-2.ensures.value (omega (arith, ints)) (omega (arith, ints)) (omega (arith, ints)) c.requires.coefficients
