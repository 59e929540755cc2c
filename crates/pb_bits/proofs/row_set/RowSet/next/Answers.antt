use Rattle.std.proofs.Common.{List, Bool, subst}
use Rattle.pb_bits.proofs.RowSetLemmas.{IsNext}
use Rattle.pb_bits.proofs.row_set.RowSet.next.Goals as goal

pub returns-clause-some : goal.returns-clause-some
returns-clause-some c = λ x chosen. subst (λ (ms : List Bool). IsNext ms c.args.from x) c.self.view_is (c.next.ensures.some x chosen)
