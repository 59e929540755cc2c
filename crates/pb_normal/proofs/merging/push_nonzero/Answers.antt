use Rattle.std.proofs.Common.{arith}
use Rattle.pb_normal.proofs.MergeLemmas.{add_none, add_last}
use Rattle.pb_normal.proofs.merging.push_nonzero.Goals as goal

pub returns-then-term-eq0 : goal.returns-then-term-eq0
returns-then-term-eq0 c = add_none c.args.terms.now.items c.args.term c.if-term-eq0.true

pub returns : goal.returns
returns c = add_last c.args.terms.now.items c.push.new.self.items c.args.term c.in_ok-push.ensures.items (omega arith)
