use Rattle.std.proofs.Common.{◌≡◌, length}
use Rattle.pb_notes.proofs.exchange.Exchange.look_at_first.Given as goal

-- the numbers of variables are as they were
abbrev pub invariant-loop : goal.invariant-loop
invariant-loop g l = record {
  same : l.self ≡ l.fn.self;
  same_length : length l.into ≡ length l.fn.into;
}
