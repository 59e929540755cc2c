use Rattle.std.proofs.Common.{◌≡◌, length}
use Rattle.pb_dual.specs.Multipliers.{IsSameButCounted}
use Rattle.pb_dual.proofs.multipliers.Multipliers.saturate.Given as goal

abbrev pub invariant-loop-row : goal.invariant-loop-row
invariant-loop-row g l = record {
  same : IsSameButCounted l.initial.self l.self;
  root : l.self.root ≡ length l.self.trail;
}
