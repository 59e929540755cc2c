use Rattle.std.proofs.Common.{◌≡◌, ◌≤◌, length, take, drop}
use Rattle.pb_dual.specs.Multipliers.{undone}
use Rattle.pb_dual.proofs.multipliers.Multipliers.take_back_to.Given as goal

abbrev pub invariant-loop-self : goal.invariant-loop-self
invariant-loop-self g l = record {
  enough : l.count ≤ length l.self.changes;
  same : l.self ≡ record l.initial.self { multipliers = l.self.multipliers; changes = l.self.changes };
  undone_on : undone (drop l.count l.self.changes) l.self.multipliers ≡ undone (drop l.count l.initial.self.changes) l.initial.self.multipliers;
  front : take l.count l.self.changes ≡ take l.count l.initial.self.changes;
}

abbrev pub decreases-loop-self : goal.decreases-loop-self
decreases-loop-self g l = length l.self.changes
