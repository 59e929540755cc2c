use Rattle.std.proofs.Common.{◌≡◌, take}
use Rattle.pb_join.specs.Joining.{AreGathered}
use Rattle.pb_join.proofs.gathering.gather.Given as goal

-- what the reports so far tell together
abbrev pub invariant-loop-place : goal.invariant-loop-place
invariant-loop-place l = record {
  same_instance : l.gathered.best.problem ≡ l.instance;
  gathered : AreGathered l.instance l.pieces (take l.place l.reports) l.gathered.best.held l.gathered.states.items;
}
