use Rattle.std.proofs.Common.{◌≡◌, take}
use Rattle.pb_join.specs.Parts.{AreGatheredParts}
use Rattle.pb_join.proofs.parts.gathering.gather_parts.Given as goal

-- what the reports so far tell together
abbrev pub invariant-loop-place : goal.invariant-loop-place
invariant-loop-place l = record {
  same_instance : l.gathered.best.problem ≡ l.instance;
  gathered : AreGatheredParts l.instance l.digest l.tasks (take l.place l.parts) l.gathered.division l.gathered.best.held l.gathered.reports.items;
}
