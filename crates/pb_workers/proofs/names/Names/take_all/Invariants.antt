use Rattle.std.proofs.Common.{◌≡◌, flat_map, take}
use Rattle.pb_workers.specs.Parts.{PartView}
use Rattle.pb_workers.proofs.names.Names.take_all.Given as goal

-- the names of the parts so far are taken
abbrev pub invariant-loop-part : goal.invariant-loop-part
invariant-loop-part l = record {
  done : l.self.done.items ≡ flat_map (λ (part : PartView). part.named) (take l.part-index l.parts);
  cut : l.self.cut.items ≡ flat_map (λ (part : PartView). part.cut) (take l.part-index l.parts);
}
