use Rattle.std.proofs.Common.{◌≡◌, take}
use Rattle.std.specs.List.{flat_map}
use Rattle.pb_join.proofs.parts.naming.named_pieces.Given as goal

-- what the reports so far name, in their order
abbrev pub invariant-loop-part : goal.invariant-loop-part
invariant-loop-part l = l.named.items ≡ flat_map (λ part. part.heading.done.items) (take l.part-index l.parts)
