use Rattle.std.proofs.Common.{◌≡◌, ◌+◌, ◌-◌, ◌≤◌, length, take}
use Rattle.std.specs.Vec.{vec_len, vec_capacity}
use Rattle.pb_inst.proofs.flat_terms.Terms.copy_into.Given as goal

abbrev pub invariant-loop-i : goal.invariant-loop-i
invariant-loop-i l =
    record { items : l.list.items ≡ take l.i l.self; room : vec_len l.list + (length l.self - l.i) ≤ vec_capacity l.list }
