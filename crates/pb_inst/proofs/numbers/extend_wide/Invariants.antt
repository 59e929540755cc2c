use Rattle.std.proofs.Common.{◌≡◌, ◌+◌, ◌-◌, ◌≤◌, ◌++◌, length, map, take}
use Rattle.std.specs.Vec.{vec_len, vec_capacity}
use Rattle.pb_inst.specs.declared.constraints.Term.{Term}
use Rattle.pb_inst.proofs.numbers.extend_wide.Given as goal

abbrev pub invariant-loop-term : goal.invariant-loop-term
invariant-loop-term l =
    record {
      items : l.numbers.items ≡ l.fn.numbers.items ++ map (λ (t : Term). t.coef) (take l.term-index l.terms);
      room : vec_len l.numbers + (length l.terms - l.term-index) ≤ vec_capacity l.numbers;
    }
