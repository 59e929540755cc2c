use Rattle.std.proofs.Common.{◌≡◌, ◌+◌, ◌-◌, ◌≤◌, ◌++◌, length, map, take}
use Rattle.std.specs.Vec.{vec_len, vec_capacity}
use Rattle.pb_inst.specs.declared.constraints.Term.{Term}
use Rattle.pb_inst.proofs.flat_terms.push_literals.Given as goal

abbrev pub invariant-loop-term : goal.invariant-loop-term
invariant-loop-term l =
    record {
      items : l.lits.items ≡ l.fn.lits.items ++ map (λ (t : Term). t.lit) (take l.term-index l.terms);
      room : vec_len l.lits + (length l.terms - l.term-index) ≤ vec_capacity l.lits;
    }
