use Rattle.std.proofs.Common.{ℕ, List, take, subst, arith}
use Rattle.std.proofs.lemmas.Grind.{common_steps}
use Rattle.std.proofs.lemmas.List.{take_all}
use Rattle.pb_hint.specs.Places.{IsPosition}
use Rattle.pb_hint.proofs.PlaceLaws.{at_start, moved_down, moved_right, within}
use Rattle.pb_hint.proofs.places.position_after.Goals as goal
use Rattle.pb_hint.proofs.places.position_after.Goals.{then-byte-eq10, else-byte-eq10}

pub loop-byte-init : goal.loop-byte-init
loop-byte-init c = at_start

pub overflow_add-line : goal.overflow_add-line
overflow_add-line c = grind (arith, common_steps, within (take c.loop-byte.byte-index c.args.before.now) _ _ c.loop-byte.invariant)

pub overflow_add-column : goal.overflow_add-column
overflow_add-column c = grind (arith, common_steps, within (take c.loop-byte.byte-index c.args.before.now) _ _ c.loop-byte.invariant)

pub loop-byte-preserved : goal.loop-byte-preserved
loop-byte-preserved c = elim c.if-byte-eq10.branch [
  | then-byte-eq10 w ↦ moved_down c.args.before.now c.loop-byte.byte-index _ _ _ _ c.loop-byte-test.true c.loop-byte.invariant w.if-byte-eq10.true w.line-is w.column-is
  | else-byte-eq10 w ↦ moved_right c.args.before.now c.loop-byte.byte-index _ _ _ _ c.loop-byte-test.true c.loop-byte.invariant w.if-byte-eq10.false w.line-is w.column-is
]

pub returns : goal.returns
returns c = subst (λ (bytes : List ℕ). IsPosition bytes c.loop-byte.line c.loop-byte.column) (take_all c.loop-byte.byte-index c.args.before.now c.loop-byte-test.false) c.loop-byte.invariant
