use Rattle.pb_workers.proofs.gathering.is_one_settled.Given as goal

abbrev pub invariant-loop-part : goal.invariant-loop-part
invariant-loop-part l = Unit {0}
