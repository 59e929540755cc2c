use Rattle.std.proofs.Common.{◌≡◌, length}
use Rattle.pb_c.proofs.questions.assignment_of.Given as goal

-- it stays an assignment to as many variables
abbrev pub invariant-loop-place : goal.invariant-loop-place
invariant-loop-place l = length l.assignment ≡ l.vars
