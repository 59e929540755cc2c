use Rattle.std.proofs.Common.{◌≡◌, length}
use Rattle.pb_questions.proofs.questions.Questions.turn.Given as goal

-- the values stay an assignment to as many variables
abbrev pub invariant-loop-place : goal.invariant-loop-place
invariant-loop-place l = length l.values ≡ length l.first
