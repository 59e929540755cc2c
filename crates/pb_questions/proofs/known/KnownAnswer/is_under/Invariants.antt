use Rattle.std.proofs.Common.{take}
use Rattle.std.specs.Prelude.{All, Contains}
use Rattle.pb_questions.proofs.known.KnownAnswer.is_under.Given as goal

-- the literals so far are among those of the cube
abbrev pub invariant-loop-place : goal.invariant-loop-place
invariant-loop-place l = All (λ m. Contains l.cube m) (take l.place l.self.literals.items)
