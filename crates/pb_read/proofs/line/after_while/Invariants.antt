use Rattle.std.proofs.Common.{◌≡◌, ◌<◌, ◌^◌, ℕ, Bool, length}
use Rattle.pb_read.specs.Runs.{skip_while}
use Rattle.pb_read.proofs.line.after_while.Given as goal

abbrev pub invariant-loop-rest : goal.invariant-loop-rest
invariant-loop-rest g l =
    (test : ℕ → Bool) → ((b : ℕ) (r : Bool) → b < 2 ^ 8 → goal.F-post g l.passes b r → r ≡ test b) → skip_while test l.rest ≡ skip_while test l.bytes

abbrev pub decreases-loop-rest : goal.decreases-loop-rest
decreases-loop-rest g l = length l.rest
