use Rattle.std.proofs.Common.{ℕ, ◌<◌, ◌≤◌, List, get_or, All}
use Rattle.pb_inst.specs.Literal.{Literal}
use Rattle.test_engine.proofs.tests.forms.are_within.Given as goal

abbrev pub invariant-loop-cube : goal.invariant-loop-cube
invariant-loop-cube l = (k : ℕ) (d : List Literal) → k < l.cube-index → All (λ m. m.var ≤ l.vars) (get_or l.cubes k d)
