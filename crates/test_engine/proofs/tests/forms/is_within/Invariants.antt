use Rattle.std.proofs.Common.{ℕ, ◌<◌, ◌≤◌, get_or}
use Rattle.pb_inst.specs.Literal.{Literal}
use Rattle.test_engine.proofs.tests.forms.is_within.Given as goal

abbrev pub invariant-loop-lit : goal.invariant-loop-lit
invariant-loop-lit l = (k : ℕ) (d : Literal) → k < l.lit-index → (get_or l.lits k d).var ≤ l.vars
