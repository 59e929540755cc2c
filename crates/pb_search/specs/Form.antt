-- The normal form of an instance that is searched.
use Rattle.std.specs.Prelude.{◌≡◌}
use Rattle.pb_inst.specs.Problem.{Problem}
use Rattle.pb_normal.specs.NormalForm.{NormalForm, KeepsCost, KeepsFeasible}

-- the form has the instance's variables, what meets it is feasible, and it tells the same costs
pub record IsFormOf (p : Problem) (f : NormalForm) : Type 0 where
  pub vars : f.vars ≡ p.vars
  pub feasible : KeepsFeasible p f
  pub costs : KeepsCost p f
