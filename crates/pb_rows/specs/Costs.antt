-- What the objective says of each literal.
use Rattle.std.specs.Prelude.{◌≡◌, ℕ, ◌*◌, ◌≤◌, List, length, slice_index}
use Rattle.pb_inst.specs.Literal.{Literal}
use Rattle.pb_normal.specs.declared.terms.PositiveTerm.{PositiveTerm}
use Rattle.pb_rows.specs.Index.{literal_place}
use Rattle.pb_normal.specs.Literals.{weight_of}

-- at each literal's place stands the objective's coefficient of it, 0 where it has none
pub record AreCosts (vars : ℕ) (objective : List PositiveTerm) (costs : List ℕ) : Type 0 where
  pub count : length costs ≡ 2 * vars
  pub each : (l : Literal) → 1 ≤ l.var → l.var ≤ vars → slice_index costs (literal_place l) ≡ weight_of l objective
