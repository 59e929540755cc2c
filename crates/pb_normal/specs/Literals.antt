-- Literals of positive terms, and how much of a literal a sum has.
use Rattle.std.specs.Prelude.{ℕ, Bool, true, false, not, ◌&&◌, ◌==◌, List, sum_by, if◌then◌else◌}
use Rattle.pb_inst.specs.Literal.{Literal}
use Rattle.pb_normal.specs.declared.terms.PositiveTerm.{PositiveTerm}

-- `~x` for `x`, and `x` for `~x`
abbrev pub negation : Literal → Literal
negation l = record { var = l.var; positive = not l.positive }

-- both signs are the same
abbrev pub same_sign : Bool → Bool → Bool
same_sign true b = b
same_sign false b = not b

-- both literals are the same
abbrev pub same_literal : Literal → Literal → Bool
same_literal l m = (l.var == m.var) && same_sign l.positive m.positive

-- the sum of the literal's coefficients
unfoldable pub weight_of : Literal → List PositiveTerm → ℕ
weight_of l terms = sum_by (λ t. if same_literal l t.lit then t.coef else 0) terms
