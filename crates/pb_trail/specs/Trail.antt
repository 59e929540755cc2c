-- What a trail makes true and false, and the slack of a row. A trail is a list of literals, the earliest first.
use Rattle.std.specs.Prelude.{ℕ, Bool, true, false, List, Option, Some, None, sum_by, if◌then◌else◌, ℤ, pos, ◌-ℤ◌}
use Rattle.std.specs.List.{list_any}
use Rattle.pb_inst.specs.Literal.{Literal}
use Rattle.pb_normal.specs.declared.terms.PositiveTerm.{PositiveTerm}
use Rattle.pb_normal.specs.NormalForm.{PositiveRow}
use Rattle.pb_normal.specs.Literals.{negation, same_literal}

-- the literal is on the trail
unfoldable pub is_true : List Literal → Literal → Bool
is_true trail l = list_any (λ m. same_literal l m) trail

-- the literal's negation is on the trail
abbrev pub is_false : List Literal → Literal → Bool
is_false trail l = is_true trail (negation l)

-- the value that the trail gives the variable, if any
abbrev pub value_on : List Literal → ℕ → Option Bool
value_on trail var =
    if is_true trail (record { var = var; positive = true }) then Some true
    else (if is_true trail (record { var = var; positive = false }) then Some false else None)

-- the sum of the coefficients of the literals that the trail does not make false
unfoldable pub reachable : List Literal → List PositiveTerm → ℕ
reachable trail terms = sum_by (λ t. if is_false trail t.lit then 0 else t.coef) terms

-- that sum, less the degree
abbrev pub slack : List Literal → PositiveRow → ℤ
slack trail row = pos (reachable trail row.terms) -ℤ pos row.degree

-- the sum of the coefficients of the literals on the trail
unfoldable pub reached : List Literal → List PositiveTerm → ℕ
reached trail terms = sum_by (λ t. if is_true trail t.lit then t.coef else 0) terms
