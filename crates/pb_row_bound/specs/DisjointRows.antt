-- What rows that share no variable without a value add to a lower bound.
use Rattle.std.specs.Prelude.{ℕ, ◌+◌, ◌-◌, ◌*◌, Bool, true, false, not, ◌&&◌, ◌||◌, List, [], ◌∷◌, filter, fold, max, min, replicate, sum_by, is_none, nat_lt, slice_index_or, slice_set, if◌then◌else◌, ℤ, pos, ◌+ℤ◌}
use Rattle.std.specs.Int.{div_ceil}
use Rattle.std.specs.List.{list_any}
use Rattle.pb_inst.specs.Literal.{Literal}
use Rattle.pb_normal.specs.declared.terms.PositiveTerm.{PositiveTerm}
use Rattle.pb_normal.specs.NormalForm.{PositiveRow, NormalForm, total_coefficient}
use Rattle.pb_normal.specs.Literals.{weight_of}
use Rattle.pb_trail.specs.Trail.{is_true, value_on, reached}

-- the objective has the literal
abbrev pub has_cost : List PositiveTerm → Literal → Bool
has_cost objective l = nat_lt 0 (weight_of l objective)

-- the trail gives the literal's variable no value
abbrev pub is_free : List Literal → Literal → Bool
is_free trail l = is_none (value_on trail l.var)

-- the literal can be made true at no cost, or is true already
abbrev pub is_spare : List PositiveTerm → List Literal → Literal → Bool
is_spare objective trail l = is_true trail l || (is_free trail l && not (has_cost objective l))

-- the sum of the coefficients of such literals
unfoldable pub spare : List PositiveTerm → List Literal → List PositiveTerm → ℕ
spare objective trail terms = sum_by (λ t. if is_spare objective trail t.lit then t.coef else 0) terms

-- what a literal with a cost adds to that by joining the trail, and what a literal without cost takes from it by becoming false
abbrev pub gain : List PositiveTerm → Literal → List PositiveTerm → ℕ
gain objective l terms = if has_cost objective l then weight_of l terms else 0

abbrev pub loss : List PositiveTerm → Literal → List PositiveTerm → ℕ
loss objective l terms = if has_cost objective l then 0 else weight_of l terms

-- what the costly literals of the row must reach: the degree less what can be had at no cost, 0 where nothing is left
abbrev pub need : List PositiveTerm → List Literal → PositiveRow → ℕ
need objective trail row = row.degree - spare objective trail row.terms

-- the literal has no value, and the objective has it
abbrev pub is_costly : List PositiveTerm → List Literal → Literal → Bool
is_costly objective trail l = is_free trail l && has_cost objective l

-- the terms of the costly literals
unfoldable pub costly : List PositiveTerm → List Literal → List PositiveTerm → List PositiveTerm
costly objective trail terms = filter (λ t. is_costly objective trail t.lit) terms

-- the greatest coefficient
unfoldable pub greatest : List PositiveTerm → ℕ
greatest terms = fold (λ most t. max most t.coef) 0 terms

-- the least objective coefficient of the literals, and `start` where there is none less
unfoldable pub cheapest : List PositiveTerm → ℕ → List PositiveTerm → ℕ
cheapest objective start terms = fold (λ least t. min least (weight_of t.lit objective)) start terms

-- no literal of the objective has so great a coefficient
abbrev pub top_cost : ℕ
top_cost = 340282366920938463463374607431768211455

-- what a row adds to the bound: the least number of costly literals that can reach its need, times the least cost of one; 0
-- where nothing is needed, or where all of them together don't reach it
abbrev pub contribution_of : List PositiveTerm → ℕ → List PositiveTerm → ℕ
contribution_of objective needed terms =
    if nat_lt 0 needed && not (nat_lt (total_coefficient terms) needed) then div_ceil needed (greatest terms) * cheapest objective top_cost terms else 0

unfoldable pub contribution : List PositiveTerm → List Literal → PositiveRow → ℕ
contribution objective trail row = contribution_of objective (need objective trail row) (costly objective trail row.terms)

-- the literal's variable is marked. Marks are a list of truth values, that of variable 1 first
abbrev pub is_marked : List Bool → Literal → Bool
is_marked marks l = slice_index_or marks (l.var - 1) false

-- a literal without a value is of a marked variable
unfoldable pub meets_marks : List Literal → List Bool → List PositiveTerm → Bool
meets_marks trail marks terms = list_any (λ t. is_free trail t.lit && is_marked marks t.lit) terms

-- the marks with those of the variables of the literals without a value
unfoldable pub marked_by : List Literal → List Bool → List PositiveTerm → List Bool
marked_by trail marks terms = fold (λ ms t. if is_free trail t.lit then slice_set ms (t.lit.var - 1) true else ms) marks terms

-- the row has a contribution, and shares no variable without a value with a row picked before
abbrev pub is_picked : List PositiveTerm → List Literal → List Bool → PositiveRow → Bool
is_picked objective trail marks row = nat_lt 0 (contribution objective trail row) && not (meets_marks trail marks row.terms)

-- the contributions of the rows that are picked in order, where the variables of those picked before are marked
abbrev pub row_contributions : List PositiveTerm → List Literal → List Bool → List PositiveRow → ℕ
row_contributions objective trail marks [] = 0
row_contributions objective trail marks (row ∷ rows) =
    if is_picked objective trail marks row then contribution objective trail row + row_contributions objective trail (marked_by trail marks row.terms) rows else row_contributions objective trail marks rows

-- the base, what the trail pays, and the contributions of the picked rows
abbrev pub disjoint_bound : NormalForm → List PositiveRow → List Literal → ℤ
disjoint_bound form rows trail =
    form.base +ℤ pos (reached trail form.objective + row_contributions form.objective trail (replicate form.vars false) rows)
