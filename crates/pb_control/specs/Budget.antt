-- A budget of decisions.
use Rattle.std.specs.Prelude.{◌≡◌, ℕ, ◌+◌, ◌<◌, ◌≤◌, Option, None, Some, IsSomeAnd}

-- a budget with `count` decisions more, where there is a budget
abbrev pub with_more : ℕ → Option ℕ → Option ℕ
with_more count None = None
with_more count (Some left) = Some (left + count)

-- a budget with one decision more
abbrev pub one_more : Option ℕ → Option ℕ
one_more left = with_more 1 left

-- what may be left of a budget: no more than it was, and none where there is none
abbrev pub IsLeftOf : Option ℕ → Option ℕ → Type 0
IsLeftOf None left = left ≡ None
IsLeftOf (Some budget) left = IsSomeAnd left (λ n. n ≤ budget)

-- some decisions were taken off a budget, where there is one
abbrev pub IsPaidFrom : Option ℕ → Option ℕ → Type 0
IsPaidFrom None left = left ≡ None
IsPaidFrom (Some budget) left = IsSomeAnd left (λ n. n < budget)
