-- Variables that have one value in all assignments that are asked about.
use Rattle.std.specs.Prelude.{◌≡◌, ◌≢◌, ℕ, ◌<◌, Bool, true, false, List, length, All, replicate, slice_index_or, slice_set, ◌≤ℤ◌, ⊤}
use Rattle.std.specs.Option.{IfSome}
use Rattle.pb_inst.specs.Literal.{Literal}
use Rattle.pb_inst.specs.Problem.{Problem}
use Rattle.pb_inst.specs.Meaning.{cost}
use Rattle.pb_control.specs.declared.goal.Goal.{Goal}
use Rattle.pb_questions.specs.declared.fixing.Among.{Among}
use Rattle.pb_questions.specs.declared.fixing.Among.TheVariants.{Feasible, Least}
use Rattle.pb_questions.specs.declared.fixing.Fixed.{Fixed}
use Rattle.pb_questions.specs.declared.fixing.Fixed.TheVariants.{Infeasible, Variables}
use Rattle.pb_questions.specs.declared.fixing.VariableStatus.{VariableStatus}
use Rattle.pb_questions.specs.declared.fixing.VariableStatus.TheVariants.{FixedTrue, FixedFalse, Free, Unknown}
use Rattle.pb_questions.specs.declared.seeking.Sought.{Sought}
use Rattle.pb_questions.specs.declared.seeking.Sought.TheVariants.{Found, Nothing, Cut}
use Rattle.pb_questions.specs.Under.{IsFeasibleUnder, IsInfeasibleUnder}

-- the assignments that are asked about: those that are feasible under the assumptions, or of these the ones of least cost
abbrev pub IsAskedAbout : Problem → List Literal → Among → List Bool → Type 0
IsAskedAbout p assumed Feasible a = IsFeasibleUnder p assumed a
IsAskedAbout p assumed Least a = IsFeasibleUnder p assumed a × ((b : List Bool) → IsFeasibleUnder p assumed b → cost p a ≤ℤ cost p b)

-- what a search for the first of them is for
abbrev pub first_goal : Among → Goal
first_goal Feasible = Goal.Any
first_goal Least = Goal.Least

-- what the status says of the variable at the place: a value in all of these assignments, or both values in two of them
abbrev pub IsStatusOf : (List Bool → Type 0) → ℕ → VariableStatus → Type 0
IsStatusOf Asked place FixedTrue = (a : List Bool) → Asked a → slice_index_or a place false ≡ true
IsStatusOf Asked place FixedFalse = (a : List Bool) → Asked a → slice_index_or a place false ≡ false
IsStatusOf Asked place Free = ((a : List Bool) × Asked a × (slice_index_or a place false ≡ true)) × ((b : List Bool) × Asked b × (slice_index_or b place false ≡ false))
IsStatusOf Asked place Unknown = ⊤

-- each status is that of its variable
abbrev pub AreStatusesOf : (List Bool → Type 0) → List VariableStatus → Type 0
AreStatusesOf Asked statuses = (place : ℕ) → place < length statuses → IsStatusOf Asked place (slice_index_or statuses place Unknown)

-- nothing is feasible under the assumptions, or there is a status for each variable
abbrev pub IsFixedAnswer : Problem → List Literal → Among → Fixed → Type 0
IsFixedAnswer p assumed among Infeasible = IsInfeasibleUnder p assumed
IsFixedAnswer p assumed among (Variables statuses) = (length statuses.items ≡ p.vars) × AreStatusesOf (IsAskedAbout p assumed among) statuses.items

-- every status is known
abbrev pub AreKnown : Fixed → Type 0
AreKnown Infeasible = ⊤
AreKnown (Variables statuses) = All (λ status. status ≢ Unknown) statuses.items

-- what has one value is fixed to it
abbrev pub fixed_to : Bool → VariableStatus
fixed_to true = FixedTrue
fixed_to false = FixedFalse

-- the variables in which the assignments differ are free now, and the other statuses are as they were
pub record MarksFree (first other : List Bool) (old new : List VariableStatus) : Type 0 where
  pub same_length : length new ≡ length old
  pub differ : (k : ℕ) → k < length old → slice_index_or first k false ≢ slice_index_or other k false → slice_index_or new k Unknown ≡ Free
  pub agree : (k : ℕ) → k < length old → slice_index_or first k false ≡ slice_index_or other k false → slice_index_or new k Unknown ≡ slice_index_or old k Unknown

-- the statuses after an assignment was sought in which the variable at the place has not the value that it has in the first one
abbrev pub IsLearned : List Bool → ℕ → Bool → List VariableStatus → Sought → List VariableStatus → Type 0
IsLearned first place value old (Found best) new = IfSome best.held (λ s. MarksFree first s.assignment old new)
IsLearned first place value old Nothing new = new ≡ slice_set old place (fixed_to value)
IsLearned first place value old Cut new = new ≡ old

-- no status is known
abbrev pub AreUnknown : ℕ → Fixed → Type 0
AreUnknown n Infeasible = ⊥
AreUnknown n (Variables statuses) = statuses.items ≡ replicate n Unknown

-- what was found, if anything was, is an assignment to n variables
abbrev pub HoldsFor : ℕ → Sought → Type 0
HoldsFor n (Found best) = IfSome best.held (λ s. length s.assignment ≡ n)
HoldsFor n Nothing = ⊤
HoldsFor n Cut = ⊤
