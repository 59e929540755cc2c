-- Assumptions and the literals of the instance's variables among them, and what a search under them shows.
use Rattle.std.proofs.Common.{◌≡◌, ℕ, ◌≤◌, List, [], ◌∷◌, Bool, true, false, cond, Option, None, Some, Result, Ok, Err, refl, subst, arith, inl, ℤ}
use Rattle.std.specs.Prelude.{All, Contains, IsSomeAnd, nat_le, slice_index_or, ◌≤ℤ◌, ◌<ℤ◌}
use Rattle.std.specs.Option.{IfSome}
use Rattle.std.specs.Result.{IfOk}
use Rattle.std.proofs.lemmas.Bool.Decides.{nat_tests}
use Rattle.std.proofs.lemmas.Int.{ints}
use Rattle.std.proofs.lemmas.List.Elements.{All-cons, All-contains, All-contains_itself, All-filter, All-nil, All-weaker, Contains-append_right, filter_passes}
use Rattle.pb_inst.specs.Literal.{Literal}
use Rattle.pb_inst.specs.Problem.{Problem}
use Rattle.pb_inst.specs.Meaning.{cost, literal_value}
use Rattle.pb_inst.specs.Incumbent.{Solution}
use Rattle.pb_questions.specs.Under.{named_literals, IsFeasibleUnder, HoldsUnder, HoldsLeastUnder}
use Rattle.pb_questions.specs.Sought.{IsWithin}

is_within : (v n : ℕ) → nat_le v n ≡ true → v ≤ n
is_within v n h = grind (arith, nat_tests)

passes : (v n : ℕ) → v ≤ n → nat_le v n ≡ true
passes v n h = grind (arith, nat_tests)

-- the named literals are of the instance's variables
pub named_variables : (n : ℕ) (lits : List Literal) → All (λ l. l.var ≤ n) (named_literals n lits)
named_variables n lits = All-weaker (λ l. nat_le l.var n ≡ true) (λ l. l.var ≤ n) (λ l h. is_within l.var n h) (named_literals n lits) (filter_passes (λ l. nat_le l.var n) lits)

-- and are among all of them
pub named_among : (n : ℕ) (lits : List Literal) → All (λ l. Contains lits l) (named_literals n lits)
named_among n lits = All-filter (λ l. nat_le l.var n) (λ l. Contains lits l) lits (All-contains_itself lits)

still_there : (b : Bool) (l : Literal) (kept : List Literal) (m : Literal) → Contains kept m → Contains (cond b (l ∷ kept) kept) m
still_there true l kept m h = Contains-append_right (l ∷ []) kept m h
still_there false l kept m h = h

there_now : (b : Bool) (l : Literal) (kept : List Literal) → b ≡ true → Contains (cond b (l ∷ kept) kept) l
there_now true l kept h = (0, omega arith, refl)
there_now false l kept h = cc

-- all literals of the instance's variables are named
named_all : (n : ℕ) (lits : List Literal) → All (λ l. l.var ≤ n → Contains (named_literals n lits) l) lits
named_all n [] = All-nil (λ l. l.var ≤ n → Contains (named_literals n []) l)
named_all n (l ∷ lits) =
    All-cons (λ m. m.var ≤ n → Contains (named_literals n (l ∷ lits)) m) l lits
    (λ h. there_now (nat_le l.var n) l (named_literals n lits) (passes l.var n h))
    (All-weaker (λ m. m.var ≤ n → Contains (named_literals n lits) m) (λ m. m.var ≤ n → Contains (named_literals n (l ∷ lits)) m)
    (λ m h within. still_there (nat_le l.var n) l (named_literals n lits) m (h within)) lits (named_all n lits))

-- the same assignments are feasible under them
pub under_named : (p : Problem) (lits : List Literal) (a : List Bool) → IsFeasibleUnder p (named_literals p.vars lits) a → IsFeasibleUnder p lits a
under_named p lits a h = record {
  for_all_variables = h.for_all_variables;
  feasible = h.feasible;
  meets = λ k d lt within. All-contains (λ l. l.var ≤ p.vars → literal_value a l ≡ 1) (named_literals p.vars lits) (slice_index_or lits k d) h.meets (named_all p.vars lits k d lt within) within;
}

pub under_all : (p : Problem) (lits : List Literal) (a : List Bool) → IsFeasibleUnder p lits a → IsFeasibleUnder p (named_literals p.vars lits) a
under_all p lits a h = record {
  for_all_variables = h.for_all_variables;
  feasible = h.feasible;
  meets = All-filter (λ l. nat_le l.var p.vars) (λ l. l.var ≤ p.vars → literal_value a l ≡ 1) lits h.meets;
}

-- and the same is held under them
pub holds_named : (p : Problem) (lits : List Literal) (held : Option Solution) → HoldsUnder p (named_literals p.vars lits) held → HoldsUnder p lits held
holds_named p lits None h = h
holds_named p lits (Some s) h = (under_named p lits s.assignment h.0, h.1)

pub least_named : (p : Problem) (lits : List Literal) (held : Option Solution) → HoldsLeastUnder p (named_literals p.vars lits) held → HoldsLeastUnder p lits held
least_named p lits None h = λ a is. h a (under_all p lits a is)
least_named p lits (Some s) h = (
  record {
    feasible = under_named p lits s.assignment h.0.feasible;
    first = λ b is. h.0.first b (under_all p lits b is);
  },
  h.1,
)

-- what is held and costs no more than the bound is what was sought
pub found_within : (p : Problem) (lits : List Literal) (bound : Option ℤ) (held : Option Solution) → HoldsUnder p lits held → IsSomeAnd held (λ s. IfSome bound (λ most. s.cost ≤ℤ most)) → IsSomeAnd held (λ s. IsWithin p lits bound s.assignment)
found_within p lits bound None h within = within
found_within p lits None (Some s) h within = record { feasible = h.0; within = tt }
found_within p lits (Some most) (Some s) h within = record { feasible = h.0; within = subst (λ (c : ℤ). c ≤ℤ most) h.1 within }

-- where the least one costs more, there is none
pub none_within : (p : Problem) (lits : List Literal) (bound : Option ℤ) (held : Option Solution) → HoldsLeastUnder p lits held → IfSome held (λ s. IsSomeAnd bound (λ most. most <ℤ s.cost)) → (a : List Bool) → ¬ IsWithin p lits bound a
none_within p lits bound None h over = λ a is. h a is.feasible
none_within p lits None (Some s) h over = λ a is. over
none_within p lits (Some most) (Some s) h over = λ a is. h.0.first a is.feasible (inl (less (cost p a) most (cost p s.assignment) is.within (subst (λ (c : ℤ). most <ℤ c) h.1 over)))
  where
    less : (x y z : ℤ) → x ≤ℤ y → y <ℤ z → x <ℤ z
    less x y z h k = omega (arith, ints)

-- what follows from what holds of a value, where there is one
pub ok_weaker : {A E : Type 0} (P Q : A → Type 0) → ((x : A) → P x → Q x) → (r : Result A E) → IfOk r P → IfOk r Q
ok_weaker P Q from (Ok x) h = from x h
ok_weaker P Q from (Err e) h = h
