-- Assuming literals.
use Rattle.std.proofs.Common.{◌≡◌, ◌≢◌, ℕ, ◌+◌, ◌-◌, ◌<◌, List, [], ◌∷◌, ◌++◌, length, take, refl, sym, ◌∙◌, ap, subst, arith, suc, zero, Bool, true, false, All, inl, inr, ◌⊎◌, Option, None, Some, ◌↔◌}
use Rattle.std.specs.Prelude.{map, slice_index_or, IsSomeAnd}
use Rattle.std.proofs.lemmas.List.Elements.{All-nil, All-cons, All-append}
use Rattle.std.proofs.lemmas.List.{take_more}
use mathlib.Core.Bool.{beq}
use Rattle.pb_inst.specs.Literal.{Literal}
use Rattle.pb_inst.specs.Meaning.{literal_value}
use Rattle.pb_inst.specs.Cubes.{MakesTrue}
use Rattle.pb_inst.specs.Incumbent.{Incumbent, Solution}
use Rattle.pb_engine.specs.Trail.{value_on}
use Rattle.pb_engine.specs.Completion.{HasNoCompletion}
use Rattle.pb_engine.specs.EngineState.{EngineState}
use Rattle.pb_engine.specs.Soundness.{assumptions, literal_at, IsSoundTrail}
use Rattle.pb_prune.specs.Solutions.{SameConstraints, Satisfies, SatisfiesUnder}
use Rattle.pb_subtree.specs.SearchState.{IsOwn}
use Rattle.pb_prune.proofs.ValueLemmas.{value_on-true}
use Rattle.pb_subtree.proofs.Moves.{All_front, All_last}
use Rattle.pb_prune.proofs.ClosedLemmas.{sign_is}
use Rattle.pb_subtree.proofs.SearchLemmas.{same_solution, back_solution}

abbrev True : List Bool → Literal → Type 0
True a l = literal_value a l ≡ 1

-- all of a list and its next element
pub all_next : (a : List Bool) (xs ys : List Literal) (l : Literal) → ys ≡ xs ++ l ∷ [] → MakesTrue a ys ↔ (MakesTrue a xs × True a l)
all_next a xs ys l e = (
  (λ h. (let h' = subst (λ (x : List Literal). MakesTrue a x) e h in (All_front (True a) xs (l ∷ []) h', All_last (True a) xs l h'))),
  (λ h. subst (λ (x : List Literal). MakesTrue a x) (sym e) (All-append (True a) xs (l ∷ []) h.0 (All-cons (True a) l [] h.1 (All-nil (True a))))),
)

-- a literal that is on the trail already
pub on_trail : (s : EngineState) (l : Literal) (a : List Bool) → IsSoundTrail s → value_on s.trail l.var ≡ Some l.positive → Satisfies s a → MakesTrue a (assumptions s) → True a l
on_trail s l a sound is h all = value_on-true a s.trail l.var l.positive (sound.forced a h.meets_rows all) is

-- a literal whose negation is on the trail
pub off_trail : (s : EngineState) (l : Literal) (v : Bool) (a : List Bool) → IsSoundTrail s → value_on s.trail l.var ≡ Some v → v ≢ l.positive → Satisfies s a → MakesTrue a (assumptions s) → ¬ True a l
off_trail s l v a sound is other h all one =
    other (sym (sign_is v (slice_index_or a (l.var - 1) false) (on_trail s (record { var = l.var; positive = v }) a sound is h all)) ∙ sign_is l.positive (slice_index_or a (l.var - 1) false) one)

-- where the trail has no assumptions and no completion, nothing meets the constraints
pub refuted_at_root : (s t : EngineState) (a : List Bool) → SameConstraints s t → IsSoundTrail t → assumptions t ≡ [] → HasNoCompletion t.rows t.trail → ¬ Satisfies s a
refuted_at_root s t a same sound root none h =
    let sol = same_solution s t a same h in
    none a (record { makes_true = sound.forced a sol.meets_rows (subst (λ (x : List Literal). MakesTrue a x) (sym root) (All-nil (True a))); meets_rows = sol.meets_rows })

-- at level 0 there are no assumptions
pub no_assumptions : (s : EngineState) → length s.levels ≡ 0 → assumptions s ≡ []
no_assumptions s none = of_none s.levels none
  where
    of_none : (places : List ℕ) → length places ≡ 0 → map (λ place. literal_at s.trail place) places ≡ []
    of_none [] e = refl
    of_none (p ∷ places) e = absurd (omega (arith, e))

-- from the root of a cube to the solutions that make it true
pub root_solution : (s t : EngineState) (cube : List Literal) (a : List Bool) → SameConstraints s t → (MakesTrue a (assumptions t) ↔ MakesTrue a cube) → SatisfiesUnder s cube a → SatisfiesUnder t (assumptions t) a
root_solution s t cube a same both h = record { solution = same_solution s t a same h.solution; makes_true = both.1 h.makes_true }

pub solution_at_root : (s t : EngineState) (cube : List Literal) (a : List Bool) → SameConstraints s t → (MakesTrue a (assumptions t) ↔ MakesTrue a cube) → SatisfiesUnder t (assumptions t) a → SatisfiesUnder s cube a
solution_at_root s t cube a same both h = record { solution = back_solution s t a same h.solution; makes_true = both.0 h.makes_true }

pub own_at_root : (s t : EngineState) (cube : List Literal) (first old new : Incumbent) → SameConstraints s t → ((a : List Bool) → Satisfies s a → MakesTrue a (assumptions t) ↔ MakesTrue a cube) → old ≡ first → IsOwn t old new → (new ≡ first) ⊎ IsSomeAnd new.held (λ r. SatisfiesUnder s cube r.assignment)
own_at_root s t cube first old new same both e (inl is) = inl (is ∙ e)
own_at_root s t cube first old new same both e (inr found) = inr (within new.held found)
  where
    within : (o : Option Solution) → IsSomeAnd o (λ r. SatisfiesUnder t (assumptions t) r.assignment) → IsSomeAnd o (λ r. SatisfiesUnder s cube r.assignment)
    within None k = k
    within (Some r) k = solution_at_root s t cube r.assignment same (both r.assignment (back_solution s t r.assignment same k.solution)) k

-- what a comparison of truth values says
pub same_bits : (a b : Bool) → beq a b ≡ true → a ≡ b
same_bits true true h = refl
same_bits true false h = cc
same_bits false true h = cc
same_bits false false h = refl

pub other_bits : (a b : Bool) → beq a b ≡ false → a ≢ b
other_bits true true h = λ k. (let bad : ⊥ = cc in bad)
other_bits true false h = λ k. (let bad : ⊥ = cc in bad)
other_bits false true h = λ k. (let bad : ⊥ = cc in bad)
other_bits false false h = λ k. (let bad : ⊥ = cc in bad)

pub front_true : (a : List Bool) (i : ℕ) (xs : List Literal) → MakesTrue a xs → MakesTrue a (take i xs)
front_true a zero xs h = All-nil (True a)
front_true a (suc i) [] h = All-nil (True a)
front_true a (suc i) (x ∷ xs) h = All-cons (True a) x (take i xs) (h 0 x (omega arith)) (front_true a i xs (λ k d lt. h (suc k) d (omega arith)))

-- one more literal
pub literals_next : (a : List Bool) (first literals old new : List Literal) (i : ℕ) (l : Literal) → i < length literals → l ≡ slice_index_or literals i l → (MakesTrue a old ↔ (MakesTrue a first × MakesTrue a (take i literals))) → (MakesTrue a new ↔ (MakesTrue a old × True a l)) → MakesTrue a new ↔ (MakesTrue a first × MakesTrue a (take (i + 1) literals))
literals_next a first literals old new i l lt is both kept =
    let e : take (i + 1) literals ≡ take i literals ++ l ∷ [] = take_more literals i l lt ∙ ap (λ (x : Literal). take i literals ++ x ∷ []) (sym is) in
    let n = all_next a (take i literals) (take (i + 1) literals) l e in (
      (λ h. (let k = kept.0 h in let m = both.0 k.0 in (m.0, n.1 (m.1, k.1)))),
      (λ h. (let k = n.0 h.1 in kept.1 (both.1 (h.0, k.0), k.1))),
    )

-- what holds of all holds of those at the end
pub All_back : {X : Type 0} (P : X → Type 0) (xs ys : List X) → All P (xs ++ ys) → All P ys
All_back P [] ys h = h
All_back P (x ∷ xs) ys h = All_back P xs ys (λ k d lt. h (suc k) d (omega arith))

-- the literals of the root and then those of the cube, where nothing was assumed before
pub root_and_cube : (a : List Bool) (none mid end root cube : List Literal) → none ≡ [] → (MakesTrue a mid ↔ (MakesTrue a none × MakesTrue a root)) → (MakesTrue a end ↔ (MakesTrue a mid × MakesTrue a cube)) → MakesTrue a end ↔ MakesTrue a (root ++ cube)
root_and_cube a none mid end root cube empty first second =
    let nothing : MakesTrue a none = subst (λ (x : List Literal). MakesTrue a x) (sym empty) (All-nil (True a)) in (
      (λ h. (let k = second.0 h in All-append (True a) root cube (first.0 k.0).1 k.1)),
      (λ h. second.1 (first.1 (nothing, All_front (True a) root cube h), All_back (True a) root cube h)),
    )
