-- How the first of some solutions becomes the first of one more.
use Rattle.std.proofs.Common.{◌≡◌, ◌↔◌, ℕ, ◌+◌, ◌<◌, Bool, true, false, cond, List, [], ◌∷◌, ◌++◌, map, take, length, get_or, Option, Some, None, refl, sym, ◌∙◌, ap, subst, inl, inr, arith, IsTrue, ℤ}
use Rattle.std.proofs.lemmas.Bool.{false≢true}
use Rattle.std.proofs.lemmas.Int.{ints}
use Rattle.std.proofs.lemmas.List.Elements.{All-push, Contains-push, Contains-append_left}
use Rattle.std.proofs.lemmas.List.{take_more, map-append}
use Rattle.std.specs.Option.{IfSome, option_map}
use Rattle.pb_inst.specs.Problem.{Problem}
use Rattle.pb_inst.specs.Meaning.{IsFeasible, cost}
use Rattle.pb_inst.specs.Order.{Precedes, IsBefore}
use Rattle.pb_inst.specs.Incumbent.{Solution, IsSolution, Improves, solution_of}
use Rattle.pb_inst.proofs.OrderProofs.{before_is_transitive}
use Rattle.pb_cubes.specs.First.{IsFirst, IsNotBefore, AreSolutions}

-- what is not before the old first is not before an earlier one
stays : (p : Problem) (o : Option Solution) (h s : Solution) → IfSome o (IsSolution p) → IsSolution p h → IsSolution p s → Precedes s.cost s.assignment h.cost h.assignment → IsNotBefore o (Some h) → IsNotBefore o (Some s)
stays p None h s o_is h_is s_is before not = tt
stays p (Some o) h s o_is h_is s_is before not = λ o_before.
    let one : IsBefore p o.assignment s.assignment = subst (λ (c : ℤ). Precedes c o.assignment (cost p s.assignment) s.assignment) o_is.cost_is (subst (λ (c : ℤ). Precedes o.cost o.assignment c s.assignment) s_is.cost_is o_before) in
    let two : IsBefore p s.assignment h.assignment = subst (λ (c : ℤ). Precedes c s.assignment (cost p h.assignment) h.assignment) s_is.cost_is (subst (λ (c : ℤ). Precedes s.cost s.assignment c h.assignment) h_is.cost_is before) in
    let both = before_is_transitive p o.assignment s.assignment h.assignment one two in
    not (subst (λ (c : ℤ). Precedes c o.assignment h.cost h.assignment) (sym o_is.cost_is) (subst (λ (c : ℤ). Precedes (cost p o.assignment) o.assignment c h.assignment) (sym h_is.cost_is) both))

-- what improves on nothing, or on the first
improved : (p : Problem) (found : List (Option Solution)) (h : Option Solution) (s : Solution) → AreSolutions p found → IfSome h (IsSolution p) → IsSolution p s → IfSome h (λ t. Precedes s.cost s.assignment t.cost t.assignment) → (o : Option Solution) → IfSome o (IsSolution p) → IsNotBefore o h → IsNotBefore o (Some s)
improved p found None s all h_is s_is better None o_is not = tt
improved p found None s all h_is s_is better (Some o) o_is not = absurd not
improved p found (Some h) s all h_is s_is better o o_is not = stays p o h s o_is h_is s_is better not

pub not_before_itself : (o : Option Solution) → IsNotBefore o o
not_before_itself None = tt
not_before_itself (Some s) = never
  where
    never : Precedes s.cost s.assignment s.cost s.assignment → ⊥
    never (inl less) = omega (arith, ints)
    never (inr h) = false≢true (sym h.1.first_has_zero ∙ h.1.second_has_one)

no_better : (s : Solution) (h : Option Solution) → (IfSome h (λ t. Precedes s.cost s.assignment t.cost t.assignment) → ⊥) → IsNotBefore (Some s) h
no_better s None not = not tt
no_better s (Some t) not = not

-- one more solution was found, and was taken where it improves
pub first_more : (p : Problem) (found : List (Option Solution)) (h after : Option Solution) (s : Solution) (taken : Bool) → AreSolutions p found → IfSome h (IsSolution p) → IsSolution p s → IsFirst found h → (IsTrue taken ↔ IfSome h (λ t. Precedes s.cost s.assignment t.cost t.assignment)) → after ≡ cond taken (Some s) h → IsFirst (found ++ Some s ∷ []) after
first_more p found h after s true all h_is s_is first decides is = subst (λ o. IsFirst (found ++ Some s ∷ []) o) (sym is) (record {
  one_of_them = Contains-push found (Some s);
  none_before = All-push (λ o. IsNotBefore o (Some s)) found (Some s)
      (λ k d lt. improved p found h s all h_is s_is (decides.0 refl) (get_or found k d) (all k d lt) (first.none_before k d lt))
      (not_before_itself (Some s));
})
first_more p found h after s false all h_is s_is first decides is = subst (λ o. IsFirst (found ++ Some s ∷ []) o) (sym is) (record {
  one_of_them = Contains-append_left found (Some s ∷ []) h first.one_of_them;
  none_before = All-push (λ o. IsNotBefore o h) found (Some s) first.none_before (no_better s h (λ better. false≢true (decides.1 better)));
})

-- what another held was taken where it improves
pub taken_more : (p : Problem) (h after : Option Solution) (a : List Bool) (taken : Bool) (s : Solution) → s.assignment ≡ a → IsSolution p s → IfSome h (IsSolution p) → (IsTrue taken ↔ (IsFeasible p a × Improves a (record { problem = p; held = h }))) → after ≡ cond taken (Some (solution_of p a)) h → (found : List (Option Solution)) → AreSolutions p found → IsFirst found h → IsFirst (found ++ Some s ∷ []) after
taken_more p h after a taken s same s_is h_is decides is found all first =
    let is_s : solution_of p a ≡ s = ap (λ (x : List Bool). solution_of p x) (sym same) ∙ ap (λ (c : ℤ). let t : Solution = record { cost = c; assignment = s.assignment } in t) (sym s_is.cost_is) in
    let feasible : IsFeasible p a = subst (λ (x : List Bool). IsFeasible p x) same s_is.feasible in
    first_more p found h after s taken all h_is s_is first (
      (λ yes. subst (λ (u : Solution). IfSome h (λ t. Precedes u.cost u.assignment t.cost t.assignment)) is_s (decides.0 yes).1),
      (λ improves. decides.1 (feasible, subst (λ (u : Solution). IfSome h (λ t. Precedes u.cost u.assignment t.cost t.assignment)) (sym is_s) improves)),
    )
    (is ∙ ap (λ (u : Solution). cond taken (Some u) h) is_s)

-- the same, of what another holds, by the assignment that it answers
pub adds_other : (p : Problem) (h after : Option Solution) (a : List Bool) (taken : Bool) (o : Option Solution) → Some a ≡ option_map (λ s. s.assignment) o → IfSome o (IsSolution p) → IfSome h (IsSolution p) → (IsTrue taken ↔ (IsFeasible p a × Improves a (record { problem = p; held = h }))) → after ≡ cond taken (Some (solution_of p a)) h → (found : List (Option Solution)) → AreSolutions p found → IsFirst found h → IsFirst (found ++ o ∷ []) after
adds_other p h after a taken None e o_is h_is decides is found all first = cc
adds_other p h after a taken (Some s) e o_is h_is decides is found all first =
    let same : s.assignment ≡ a = cc in
    taken_more p h after a taken s same o_is h_is decides is found all first

-- one more of a list, by what each holds
pub found_more : {X : Type 0} (f : X → Option Solution) (h : Option Solution) (xs : List X) (i : ℕ) (x : X) → i < length xs → x ≡ get_or xs i x → (h ∷ map f (take i xs)) ++ f x ∷ [] ≡ h ∷ map f (take (i + 1) xs)
found_more f h xs i x lt read =
    let more : take (i + 1) xs ≡ take i xs ++ x ∷ [] = take_more xs i x lt ∙ ap (λ y. take i xs ++ y ∷ []) (sym read) in
    ap (λ l. h ∷ l) (sym (ap (λ l. map f l) more ∙ map-append f (take i xs) (x ∷ [])))
