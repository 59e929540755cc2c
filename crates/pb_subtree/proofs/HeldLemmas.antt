-- What is held by an incumbent moves on to what comes before it.
use Rattle.std.proofs.Common.{◌≡◌, List, refl, sym, ◌∙◌, ap, subst, Bool, true, false, cond, inl, inr, Option, None, Some, ◌↔◌}
use Rattle.std.specs.Prelude.{ℤ, IsTrue}
use Rattle.std.specs.Option.{IfSome}
use Rattle.pb_inst.specs.Problem.{Problem}
use Rattle.pb_inst.specs.Meaning.{IsFeasible, cost}
use Rattle.pb_inst.specs.Order.{Precedes, IsBefore}
use Rattle.pb_inst.specs.Incumbent.{Incumbent, Solution, IsSolution, IsSound, Improves, solution_of}
use Rattle.pb_inst.proofs.OrderProofs.{before_is_transitive}
use Rattle.pb_prune.specs.Held.{IsImprovement, IsNotAfter, MovesOn}

-- what improves on the later improves on the earlier
pub improvement_on_earlier : (p : Problem) (a : List Bool) (old new : Option Solution) → IsNotAfter p old new → IsImprovement p a new → IsImprovement p a old
improvement_on_earlier p a None new h k = tt
improvement_on_earlier p a (Some old) None h k = absurd h
improvement_on_earlier p a (Some old) (Some new) (inl same) k = subst (λ (s : Solution). IsBefore p a s.assignment) same k
improvement_on_earlier p a (Some old) (Some new) (inr less) k = before_is_transitive p a new.assignment old.assignment k less

pub not_after_itself : (p : Problem) (held : Option Solution) → IsNotAfter p held held
not_after_itself p None = tt
not_after_itself p (Some a) = inl refl

pub not_after_onward : (p : Problem) (x y z : Option Solution) → IsNotAfter p x y → IsNotAfter p y z → IsNotAfter p x z
not_after_onward p None y z h k = tt
not_after_onward p (Some a) None z h k = absurd h
not_after_onward p (Some a) (Some b) None h k = absurd k
not_after_onward p (Some a) (Some b) (Some c) (inl h) (inl k) = inl (k ∙ h)
not_after_onward p (Some a) (Some b) (Some c) (inl h) (inr k) = inr (subst (λ (x : Solution). IsBefore p c.assignment x.assignment) h k)
not_after_onward p (Some a) (Some b) (Some c) (inr h) (inl k) = inr (subst (λ (x : Solution). IsBefore p x.assignment a.assignment) (sym k) h)
not_after_onward p (Some a) (Some b) (Some c) (inr h) (inr k) = inr (before_is_transitive p c.assignment b.assignment a.assignment k h)

pub moves_onward : (x y z : Incumbent) → MovesOn x y → MovesOn y z → MovesOn x z
moves_onward x y z h k = record {
  same_instance = k.same_instance ∙ h.same_instance;
  sound = λ q. k.sound (h.sound q);
  not_after = not_after_onward x.problem x.held y.held z.held h.not_after (subst (λ (p : Problem). IsNotAfter p y.held z.held) h.same_instance k.not_after);
}

-- by the cost that is kept with a solution, or by the instance
pub improves_is : (i : Incumbent) (a : List Bool) → IsSound i → Improves a i ↔ IsImprovement i.problem a i.held
improves_is i a sound = by_held i.held sound
  where
    by_held : (held : Option Solution) → IfSome held (λ s. IsSolution i.problem s) → IfSome held (λ s. Precedes (cost i.problem a) a s.cost s.assignment) ↔ IsImprovement i.problem a held
    by_held None sound = ((λ h. tt), (λ h. tt))
    by_held (Some s) sound = (
      (λ h. subst (λ (c : ℤ). Precedes (cost i.problem a) a c s.assignment) sound.cost_is h),
      (λ h. subst (λ (c : ℤ). Precedes (cost i.problem a) a c s.assignment) (sym sound.cost_is) h),
    )

-- an incumbent of the same instance that holds the same is the same
same_incumbent : (old new : Incumbent) → new.problem ≡ old.problem → new.held ≡ old.held → new ≡ old
same_incumbent old new p h = ap (λ (q : Problem). record { problem = q; held = new.held }) p ∙ ap (λ (o : Option Solution). record { problem = old.problem; held = o }) h

-- what became of the incumbent where it was handed an assignment
pub record IsTaken (old new : Incumbent) (a : List Bool) (answer : Bool) : Type 0 where
  pub same_instance : new.problem ≡ old.problem
  pub sound : IsSound new
  pub was_sound : IsSound old
  pub accepted : answer ≡ true → (new.held ≡ Some (solution_of old.problem a)) × (IsFeasible old.problem a × IsImprovement old.problem a old.held)
  pub refused : answer ≡ false → (new ≡ old) × ¬ (IsFeasible old.problem a × IsImprovement old.problem a old.held)

pub taken : (old new : Incumbent) (a : List Bool) (answer : Bool) → (IsTrue answer ↔ (IsFeasible old.problem a × Improves a old)) → new.problem ≡ old.problem → new.held ≡ cond answer (Some (solution_of old.problem a)) old.held → IsSound new → IsSound old → IsTaken old new a answer
taken old new a answer decides same held sound was =
    let both = improves_is old a was in
    record {
      same_instance = same;
      sound = sound;
      was_sound = was;
      accepted = λ is. (
        (held ∙ ap (λ (b : Bool). cond b (Some (solution_of old.problem a)) old.held) is),
        (let h = decides.0 (subst (λ (b : Bool). IsTrue b) (sym is) refl) in (h.0, both.0 h.1)),
      );
      refused = λ is. (
        same_incumbent old new same (held ∙ ap (λ (b : Bool). cond b (Some (solution_of old.problem a)) old.held) is),
        (λ h. (let e : true ≡ false = sym (decides.1 (h.0, both.1 h.1)) ∙ is in let bad : ⊥ = cc in bad)),
      );
    }

-- an answer leaves what is held no later
not_after_taken : (p : Problem) (a : List Bool) (held : Option Solution) → IsImprovement p a held → IsNotAfter p held (Some (solution_of p a))
not_after_taken p a None better = tt
not_after_taken p a (Some old) better = inr better

pub taken_moves : (old new : Incumbent) (a : List Bool) (answer : Bool) → IsTaken old new a answer → MovesOn old new
taken_moves old new a true h =
    let is = h.accepted refl in
    record {
      same_instance = h.same_instance;
      sound = λ _. h.sound;
      not_after = subst (λ (o : Option Solution). IsNotAfter old.problem old.held o) (sym is.0) (not_after_taken old.problem a old.held is.1.1);
    }
taken_moves old new a false h = record {
  same_instance = h.same_instance;
  sound = λ _. h.sound;
  not_after = subst (λ (i : Incumbent). IsNotAfter old.problem old.held i.held) (sym (h.refused refl).0) (not_after_itself old.problem old.held);
}

pub moves_itself : (x : Incumbent) → MovesOn x x
moves_itself x = record { same_instance = refl; sound = λ h. h; not_after = not_after_itself x.problem x.held }
