-- What is fixed for a best assignment is fixed for a later one.
use Rattle.std.proofs.Common.{◌≡◌, ◌∙◌, List, Bool, true, false, refl, ap, sym, subst, inl, inr, Option, None, Some}
use Rattle.std.specs.Prelude.{ℤ}
use Rattle.std.specs.Option.{IfSome, option_map}
use Rattle.pb_inst.specs.Problem.{Problem}
use Rattle.pb_inst.specs.Meaning.{IsFeasible, cost}
use Rattle.pb_inst.specs.Order.{Precedes}
use Rattle.pb_inst.specs.Incumbent.{Incumbent, Solution, IsSolution}
use Rattle.pb_inst.proofs.OrderProofs.{before_is_total}
use Rattle.pb_subtree.specs.Held.{IsImprovement, IsNotAfter}
use Rattle.pb_subtree.proofs.HeldLemmas.{IsTaken, improvement_on_earlier}
use Rattle.pb_search.specs.Root.{IsBetter}

-- what is before a later one is before the earlier one
pub better_than_earlier : (p : Problem) (old new : Option Solution) (a : List Bool) → IsNotAfter p old new → IsBetter p new a → IsBetter p old a
better_than_earlier p old new a later h = record { for_all_variables = h.for_all_variables; feasible = h.feasible; improvement = improvement_on_earlier p a old new later h.improvement }

-- unless one solution is before the other, that one is not after it
pub not_after_unless_before : (p : Problem) (s t : Solution) → IsSolution p s → IsSolution p t → ¬ Precedes s.cost s.assignment t.cost t.assignment → IsNotAfter p (Some s) (Some t)
not_after_unless_before p s t first second none = elim (before_is_total p s.assignment t.assignment (first.for_all_variables ∙ sym second.for_all_variables)) [
  | inl before ↦ absurd (none (subst (λ (x : ℤ). Precedes x s.assignment t.cost t.assignment) (sym first.cost_is) (subst (λ (x : ℤ). Precedes (cost p s.assignment) s.assignment x t.assignment) (sym second.cost_is) before)))
  | inr other ↦ elim other [
    | inl same ↦ inl (ap (λ (x : ℤ). record { cost = x; assignment = t.assignment }) (second.cost_is ∙ (ap (λ (x : List Bool). cost p x) (sym same) ∙ sym first.cost_is)) ∙ ap (λ (x : List Bool). record { cost = s.cost; assignment = x }) (sym same))
    | inr after ↦ inr after
  ]
]

-- what was handed the best solution, and took it or held one that is no later
pub kept_not_after : (p : Problem) (s : Solution) (old new : Incumbent) (answer : Bool) → IsSolution p s → IsTaken old new s.assignment answer → old.problem ≡ p → IsNotAfter p (Some s) new.held
kept_not_after p s old new true sound taken is =
    let there = (taken.accepted refl).0 in
    subst (λ (o : Option Solution). IsNotAfter p (Some s) o) (sym there)
    (inl (ap (λ (x : ℤ). record { cost = x; assignment = s.assignment }) (ap (λ (q : Problem). cost q s.assignment) is ∙ sym sound.cost_is)))
kept_not_after p s old new false sound taken is =
    let refused = taken.refused refl in
    subst (λ (i : Incumbent). IsNotAfter p (Some s) i.held) (sym refused.0)
    (by_held old.held (subst (λ (q : Problem). IfSome old.held (λ t. IsSolution q t)) is taken.was_sound) (subst (λ (q : Problem). ¬ (IsFeasible q s.assignment × IsImprovement q s.assignment old.held)) is refused.1))
  where
    by_held : (held : Option Solution) → IfSome held (λ t. IsSolution p t) → ¬ (IsFeasible p s.assignment × IsImprovement p s.assignment held) → IsNotAfter p (Some s) held
    by_held None was none = none (sound.feasible, tt)
    by_held (Some t) was none = elim (before_is_total p t.assignment s.assignment (was.for_all_variables ∙ sym sound.for_all_variables)) [
      | inl before ↦ inr before
      | inr other ↦ elim other [
        | inl same ↦ inl (ap (λ (x : ℤ). record { cost = x; assignment = t.assignment }) (was.cost_is ∙ (ap (λ (x : List Bool). cost p x) same ∙ sym sound.cost_is)) ∙ ap (λ (x : List Bool). record { cost = s.cost; assignment = x }) same)
        | inr after ↦ absurd (none (sound.feasible, after))
      ]
    ]

-- what is held is a solution with this assignment
pub record IsTheSolution (p : Problem) (held : Option Solution) (a : List Bool) : Type 0 where
  pub solution : Solution
  pub held_is : held ≡ Some solution
  pub assignment_is : solution.assignment ≡ a
  pub sound : IsSolution p solution

pub solution_is : (p : Problem) (held : Option Solution) (a : List Bool) → Some a ≡ option_map (λ (s : Solution). s.assignment) held → IfSome held (λ s. IsSolution p s) → IsTheSolution p held a
solution_is p None a is sound = absurd (let none : ⊥ = cc in none)
solution_is p (Some s) a is sound = record { solution = s; held_is = refl; assignment_is = (let same : s.assignment ≡ a = cc in same); sound = sound }
