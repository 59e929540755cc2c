-- When what is held is the least assignment: where every piece is done by it.
use Rattle.std.proofs.Common.{◌≡◌, ℕ, List, Bool, length, map, Option, Some, None, sym, ◌∙◌, arith, subst, inl, inr, ℤ}
use Rattle.std.specs.Prelude.{All, ◌<◌, ◌+◌}
use Rattle.std.specs.Option.{IfSome}
use Rattle.std.proofs.Math.ListN.{get_or-map}
use Rattle.std.proofs.lemmas.List.{length-map}
use Rattle.pb_inst.specs.Problem.{Problem}
use Rattle.pb_inst.specs.Meaning.{cost}
use Rattle.pb_inst.specs.Order.{Precedes, IsBefore}
use Rattle.pb_inst.specs.Incumbent.{Solution, IsSolution}
use Rattle.pb_inst.proofs.OrderProofs.{before_is_total, before_is_transitive}
use Rattle.pb_cubes.specs.Done.{Division, IsCandidate, IsDone}
use Rattle.pb_cubes.specs.First.{IsNotBefore}
use Rattle.pb_cubes.specs.Solving.{HoldsLeast}
use Rattle.pb_cubes.proofs.Cover.{lies_in_some}

-- the same, by the costs that the instance gives
by_costs : (p : Problem) (s t : Solution) → IsSolution p s → IsSolution p t → IsNotBefore (Some s) (Some t) → IsBefore p s.assignment t.assignment → ⊥
by_costs p s t s_is t_is not before =
    not (subst (λ (c : ℤ). Precedes c s.assignment t.cost t.assignment) (sym s_is.cost_is) (subst (λ (c : ℤ). Precedes (cost p s.assignment) s.assignment c t.assignment) (sym t_is.cost_is) before))

-- what is not before one assignment, which is not before another, is not before the other
not_before_onward : (p : Problem) (a b c : List Bool) → length a ≡ length b → (IsBefore p a b → ⊥) → (IsBefore p b c → ⊥) → IsBefore p a c → ⊥
not_before_onward p a b c e not_ab not_bc before = elim (before_is_total p a b e) [
  | inl h ↦ not_ab h
  | inr other ↦ elim other [
    | inl same ↦ not_bc (subst (λ (x : List Bool). IsBefore p x c) same before)
    | inr h ↦ not_bc (before_is_transitive p b a c h before)
  ]
]

-- nothing is held and the assignment stands against that, or it is not before what is held
abbrev IsNoBetter : Problem → List Bool → Option Solution → Type 0
IsNoBetter p a None = ⊥
IsNoBetter p a (Some s) = IsBefore p a s.assignment → ⊥

-- an assignment of a piece that is done is no better than the first
no_better : (d : Division) (i : ℕ) (a : List Bool) (held first : Option Solution) → IsCandidate d i a → IsDone d i held → IfSome held (IsSolution d.problem) → IfSome first (IsSolution d.problem) → IsNotBefore held first → IsNoBetter d.problem a first
no_better d i a None first candidate done held_is first_is not = absurd (done a candidate)
no_better d i a (Some m) None candidate done held_is first_is not = absurd not
no_better d i a (Some m) (Some f) candidate done held_is first_is not =
    not_before_onward d.problem a m.assignment f.assignment (candidate.for_all_variables ∙ sym held_is.for_all_variables) (done.1 a candidate) (by_costs d.problem m f held_is first_is not)

-- a piece that is done by what some part holds is done by what is not after it
pub done_by_first : (d : Division) (i : ℕ) (held first : Option Solution) → IsDone d i held → IfSome first (IsSolution d.problem) → IsNotBefore held first → IsDone d i first
done_by_first d i None None done is not = done
done_by_first d i None (Some f) done is not = (is, λ a candidate before. done a candidate)
done_by_first d i (Some m) None done is not = absurd not
done_by_first d i (Some m) (Some f) done is not = (is, λ a candidate before. no_better d i a (Some m) (Some f) candidate done done.0 is not before)

-- what is held is the least assignment, where all pieces are done
pub least_of_all_done : (d : Division) (held : Option Solution) → ((i : ℕ) → i < length d.cubes + 1 → IsDone d i held) → HoldsLeast d.problem held
least_of_all_done d None done = λ a number feasible.
    let lies = lies_in_some d.cubes a in
    done lies.number lies.below a (record { for_all_variables = number; feasible = feasible; in_piece = lies.inside })
least_of_all_done d (Some s) done =
    let is : IsSolution d.problem s = (done 0 (omega arith)).0 in (
      record {
        for_all_variables = is.for_all_variables;
        feasible = is.feasible;
        first = λ a number feasible before.
            let lies = lies_in_some d.cubes a in
            (done lies.number lies.below).1 a (record { for_all_variables = number; feasible = feasible; in_piece = lies.inside }) before;
      },
      is.cost_is,
    )

pub All-from_map : {X Y : Type 0} (P : Y → Type 0) (f : X → Y) (xs : List X) → All P (map f xs) → All (λ x. P (f x)) xs
All-from_map P f xs all k d lt = subst P (get_or-map f xs k d) (all k (f d) (let same = length-map xs f in omega arith))
