-- What one more report adds.
use Rattle.std.proofs.Common.{◌≡◌, ◌≢◌, ◌↔◌, IsTrue, ℕ, zero, suc, ◌<◌, Bool, true, false, cond, List, [], ◌∷◌, ◌++◌, inl, inr, length, get_or, Option, None, Some, refl, sym, ◌∙◌, ap, subst, arith}
use Rattle.std.specs.Prelude.{All, Any, is_some, slice_set}
use Rattle.std.specs.Option.{IfSome}
use Rattle.std.proofs.lemmas.Bool.{cases_eq}
use Rattle.std.proofs.lemmas.List.{get_or-set_other, get_or-set_same, length-set, map-append}
use Rattle.std.proofs.lemmas.List.Elements.{All-push, Contains-append_left}
use Rattle.std.proofs.lemmas.List.Quantifiers.{Any-push, all_pairs_push}
use Rattle.pb_inst.specs.Problem.{Problem}
use Rattle.pb_inst.specs.Meaning.{IsFeasible}
use Rattle.pb_inst.specs.Incumbent.{Improves, Incumbent, Solution, IsSolution, solution_of}
use Rattle.pb_cubes.specs.First.{AreSolutions, IsFirst, IsNotBefore}
use Rattle.pb_cubes.proofs.FirstLaws.{taken_more}
use Rattle.pb_report.specs.Claims.{is_final, witness_of}
use Rattle.pb_join.specs.declared.reports.PieceReport.{PieceReport}
use Rattle.pb_join.specs.declared.states.PieceState.{PieceState}
use Rattle.pb_join.specs.declared.states.PieceState.TheVariants.{Missing, Cut, Done}
use Rattle.pb_join.specs.Pieces.{found_in}
use Rattle.pb_join.specs.Joining.{AreGathered, AreStates, IsStateOf, IsWitness, all_found}

pub any_still : {X : Type 0} (P : X → Type 0) (xs : List X) (y : X) → Any P xs → Any P (xs ++ y ∷ [])
any_still P [] y (k, x, within, is, holds) = absurd (omega arith)
any_still P (z ∷ xs) y (zero, x, within, is, holds) = (zero, x, omega arith, is, holds)
any_still P (z ∷ xs) y (suc k, x, within, is, holds) =
    let more = any_still P xs y (k, x, omega arith, is, holds) in
    (suc more.0, more.1, (let below : more.0 < length (xs ++ y ∷ []) = more.2 in omega arith), more.3, more.4)

-- what became of a piece stays where a report is of another
state_still : (p : Problem) (reports : List PieceReport) (r : PieceReport) (i : ℕ) (state : PieceState) → r.number ≢ i → IsStateOf p reports i state → IsStateOf p (reports ++ r ∷ []) i state
state_still p reports r i Missing other h = All-push (λ s. s.number ≢ i) reports r h other
state_still p reports r i Cut other h = any_still (λ s. (s.number ≡ i) × (is_final (is_some p.objective) s.claim ≡ false)) reports r h
state_still p reports r i Done other h = any_still (λ s. (s.number ≡ i) × (is_final (is_some p.objective) s.claim ≡ true)) reports r h

-- what becomes of the piece of the report
state_here : (p : Problem) (reports : List PieceReport) (r : PieceReport) (i : ℕ) (final : Bool) → r.number ≡ i → is_final (is_some p.objective) r.claim ≡ final → IsStateOf p (reports ++ r ∷ []) i (cond final Done Cut)
state_here p reports r i true here is = Any-push (λ s. (s.number ≡ i) × (is_final (is_some p.objective) s.claim ≡ true)) reports r (here, is)
state_here p reports r i false here is = Any-push (λ s. (s.number ≡ i) × (is_final (is_some p.objective) s.claim ≡ false)) reports r (here, is)

state_more : (p : Problem) (pieces : ℕ) (reports : List PieceReport) (r : PieceReport) (states : List PieceState) (state : PieceState) (i : ℕ) → AreStates p pieces reports states → r.number < pieces → state ≡ cond (is_final (is_some p.objective) r.claim) Done Cut → i < pieces
    → IsStateOf p (reports ++ r ∷ []) i (get_or (slice_set states r.number state) i Missing)
state_more p pieces reports r states state i h within is below = elim (cases_eq i r.number) [
  | inl same ↦
      let here : get_or (slice_set states r.number state) i Missing ≡ state = ap (λ n. get_or (slice_set states r.number state) n Missing) same ∙ get_or-set_same states r.number state Missing (let count = h.count in omega arith) in
      subst (IsStateOf p (reports ++ r ∷ []) i) (sym (here ∙ is)) (state_here p reports r i (is_final (is_some p.objective) r.claim) (sym same) refl)
  | inr other ↦
      subst (IsStateOf p (reports ++ r ∷ []) i) (sym (get_or-set_other states r.number i state Missing other)) (state_still p reports r i (get_or states i Missing) (λ e. other (sym e)) (h.each i below))
]

pub gathered_more : (p : Problem) (pieces : ℕ) (reports : List PieceReport) (r : PieceReport) (held after : Option Solution) (states : List PieceState) (state : PieceState) → AreGathered p pieces reports held states → r.number < pieces → get_or states r.number Missing ≡ Missing
    → IfSome (witness_of r.claim) (IsWitness p) → IsFirst (all_found p reports ++ found_in p r.claim ∷ []) after → state ≡ cond (is_final (is_some p.objective) r.claim) Done Cut
    → AreGathered p pieces (reports ++ r ∷ []) after (slice_set states r.number state)
gathered_more p pieces reports r held after states state h within missing witness first is =
    let apart : All (λ s. s.number ≢ r.number) reports = subst (IsStateOf p reports r.number) missing (h.became.each r.number within) in
    record {
      fit = record {
        numbers = All-push (λ s. s.number < pieces) reports r h.fit.numbers within;
        once = all_pairs_push (λ s t. s.number ≢ t.number) reports r h.fit.once (λ k d lt. apart k d lt);
        witnesses = All-push (λ s. IfSome (witness_of s.claim) (IsWitness p)) reports r h.fit.witnesses witness;
      };
      first = subst (λ found. IsFirst found after) (ap (λ os. None ∷ os) (sym (map-append (λ (s : PieceReport). found_in p s.claim) reports (r ∷ [])))) first;
      became = record {
        count = length-set states r.number state ∙ h.became.count;
        each = λ i below. state_more p pieces reports r states state i h.became within is below;
      };
    }

-- a report that has nothing leaves the first as it was
pub first_still : (found : List (Option Solution)) (held : Option Solution) → IsFirst found held → IsFirst (found ++ None ∷ []) held
first_still found held h = record {
  one_of_them = Contains-append_left found (None ∷ []) held h.one_of_them;
  none_before = All-push (λ s. IsNotBefore s held) found None h.none_before tt;
}

-- an assignment that the instance accepts was taken where it improves
pub first_taken : (best after : Incumbent) (q : Problem) (a : List Bool) (taken : Bool) → best.problem ≡ q → length a ≡ q.vars → IsFeasible q a → IfSome best.held (IsSolution best.problem) → (IsTrue taken ↔ (IsFeasible best.problem a × Improves a best)) → after.held ≡ cond taken (Some (solution_of best.problem a)) best.held
    → (found : List (Option Solution)) → AreSolutions q found → IsFirst found best.held → IsFirst (found ++ Some (solution_of q a) ∷ []) after.held
first_taken best after q a taken e number feasible sound decides is =
    subst (λ (q : Problem). length a ≡ q.vars → IsFeasible q a → (found : List (Option Solution)) → AreSolutions q found → IsFirst found best.held → IsFirst (found ++ Some (solution_of q a) ∷ []) after.held) e
    (λ long meets found all first. taken_more best.problem best.held after.held a taken (solution_of best.problem a) refl
    (record { for_all_variables = long; feasible = meets; cost_is = refl }) sound decides is found all first)
    number feasible
