-- Why what the reports of all pieces make is the report of the whole instance.
use Rattle.std.proofs.Common.{◌≡◌, ℕ, ℤ, ◌+◌, ◌<◌, Bool, true, false, cond, List, ◌∷◌, length, map, Option, None, Some, pos, refl, sym, ◌∙◌, ap, subst, arith}
use Rattle.std.specs.Prelude.{All, Contains, is_some}
use Rattle.std.specs.Option.{IfSome, option_map, option_map_or}
use Rattle.std.specs.Io.KnownBytes.{Appends}
use Rattle.std.proofs.lemmas.List.Elements.{All-cons, All-contains, All-map, All-tail, All-weaker}
use Rattle.pb_inst.specs.declared.constraints.Term.{Term}
use Rattle.pb_inst.specs.Literal.{Literal}
use Rattle.pb_inst.specs.Problem.{Problem}
use Rattle.pb_inst.specs.Meaning.{cost, sum_value}
use Rattle.pb_inst.specs.Order.{IsBefore, IsLeast, Precedes}
use Rattle.pb_inst.specs.Incumbent.{Solution, IsSolution, solution_of}
use Rattle.pb_cubes.specs.Done.{IsDone}
use Rattle.pb_cubes.specs.First.{AreSolutions, IsNotBefore}
use Rattle.pb_cubes.specs.Solving.{HoldsLeast}
use Rattle.pb_cubes.proofs.LeastLaws.{All-from_map, done_by_first, least_of_all_done}
use Rattle.pb_read.specs.declared.format.Format.{Format}
use Rattle.pb_report.specs.declared.statuses.Status.{Status}
use Rattle.pb_report.specs.declared.claims.Witness.{Witness}
use Rattle.pb_report.specs.Claims.{witness_of}
use Rattle.pb_report.specs.Outcome.{Feasible, Optimal, IsAnswer, Answers}
use Rattle.pb_join.specs.declared.reports.PieceReport.{PieceReport}
use Rattle.pb_join.specs.declared.states.PieceState.{PieceState}
use Rattle.pb_join.specs.declared.states.PieceState.TheVariants.{Missing, Done}
use Rattle.pb_join.specs.Pieces.{AreOfPieces, IsOfPiece, IsPieceInstance, found_in, outcome_of}
use Rattle.pb_join.specs.Joining.{AreFit, AreGathered, AreStates, IsReported, IsStateOf, IsWitness, all_found, joined_report, joined_status}

-- ---- a report whose claim is right is a piece that is done

pub same_cost : (p q : Problem) (a : List Bool) → q.objective ≡ p.objective → cost p a ≡ cost q a
same_cost p q a e = ap (λ (o : Option (List Term)). option_map_or (λ terms. sum_value a terms) o (pos 0)) (sym e)

before_in : (p q : Problem) (a b : List Bool) → q.objective ≡ p.objective → IsBefore p a b → IsBefore q a b
before_in p q a b e h =
    subst (λ (c : ℤ). Precedes c a (cost q b) b) (same_cost p q a e) (subst (λ (c : ℤ). Precedes (cost p a) a c b) (same_cost p q b e) h)

least_in : (q : Problem) (has : Bool) (z : ℤ) (a : List Bool) → IsAnswer q (cond has (Optimal z a) (Feasible a)) → IsLeast q a
least_in q true z a h = h.1
least_in q false z a h = h.1

done_piece : (p : Problem) (cubes : List (List Literal)) (i : ℕ) (q : Problem) (held : Option Solution) → IsPieceInstance p cubes i q → IfSome held (IsSolution p) → IsAnswer q (outcome_of p held) → IsDone (record { problem = p; cubes = cubes }) i held
done_piece p cubes i q None is sound answer = λ a candidate.
    answer a (candidate.for_all_variables ∙ sym is.vars) ((is.feasible a candidate.for_all_variables).1 (candidate.feasible, candidate.in_piece))
done_piece p cubes i q (Some s) is sound answer =
    let least : IsLeast q s.assignment = least_in q (is_some p.objective) s.cost s.assignment answer in (
      sound,
      λ a candidate before.
          least.first a (candidate.for_all_variables ∙ sym is.vars) ((is.feasible a candidate.for_all_variables).1 (candidate.feasible, candidate.in_piece))
          (before_in p q a s.assignment is.objective before),
    )

-- ---- what the reports have is feasible

pub solution_found : (p : Problem) (o : Option Witness) → IfSome o (IsWitness p) → IfSome (option_map (λ w. solution_of p w.values) o) (IsSolution p)
solution_found p None h = tt
solution_found p (Some w) h = record { for_all_variables = h.for_all_variables; feasible = h.feasible; cost_is = refl }

pub all_solutions : (p : Problem) (pieces : ℕ) (reports : List PieceReport) → AreFit p pieces reports → All (λ (r : PieceReport). IfSome (found_in p r.claim) (IsSolution p)) reports
all_solutions p pieces reports fit = All-weaker (λ (r : PieceReport). IfSome (witness_of r.claim) (IsWitness p)) (λ (r : PieceReport). IfSome (found_in p r.claim) (IsSolution p)) (λ r h. solution_found p (witness_of r.claim) h) reports fit.witnesses

pub solutions : (p : Problem) (pieces : ℕ) (reports : List PieceReport) → AreFit p pieces reports → AreSolutions p (all_found p reports)
solutions p pieces reports fit =
    All-cons (λ s. IfSome s (IsSolution p)) None (map (λ (r : PieceReport). found_in p r.claim) reports) tt
    (All-map (λ s. IfSome s (IsSolution p)) (λ (r : PieceReport). found_in p r.claim) reports (all_solutions p pieces reports fit))

pub held_is : (p : Problem) (pieces : ℕ) (reports : List PieceReport) (held : Option Solution) (states : List PieceState) → AreGathered p pieces reports held states → IfSome held (IsSolution p)
held_is p pieces reports held states h = All-contains (λ s. IfSome s (IsSolution p)) (all_found p reports) held (solutions p pieces reports h.fit) h.first.one_of_them

-- what one of them has is not before the first of all
pub not_before_held : {X : Type 0} (f : X → Option Solution) (xs : List X) (x : X) (held : Option Solution) → Contains xs x → All (λ s. IsNotBefore s held) (None ∷ map f xs) → IsNotBefore (f x) held
not_before_held f xs x held here none =
    All-contains (λ y. IsNotBefore (f y) held) xs x (All-from_map (λ s. IsNotBefore s held) f xs (All-tail (λ s. IsNotBefore s held) None (map f xs) none)) here

-- ---- what is held is the least assignment

-- of a piece that is done there is a report that claims to be its answer
pub reported_done : (p : Problem) (pieces : ℕ) (reports : List PieceReport) (states : List PieceState) (i : ℕ) → AreStates p pieces reports states → All (λ state. state ≡ Done) states → i < pieces → IsReported p reports i true
reported_done p pieces reports states i h all within = subst (IsStateOf p reports i) (all i Missing (let count = h.count in omega arith)) (h.each i within)

-- a piece of which a report claims to be the answer is done by what is held
done_by_held : (p : Problem) (pieces : ℕ) (reports : List PieceReport) (held : Option Solution) (states : List PieceState) (cubes : List (List Literal)) (i : ℕ) → AreGathered p pieces reports held states → AreOfPieces p pieces reports cubes → IsReported p reports i true
    → IsDone (record { problem = p; cubes = cubes }) i held
done_by_held p pieces reports held states cubes i h right (k, r, within, at, of_piece) =
    let answer = All-contains (λ (x : PieceReport). IsOfPiece p cubes x) reports r right.each (k, within, at) of_piece.1 in
    let sound : IfSome (found_in p r.claim) (IsSolution p) = All-contains (λ (x : PieceReport). IfSome (found_in p x.claim) (IsSolution p)) reports r (all_solutions p pieces reports h.fit) (k, within, at) in
    let done : IsDone (record { problem = p; cubes = cubes }) r.number (found_in p r.claim) = done_piece p cubes r.number answer.0 (found_in p r.claim) answer.1 sound answer.2 in
    done_by_first (record { problem = p; cubes = cubes }) i (found_in p r.claim) held
    (subst (λ n. IsDone (record { problem = p; cubes = cubes }) n (found_in p r.claim)) of_piece.0 done)
    (held_is p pieces reports held states h)
    (not_before_held (λ (x : PieceReport). found_in p x.claim) reports r held (k, within, at) h.first.none_before)

pub whole_least : (p : Problem) (pieces : ℕ) (reports : List PieceReport) (held : Option Solution) (states : List PieceState) (cubes : List (List Literal)) → AreGathered p pieces reports held states → All (λ state. state ≡ Done) states → AreOfPieces p pieces reports cubes → HoldsLeast p held
whole_least p pieces reports held states cubes h all right =
    let count : length cubes + 1 ≡ pieces = right.count in
    least_of_all_done (record { problem = p; cubes = cubes }) held (λ i below.
    done_by_held p pieces reports held states cubes i h right (reported_done p pieces reports states i h.became all (subst (λ n. i < n) count below)))

-- ---- what is held is the answer

pub no_objective : {X : Type 0} (o : Option X) → is_some o ≡ false → o ≡ None
no_objective None e = refl
no_objective (Some x) e = cc

answer_some : (p : Problem) (s : Solution) (has : Bool) → is_some p.objective ≡ has → HoldsLeast p (Some s) → IsAnswer p (cond has (Optimal s.cost s.assignment) (Feasible s.assignment))
answer_some p s true e h = (e, h.0, h.1)
answer_some p s false e h = (no_objective p.objective e, h.0)

answer_held : (p : Problem) (held : Option Solution) → HoldsLeast p held → IsAnswer p (outcome_of p held)
answer_held p None h = h
answer_held p (Some s) h = answer_some p s (is_some p.objective) refl h

pub headline : (format : Format) (p : Problem) (held : Option Solution) (whole : Bool) (old new : Option (List ℕ)) (ended : Status) → HoldsLeast p held → whole ≡ true → Appends old new (joined_report format p whole held) → ended ≡ joined_status p whole held → Answers format p old new ended
headline format p held whole old new ended least is writes ends = record {
  outcome = outcome_of p held;
  ends = ends ∙ ap (λ b. joined_status p b held) is;
  writes = subst (λ b. Appends old new (joined_report format p b held)) is writes;
  right = answer_held p held least;
}
