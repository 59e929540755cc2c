-- Why the joined cost is the least, where each report has the least cost of its piece.
use Rattle.std.proofs.Common.{◌≡◌, ◌↔◌, ℕ, ℤ, ◌+◌, ◌<◌, ◌≤ℤ◌, Bool, true, false, cond, List, length, Option, None, Some, refl, sym, ◌∙◌, ap, subst, arith, inl}
use Rattle.std.specs.Prelude.{All, Contains, is_some}
use Rattle.std.specs.Option.{IfSome}
use Rattle.std.specs.Io.KnownBytes.{Appends}
use Rattle.std.proofs.lemmas.Int.{ints, by_lt_z}
use Rattle.std.proofs.lemmas.List.Elements.{All-contains}
use Rattle.pb_inst.specs.Literal.{Literal}
use Rattle.pb_inst.specs.Problem.{Problem}
use Rattle.pb_inst.specs.Meaning.{IsFeasible, cost}
use Rattle.pb_inst.specs.Incumbent.{Solution, IsSolution}
use Rattle.pb_cubes.specs.Pieces.{LiesIn}
use Rattle.pb_cubes.specs.First.{IsNotBefore}
use Rattle.pb_cubes.specs.Solving.{IsInfeasible}
use Rattle.pb_cubes.proofs.Cover.{lies_in_some}
use Rattle.pb_read.specs.declared.format.Format.{Format}
use Rattle.pb_report.specs.Claims.{is_final}
use Rattle.pb_report.specs.declared.statuses.Status.{Status}
use Rattle.pb_report.specs.declared.statuses.Status.TheVariants.{Unsatisfiable}
use Rattle.pb_report.specs.Outcome.{Feasible, Optimal, status_of}
use Rattle.pb_join.specs.declared.reports.PieceReport.{PieceReport}
use Rattle.pb_join.specs.declared.states.PieceState.{PieceState}
use Rattle.pb_join.specs.declared.states.PieceState.TheVariants.{Done}
use Rattle.pb_join.specs.Pieces.{IsPieceInstance, found_in, outcome_of}
use Rattle.pb_join.specs.Joining.{AreGathered, IsReported, joined_report, joined_status}
use Rattle.pb_join.specs.Costs.{IsOptimum, IsLeastCost, IsLeastOfPiece, AreLeastOfPieces, AnswersLeastCost}
use Rattle.pb_join.proofs.Wholes.{all_solutions, no_objective, not_before_held, reported_done, same_cost}

-- an assignment is held that costs no more
abbrev pub CostsNoMore : Problem → Option Solution → List Bool → Type 0
CostsNoMore p None b = ⊥
CostsNoMore p (Some s) b = s.cost ≤ℤ cost p b

optimum_in : (q : Problem) (has : Bool) (z : ℤ) (a : List Bool) → IsLeastCost q (cond has (Optimal z a) (Feasible a)) → IsOptimum q a
optimum_in q true z a h = h.1
optimum_in q false z a h = h.1

-- what a report has costs no more than any feasible assignment of its piece
least_of_piece : (p : Problem) (cubes : List (List Literal)) (i : ℕ) (q : Problem) (held : Option Solution) → IsPieceInstance p cubes i q → IfSome held (IsSolution p) → IsLeastCost q (outcome_of p held)
    → (b : List Bool) → length b ≡ p.vars → IsFeasible p b → LiesIn cubes i b → CostsNoMore p held b
least_of_piece p cubes i q None is sound answer b number feasible inside = absurd (answer b (number ∙ sym is.vars) ((is.feasible b number).1 (feasible, inside)))
least_of_piece p cubes i q (Some s) is sound answer b number feasible inside =
    let optimum : IsOptimum q s.assignment = optimum_in q (is_some p.objective) s.cost s.assignment answer in
    let in_piece : cost q s.assignment ≤ℤ cost q b = optimum.none_cheaper b (number ∙ sym is.vars) ((is.feasible b number).1 (feasible, inside)) in
    let own : s.cost ≡ cost q s.assignment = sound.cost_is ∙ same_cost p q s.assignment is.objective in
    let other : cost p b ≡ cost q b = same_cost p q b is.objective in
    omega (arith, ints)

-- the first of all costs no more than what is not before it
first_costs_no_more : (p : Problem) (found first : Option Solution) (b : List Bool) → CostsNoMore p found b → IsNotBefore found first → CostsNoMore p first b
first_costs_no_more p None first b h not = absurd h
first_costs_no_more p (Some s) None b h not = absurd not
first_costs_no_more p (Some s) (Some t) b h not = by_lt_z s.cost t.cost (λ less. absurd (not (inl less))) (λ no_less. omega (arith, ints))

-- no feasible assignment costs less than what is held
pub none_cheaper : (p : Problem) (pieces : ℕ) (reports : List PieceReport) (held : Option Solution) (states : List PieceState) (cubes : List (List Literal)) → AreGathered p pieces reports held states → All (λ state. state ≡ Done) states → AreLeastOfPieces p pieces reports cubes
    → (b : List Bool) → length b ≡ p.vars → IsFeasible p b → CostsNoMore p held b
none_cheaper p pieces reports held states cubes h all right b number feasible =
    let lies = lies_in_some cubes b in
    let below : lies.number < length cubes + 1 = lies.below in
    let count : length cubes + 1 ≡ pieces = right.count in
    let reported : IsReported p reports lies.number true = reported_done p pieces reports states lies.number h.became all (omega arith) in
    by_report reported.1 (reported.0, reported.2, reported.3) reported.4
  where
    by_report : (r : PieceReport) → Contains reports r → (r.number ≡ (lies_in_some cubes b).number) × (is_final (is_some p.objective) r.claim ≡ true) → CostsNoMore p held b
    by_report r here of_piece =
        let answer = All-contains (λ (x : PieceReport). IsLeastOfPiece p cubes x) reports r right.each here of_piece.1 in
        first_costs_no_more p (found_in p r.claim) held b
        (least_of_piece p cubes r.number answer.0 (found_in p r.claim) answer.1 (All-contains (λ (x : PieceReport). IfSome (found_in p x.claim) (IsSolution p)) reports r (all_solutions p pieces reports h.fit) here) answer.2
        b number feasible (subst (λ i. LiesIn cubes i b) (sym of_piece.0) (lies_in_some cubes b).inside))
        (not_before_held (λ (x : PieceReport). found_in p x.claim) reports r held here h.first.none_before)

-- ---- what is held is an answer of the least cost

optimum : (p : Problem) (s : Solution) → IsSolution p s → ((b : List Bool) → length b ≡ p.vars → IsFeasible p b → s.cost ≤ℤ cost p b) → IsOptimum p s.assignment
optimum p s is none = record {
  for_all_variables = is.for_all_variables;
  feasible = is.feasible;
  none_cheaper = λ b number feasible. subst (λ (z : ℤ). z ≤ℤ cost p b) is.cost_is (none b number feasible);
}

least_some : (p : Problem) (s : Solution) (has : Bool) → is_some p.objective ≡ has → IsOptimum p s.assignment → s.cost ≡ cost p s.assignment → IsLeastCost p (cond has (Optimal s.cost s.assignment) (Feasible s.assignment))
least_some p s true e h z = (e, h, z)
least_some p s false e h z = (no_objective p.objective e, h)

least_held : (p : Problem) (held : Option Solution) → IfSome held (IsSolution p) → ((b : List Bool) → length b ≡ p.vars → IsFeasible p b → CostsNoMore p held b) → IsLeastCost p (outcome_of p held)
least_held p None is none = none
least_held p (Some s) is none = least_some p s (is_some p.objective) refl (optimum p s is none) is.cost_is

satisfiable : (has : Bool) (z : ℤ) (a : List Bool) → status_of (cond has (Optimal z a) (Feasible a)) ≡ Unsatisfiable → ⊥
satisfiable true z a e = cc
satisfiable false z a e = cc

unsatisfiable_held : (p : Problem) (held : Option Solution) → IfSome held (IsSolution p) → IsLeastCost p (outcome_of p held) → (status_of (outcome_of p held) ≡ Unsatisfiable) ↔ IsInfeasible p
unsatisfiable_held p None is right = (λ _. right, λ _. refl)
unsatisfiable_held p (Some s) is right = (λ e. absurd (satisfiable (is_some p.objective) s.cost s.assignment e), λ none. absurd (none s.assignment is.for_all_variables is.feasible))

pub least_cost : (format : Format) (p : Problem) (held : Option Solution) (whole : Bool) (old new : Option (List ℕ)) (ended : Status) → IfSome held (IsSolution p) → ((b : List Bool) → length b ≡ p.vars → IsFeasible p b → CostsNoMore p held b)
    → whole ≡ true → Appends old new (joined_report format p whole held) → ended ≡ joined_status p whole held → AnswersLeastCost format p old new ended
least_cost format p held whole old new ended is none all writes ends =
    let right : IsLeastCost p (outcome_of p held) = least_held p held is none in
    let ended_as : ended ≡ status_of (outcome_of p held) = ends ∙ ap (λ b. joined_status p b held) all in
    record {
      outcome = outcome_of p held;
      ends = ended_as;
      writes = subst (λ b. Appends old new (joined_report format p b held)) all writes;
      right = right;
      unsatisfiable = subst (λ (s : Status). (s ≡ Unsatisfiable) ↔ IsInfeasible p) (sym ended_as) (unsatisfiable_held p held is right);
    }
