-- Why what the reports of parts make is the report of the whole instance, where each piece is done.
use Rattle.std.proofs.Common.{◌≡◌, ℕ, ◌+◌, ◌<◌, List, [], ◌∷◌, length, map, Option, None, subst}
use Rattle.std.specs.Prelude.{All, Any, Contains}
use Rattle.std.specs.Option.{IfSome}
use Rattle.std.proofs.lemmas.List.Elements.{All-cons, All-contains, All-head, All-map, All-weaker}
use Rattle.pb_inst.specs.Literal.{Literal}
use Rattle.pb_inst.specs.Problem.{Problem}
use Rattle.pb_inst.specs.Incumbent.{Solution, IsSolution}
use Rattle.pb_cubes.specs.Done.{IsDone}
use Rattle.pb_cubes.specs.First.{AreSolutions, IsNotBefore}
use Rattle.pb_cubes.specs.Solving.{HoldsLeast}
use Rattle.pb_cubes.proofs.LeastLaws.{done_by_first, least_of_all_done}
use Rattle.pb_report.specs.Claims.{witness_of}
use Rattle.pb_parts.specs.declared.parts.Division.{Division}
use Rattle.pb_parts.specs.declared.parts.PartReport.{PartReport}
use Rattle.pb_join.specs.declared.parts.states.ReportState.{ReportState}
use Rattle.pb_join.specs.Pieces.{found_in}
use Rattle.pb_join.specs.Joining.{IsWitness}
use Rattle.pb_join.specs.Parts.{AreAllNamed, AreFitParts, AreGatheredParts, ArePartsOf, PartHolds, all_found_in_parts, first_division}
use Rattle.pb_join.proofs.Wholes.{not_before_held, solution_found}

found_solutions : (p : Problem) (digest : List ℕ) (tasks : ℕ) (parts : List PartReport) → AreFitParts p digest tasks parts → All (λ (part : PartReport). IfSome (found_in p part.claim) (IsSolution p)) parts
found_solutions p digest tasks parts fit = All-weaker (λ (part : PartReport). IfSome (witness_of part.claim) (IsWitness p)) (λ (part : PartReport). IfSome (found_in p part.claim) (IsSolution p)) (λ part h. solution_found p (witness_of part.claim) h) parts fit.witnesses

pub part_solutions : (p : Problem) (digest : List ℕ) (tasks : ℕ) (parts : List PartReport) → AreFitParts p digest tasks parts → AreSolutions p (all_found_in_parts p parts)
part_solutions p digest tasks parts fit =
    All-cons (λ s. IfSome s (IsSolution p)) None (map (λ (part : PartReport). found_in p part.claim) parts) tt
    (All-map (λ s. IfSome s (IsSolution p)) (λ (part : PartReport). found_in p part.claim) parts (found_solutions p digest tasks parts fit))

pub first_is : (p : Problem) (digest : List ℕ) (tasks : ℕ) (parts : List PartReport) (division : Option Division) (held : Option Solution) (states : List ReportState) → AreGatheredParts p digest tasks parts division held states → IfSome held (IsSolution p)
first_is p digest tasks parts division held states h = All-contains (λ s. IfSome s (IsSolution p)) (all_found_in_parts p parts) held (part_solutions p digest tasks parts h.fit) h.first.one_of_them

-- ---- what is held is the least assignment

-- a piece that some report names as done is done by what is held
done_by_held : (p : Problem) (cubes : List (List Literal)) (parts : List PartReport) (held : Option Solution) (i : ℕ) → ArePartsOf p cubes parts → IfSome held (IsSolution p) → All (λ s. IsNotBefore s held) (all_found_in_parts p parts) → Any (λ (part : PartReport). Contains part.heading.done.items i) parts
    → IsDone (record { problem = p; cubes = cubes }) i held
done_by_held p cubes parts held i right is none (k, part, within, at, names) =
    done_by_first (record { problem = p; cubes = cubes }) i (found_in p part.claim) held
    (All-contains (λ n. IsDone (record { problem = p; cubes = cubes }) n (found_in p part.claim)) part.heading.done.items i (All-contains (PartHolds p cubes) parts part right.each (k, within, at)) names)
    is (not_before_held (λ (x : PartReport). found_in p x.claim) parts part held (k, within, at) none)

-- what is held is the least assignment, where each report holds and each piece is named
pub whole_least : (p : Problem) (digest : List ℕ) (tasks : ℕ) (parts : List PartReport) (division : Option Division) (held : Option Solution) (states : List ReportState) (cubes : List (List Literal)) → AreGatheredParts p digest tasks parts division held states → AreAllNamed (first_division parts) parts → ArePartsOf p cubes parts
    → HoldsLeast p held
whole_least p digest tasks [] division held states cubes h all right = absurd all
whole_least p digest tasks (x ∷ rest) division held states cubes h all right =
    let count : length cubes + 1 ≡ x.heading.division.pieces = All-head (λ (part : PartReport). length cubes + 1 ≡ part.heading.division.pieces) x rest right.count in
    least_of_all_done (record { problem = p; cubes = cubes }) held (λ i below.
    done_by_held p cubes (x ∷ rest) held i right (first_is p digest tasks (x ∷ rest) division held states h) h.first.none_before
    (all i (subst (λ n. i < n) count below)))
