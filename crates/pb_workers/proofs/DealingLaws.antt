-- What the names that parts give a task's pieces say of what the first of them holds.
use Rattle.std.proofs.Common.{◌≡◌, ◌∙◌, ℕ, ◌+◌, List, [], ◌∷◌, ◌++◌, Option, None, Some, Bool, length, map, get_or, refl, ap, subst, arith, cond}
use Rattle.std.specs.Prelude.{All, flat_map, ◌==◌}
use Rattle.std.specs.Option.{IfSome}
use Rattle.std.proofs.lemmas.List.Elements.{All-contains, All-append, All-nil, All-tail}
use Rattle.std.proofs.lemmas.List.Sorted.{All-permutation, sum_by-IsPermutation}
use Rattle.std.specs.List.Sorted.{IsPermutation}
use Rattle.pb_inst.specs.Problem.{Problem}
use Rattle.pb_inst.specs.Incumbent.{Solution, IsSolution}
use Rattle.pb_board.specs.Numbers.{times}
use Rattle.pb_board.proofs.Counts.{times-append}
use Rattle.pb_cubes.specs.Pieces.{CubeList}
use Rattle.pb_search.specs.Done.{Division, IsDone}
use Rattle.pb_workers.specs.Parts.{PartView, AreDone, IsNotBefore, all_numbers, division}
use Rattle.pb_workers.specs.Dealing.{TaskView, AreDealtWork, AreNamesOf, ArePieces, IsAnswerOfTask}
use Rattle.pb_workers.proofs.LeastLaws.{All-from_map, done_by_first}

-- how often a number stands in either of two lists that parts give, and in both
times_both : (parts : List PartView) (i : ℕ) → times i (flat_map (λ (x : PartView). x.named) parts) + times i (flat_map (λ (x : PartView). x.cut) parts) ≡ times i (all_numbers parts)
times_both [] i = omega arith
times_both (part ∷ parts) i =
    omega (
      arith,
      times_both parts i,
      times-append i part.named (flat_map (λ (x : PartView). x.named) parts),
      times-append i part.cut (flat_map (λ (x : PartView). x.cut) parts),
      times-append i (part.named ++ part.cut) (all_numbers parts),
      times-append i part.named part.cut,
    )

times_shuffled : (xs ys : List ℕ) (i : ℕ) → IsPermutation xs ys → times i ys ≡ times i xs
times_shuffled xs ys i moved = sum_by-IsPermutation (λ y. cond (y == i) 1 0) xs ys moved

-- a number stands in the names together as often as the parts have it
named_as_often : (task : TaskView) (parts : List PartView) (done cut : List ℕ) (i : ℕ) → AreNamesOf (Some task) parts done cut → times i (done ++ cut) ≡ times i (all_numbers parts)
named_as_often task parts done cut i names =
    times-append i done cut
    ∙ ap (λ n. n + times i cut) (times_shuffled (flat_map (λ (x : PartView). x.named) parts) done i names.0)
    ∙ ap (λ n. times i (flat_map (λ (x : PartView). x.named) parts) + n) (times_shuffled (flat_map (λ (x : PartView). x.cut) parts) cut i names.1)
    ∙ times_both parts i

-- so the names are those of pieces, as the parts' are
pieces_named : (task : TaskView) (count : ℕ) (parts : List PartView) (done cut : List ℕ) → ArePieces (Some task) count (all_numbers parts) → AreNamesOf (Some task) parts done cut → ArePieces (Some task) count (done ++ cut)
pieces_named task count parts done cut pieces names = record {
  at_most_once = λ i. omega (arith, named_as_often task parts done cut i names, pieces.at_most_once i);
  dealt = λ none i. named_as_often task parts done cut i names ∙ pieces.dealt none i;
}

-- what holds of each number that some part names holds of all of them
all_of_parts : (P : ℕ → Type 0) (parts : List PartView) → All (λ (x : PartView). All P x.named) parts → All P (flat_map (λ (x : PartView). x.named) parts)
all_of_parts P [] all = All-nil P
all_of_parts P (part ∷ parts) all =
    All-append P part.named (flat_map (λ (x : PartView). x.named) parts)
    (All-contains (λ (x : PartView). All P x.named) (part ∷ parts) part all (0, omega arith, refl))
    (all_of_parts P parts (All-tail (λ (x : PartView). All P x.named) part parts all))

-- what a part did is done by the first of what all parts hold
part_done_by_first : (p : Problem) (pieces : CubeList) (held : Option Solution) (part : PartView) → IfSome held (IsSolution p) → part.best.problem ≡ p → part.pieces ≡ pieces → AreDone part → IsNotBefore part.best.held held
    → All (λ i. IsDone (record { problem = p; cubes = pieces.cubes }) i held) part.named
part_done_by_first p pieces held part is of_problem of_list done not_before =
    let d : Division = record { problem = p; cubes = pieces.cubes } in
    let same : division part ≡ d =
    ap (λ (q : Problem). let e : Division = record { problem = q; cubes = part.pieces.cubes } in e) of_problem
    ∙ ap (λ (l : CubeList). let e : Division = record { problem = p; cubes = l.cubes } in e) of_list in
    λ k i within. done_by_first d (get_or part.named k i) part.best.held held (subst (λ (e : Division). IsDone e (get_or part.named k i) part.best.held) same (done k i within)) is not_before

-- the answer of a task, from its workers' work and their names
pub answer_of_task : (p : Problem) (pieces : CubeList) (task : TaskView) (nodes : Option ℕ) (race : Bool) (parts : List PartView) (done cut : List ℕ) (held : Option Solution) (some_cut : Bool)
    → AreDealtWork p pieces (Some task) nodes race parts held some_cut → AreNamesOf (Some task) parts done cut → IfSome held (IsSolution p) → IsAnswerOfTask p pieces task done cut held
answer_of_task p pieces task nodes race parts done cut held some_cut work names is =
    let d : Division = record { problem = p; cubes = pieces.cubes } in
    let none_before : All (λ (x : PartView). IsNotBefore x.best.held held) parts =
    All-from_map (λ s. IsNotBefore s held) (λ (x : PartView). x.best.held) parts (All-tail (λ s. IsNotBefore s held) None (map (λ x. x.best.held) parts) work.first.none_before) in
    let each : All (λ (x : PartView). All (λ i. IsDone d i held) x.named) parts =
    λ k part within. part_done_by_first p pieces held (get_or parts k part) is (work.of_instance k part within) (work.of_pieces k part within) (work.done k part within) (none_before k part within) in
    record {
      named = pieces_named task (length pieces.cubes + 1) parts done cut work.named names;
      solution = is;
      are_done = All-permutation (λ i. IsDone d i held) (flat_map (λ (x : PartView). x.named) parts) done names.0 (all_of_parts (λ i. IsDone d i held) parts each);
    }
