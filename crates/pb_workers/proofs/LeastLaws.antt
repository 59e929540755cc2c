-- Why the first of what parts found is the least assignment, where the parts name all pieces.
use Rattle.std.proofs.Common.{◌≡◌, ℕ, List, ◌∷◌, map, Option, ◌∙◌, ap, arith, subst, sym}
use Rattle.std.specs.Prelude.{All, Any, Contains}
use Rattle.std.specs.Option.{IfSome}
use Rattle.std.proofs.lemmas.List.Elements.{All-contains, All-tail}
use Rattle.pb_inst.specs.Problem.{Problem}
use Rattle.pb_inst.specs.Incumbent.{Incumbent, Solution, IsSolution}
use Rattle.pb_cubes.specs.Pieces.{CubeList}
use Rattle.pb_cubes.specs.Done.{Division, IsDone}
use Rattle.pb_cubes.specs.First.{IsNotBefore, IsFirst, AreSolutions}
use Rattle.pb_cubes.specs.Solving.{HoldsLeast}
use Rattle.pb_workers.specs.Parts.{PartView, division, AreDone, AreWhole, IsSettled}
pub use Rattle.pb_cubes.proofs.LeastLaws.{All-from_map, done_by_first, least_of_all_done}

-- what is known of the parts and of the first of what was held before and what they found
pub record IsGathered (p : Problem) (before : Option Solution) (parts : List PartView) (first : Option Solution) : Type 0 where
  pub of_instance : All (λ part. part.best.problem ≡ p) parts
  pub done : All AreDone parts
  pub solutions : AreSolutions p (before ∷ map (λ part. part.best.held) parts)
  pub is_first : IsFirst (before ∷ map (λ part. part.best.held) parts) first

-- a piece that a part names is done by the first
done_by_part : (p : Problem) (list : CubeList) (before : Option Solution) (parts : List PartView) (first : Option Solution) (part : PartView) (i : ℕ)
    → IsGathered p before parts first → AreWhole list parts → IfSome first (IsSolution p) → Contains parts part → Contains part.named i → IsDone (record { problem = p; cubes = list.cubes }) i first
done_by_part p list before parts first part i h whole first_is here named =
    let of_problem : part.best.problem ≡ p = All-contains (λ x. x.best.problem ≡ p) parts part h.of_instance here in
    let of_list : part.pieces ≡ list = All-contains (λ x. x.pieces ≡ list) parts part whole.of_list here in
    let same : division part ≡ record { problem = p; cubes = list.cubes } =
    ap (λ (q : Problem). let d : Division = record { problem = q; cubes = part.pieces.cubes } in d) of_problem
    ∙ ap (λ (l : CubeList). let d : Division = record { problem = p; cubes = l.cubes } in d) of_list in
    let done : IsDone (division part) i part.best.held = All-contains (λ n. IsDone (division part) n part.best.held) part.named i (All-contains AreDone parts part h.done here) named in
    let none_before : All (λ (x : PartView). IsNotBefore x.best.held first) parts =
    All-from_map (λ s. IsNotBefore s first) (λ (x : PartView). x.best.held) parts (All-tail (λ s. IsNotBefore s first) before (map (λ x. x.best.held) parts) h.is_first.none_before) in
    done_by_first (record { problem = p; cubes = list.cubes }) i part.best.held first
    (subst (λ (d : Division). IsDone d i part.best.held) same done)
    first_is
    (All-contains (λ (x : PartView). IsNotBefore x.best.held first) parts part none_before here)

pub holds_least : (p : Problem) (list : CubeList) (before : Option Solution) (parts : List PartView) (first : Option Solution) → IsGathered p before parts first → AreWhole list parts → HoldsLeast p first
holds_least p list before parts first h whole =
    let first_is : IfSome first (IsSolution p) = All-contains (λ s. IfSome s (IsSolution p)) (before ∷ map (λ part. part.best.held) parts) first h.solutions h.is_first.one_of_them in
    least_of_all_done (record { problem = p; cubes = list.cubes }) first (λ i below.
    let naming = whole.all_named i (omega arith) in
    done_by_part p list before parts first naming.1 i h whole first_is (naming.0, naming.2, naming.3) naming.4)

-- where a part settled its list, so does the first of what all parts found
pub settled_by_first : (p : Problem) (list : CubeList) (before : Option Solution) (parts : List PartView) (first : Incumbent)
    → All (λ x. x.best.problem ≡ p) parts → All (λ x. x.pieces ≡ list) parts → IsFirst (before ∷ map (λ part. part.best.held) parts) first.held
    → first.problem ≡ p → IfSome first.held (IsSolution p) → Any (λ (x : PartView). IsSettled x.pieces x.best) parts → IsSettled list first
settled_by_first p list before parts first of_instance of_pieces is_first same first_is (k, part, within, is, settled) i =
    let here : Contains parts part = (k, within, is) in
    let of_problem : part.best.problem ≡ p = All-contains (λ x. x.best.problem ≡ p) parts part of_instance here in
    let of_list : part.pieces ≡ list = All-contains (λ x. x.pieces ≡ list) parts part of_pieces here in
    let d : Division = record { problem = p; cubes = list.cubes } in
    let as_division : division part ≡ d =
    ap (λ (q : Problem). let e : Division = record { problem = q; cubes = part.pieces.cubes } in e) of_problem
    ∙ ap (λ (l : CubeList). let e : Division = record { problem = p; cubes = l.cubes } in e) of_list in
    let none_before : All (λ (x : PartView). IsNotBefore x.best.held first.held) parts =
    All-from_map (λ s. IsNotBefore s first.held) (λ (x : PartView). x.best.held) parts (All-tail (λ s. IsNotBefore s first.held) before (map (λ x. x.best.held) parts) is_first.none_before) in
    let done : IsDone d i first.held =
    done_by_first d i part.best.held first.held (subst (λ (e : Division). IsDone e i part.best.held) as_division (settled i)) first_is
    (All-contains (λ (x : PartView). IsNotBefore x.best.held first.held) parts part none_before here) in
    subst (λ (q : Problem). IsDone (record { problem = q; cubes = list.cubes }) i first.held) (sym same) done
