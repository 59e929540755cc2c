-- What workers did of the pieces, and the first of what they found.
use Rattle.std.specs.Prelude.{◌≡◌, ◌≢◌, ◌↔◌, ℕ, ◌+◌, ◌≤◌, Bool, IsTrue, List, [], ◌∷◌, ◌++◌, length, map, flat_map, Option, None, All, Any, Contains}
use Rattle.std.specs.Option.{IfSome}
use Rattle.pb_inst.specs.Problem.{Problem}
use Rattle.pb_inst.specs.Incumbent.{Incumbent, Solution}
use Rattle.pb_board.specs.Numbers.{IsEachOnceBelow}
use Rattle.pb_cubes.specs.Pieces.{CubeList}
use Rattle.pb_cubes.specs.Done.{Division, IsDone}
pub use Rattle.pb_cubes.specs.First.{IsNotBefore, IsFirst, AreSolutions}

-- a list of pieces, the numbers of those that were searched whole and of those whose search was cut, with a budget the number of
-- decisions of each of these searches in the same order, and what was found
pub record PartView : Type 0 where
  pub pieces : CubeList
  pub named : List ℕ
  pub cut : List ℕ
  pub decisions : List ℕ
  pub cut_decisions : List ℕ
  pub best : Incumbent

-- the instance, and the cubes that divide it
abbrev pub division : PartView → Division
division part = record { problem = part.best.problem; cubes = part.pieces.cubes }

-- each piece that is named is done: none of its feasible assignments is before what is held
abbrev pub AreDone : PartView → Type 0
AreDone part = All (λ i. IsDone (division part) i part.best.held) part.named

-- each piece of the list is done, whoever searched it
abbrev pub IsSettled : CubeList → Incumbent → Type 0
IsSettled list best = (i : ℕ) → IsDone (record { problem = best.problem; cubes = list.cubes }) i best.held

-- the parts are of this list of pieces, and each of its pieces is named by some part
pub record AreWhole (list : CubeList) (parts : List PartView) : Type 0 where
  pub of_list : All (λ part. part.pieces ≡ list) parts
  pub all_named : (i : ℕ) → i ≤ length list.cubes → Any (λ part. Contains part.named i) parts

-- The decisions of each search are counted: with this budget no more than that where the piece is done, and all of it where it
-- was cut.
pub record AreCounted (budget : ℕ) (done decisions cut cut_decisions : List ℕ) : Type 0 where
  pub counted : length decisions ≡ length done
  pub within : All (λ n. n ≤ budget) decisions
  pub cut_counted : length cut_decisions ≡ length cut
  pub used_up : All (λ n. n ≡ budget) cut_decisions

-- the part keeps to this budget
abbrev pub KeepsBudget : ℕ → PartView → Type 0
KeepsBudget budget part = AreCounted budget part.named part.decisions part.cut part.cut_decisions

-- all numbers that the parts name, as done or as cut
abbrev pub all_numbers : List PartView → List ℕ
all_numbers parts = flat_map (λ part. part.named ++ part.cut) parts

-- The answer of parts on an instance and a list of pieces. Each piece is named once, by one part, as done or as cut, and no
-- other number is named; what a part names as done is done by what it holds. Of what the parts hold, this is the first, and
-- nothing where none of them holds anything. It is told whether some part names a piece as cut.
pub record IsAnswerOf (p : Problem) (pieces : CubeList) (parts : List PartView) (held : Option Solution) (some_cut : Bool) : Type 0 where
  pub of_instance : All (λ part. part.best.problem ≡ p) parts
  pub of_pieces : All (λ part. part.pieces ≡ pieces) parts
  pub each_once : IsEachOnceBelow (length pieces.cubes + 1) (all_numbers parts)
  pub done : All AreDone parts
  pub first : IsFirst (None ∷ map (λ part. part.best.held) parts) held
  pub told : IsTrue some_cut ↔ Any (λ part. part.cut ≢ []) parts

-- The pieces below a number, as one search leaves them: each is named once, as done by what is held, or as cut. It is told
-- whether one was cut.
pub record AreSearched (d : Division) (count : ℕ) (nodes : Option ℕ) (held : Option Solution) (some_cut : Bool) : Type 0 where
  pub done : List ℕ
  pub cut : List ℕ
  pub decisions : List ℕ
  pub cut_decisions : List ℕ
  pub each_once : IsEachOnceBelow count (done ++ cut)
  pub are_done : All (λ i. IsDone d i held) done
  pub budget : IfSome nodes (λ budget. AreCounted budget done decisions cut cut_decisions)
  pub told : IsTrue some_cut ↔ (cut ≢ [])
