-- Which pieces a task is dealt, and what its workers did of them.
use Rattle.std.specs.Prelude.{◌≡◌, ◌≢◌, ◌↔◌, ℕ, ◌+◌, ◌-◌, ◌*◌, ◌^◌, ◌≤◌, ◌%◌, ◌==◌, ◌&&◌, not, nat_lt, if◌then◌else◌, Bool, true, false, IsTrue, List, [], ◌∷◌, ◌++◌, length, map, flat_map, All, Any, ⊤, Option, None, Some, IfNone, IfSome}
use Rattle.std.specs.List.Sorted.{IsPermutation}
use Rattle.pb_inst.specs.Problem.{Problem}
use Rattle.pb_inst.specs.Incumbent.{Solution, IsSolution}
use Rattle.pb_board.specs.Numbers.{times}
use Rattle.pb_cubes.specs.Pieces.{CubeList}
use Rattle.pb_search.specs.Done.{IsDone}
use Rattle.pb_workers.specs.Parts.{PartView, AreDone, IsFirst, KeepsBudget, all_numbers}

-- the number of a task, how many there are, and whether it claims pieces beyond those that it is dealt
pub record TaskView : Type 0 where
  pub number : ℕ
  pub tasks : ℕ
  pub claims : Bool

-- whether the task is dealt the piece: pieces are dealt to the tasks in turn. Without a task every piece is.
abbrev pub is_dealt : Option TaskView → ℕ → Bool
is_dealt None i = true
is_dealt (Some task) i = i % task.tasks == task.number

-- whether the number is that of one of `count` pieces, and the task is dealt it
abbrev pub is_own_piece : Option TaskView → ℕ → ℕ → Bool
is_own_piece task count i = is_dealt task i && nat_lt i count

-- whether pieces are claimed beyond those that the task is dealt
abbrev pub has_claims : Option TaskView → Bool
has_claims None = false
has_claims (Some task) = task.claims

-- how many numbers stand for pieces: one for each of `count` pieces, and where others' pieces are claimed one more, if these
-- numbers stay below 2^32
abbrev pub numbers_for : Option TaskView → ℕ → ℕ
numbers_for task count = if has_claims task && nat_lt count (2 ^ 31) then 2 * count else count

-- whether the number stands for a piece that another task is dealt
abbrev pub is_for_others : Option TaskView → ℕ → ℕ → Bool
is_for_others task count n = has_claims task && (nat_lt n (numbers_for task count) && (not (nat_lt n count) && not (is_dealt task (2 * count - (n + 1)))))

-- the piece that the number stands for, if any: itself, where the task is dealt that, and of numbers from `count` on the pieces that
-- others are dealt, the last one first
abbrev pub piece_of : Option TaskView → ℕ → ℕ → List ℕ
piece_of task count n = if is_own_piece task count n then n ∷ [] else (if is_for_others task count n then (2 * count - (n + 1)) ∷ [] else [])

-- the list holds the number of each piece that the task is dealt once, and no others
abbrev pub IsEachOwnOnce : Option TaskView → ℕ → List ℕ → Type 0
IsEachOwnOnce task count numbers = (i : ℕ) → times i numbers ≡ (if is_own_piece task count i then 1 else 0)

-- the list holds numbers of pieces, each once at most, and where no others are claimed exactly those that the task is dealt
pub record ArePieces (task : Option TaskView) (count : ℕ) (numbers : List ℕ) : Type 0 where
  pub at_most_once : (i : ℕ) → times i numbers ≤ (if nat_lt i count then 1 else 0)
  pub dealt : has_claims task ≡ false → IsEachOwnOnce task count numbers

-- The work of workers on the pieces that a task is dealt, or that it claims. A piece is named once at most, and where none is
-- claimed each that the task is dealt is, by one part, as done or, where there is a budget or a race, as cut; what a part names as done is done by what it holds. Of what the parts hold, this is the first. It is told
-- whether some part names a piece as cut.
pub record AreDealtWork (p : Problem) (pieces : CubeList) (task : Option TaskView) (nodes : Option ℕ) (race : Bool) (parts : List PartView) (held : Option Solution) (some_cut : Bool) : Type 0 where
  pub of_instance : All (λ part. part.best.problem ≡ p) parts
  pub of_pieces : All (λ part. part.pieces ≡ pieces) parts
  pub named : ArePieces task (length pieces.cubes + 1) (all_numbers parts)
  pub uncut : race ≡ false → IfNone nodes (All (λ part. part.cut ≡ []) parts)
  pub budget : IfSome nodes (λ budget. All (KeepsBudget budget) parts)
  pub done : All AreDone parts
  pub first : IsFirst (None ∷ map (λ part. part.best.held) parts) held
  pub told : IsTrue some_cut ↔ Any (λ part. part.cut ≢ []) parts

-- the numbers that parts name as done, and those that they name as cut, in any order; of a task alone
abbrev pub AreNamesOf : Option TaskView → List PartView → (done cut : List ℕ) → Type 0
AreNamesOf None parts done cut = ⊤
AreNamesOf (Some task) parts done cut = IsPermutation (flat_map (λ part. part.named) parts) done × IsPermutation (flat_map (λ part. part.cut) parts) cut

-- The answer of a task. A piece is named once at most, as done or as cut, and where the task claims none each that it is dealt is
-- named, and no other; what is held is a solution, where anything is, and no feasible assignment of a piece that is named as done is
-- before it.
pub record IsAnswerOfTask (p : Problem) (pieces : CubeList) (task : TaskView) (done cut : List ℕ) (held : Option Solution) : Type 0 where
  pub named : ArePieces (Some task) (length pieces.cubes + 1) (done ++ cut)
  pub solution : IfSome held (IsSolution p)
  pub are_done : All (λ i. IsDone (record { problem = p; cubes = pieces.cubes }) i held) done
