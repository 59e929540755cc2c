-- Marks by a stamp.
use Rattle.std.specs.Prelude.{ℕ, ◌≤◌, ◌==◌, Bool, List, map, All}

-- marked is what has the present stamp
unfoldable pub marks_of : ℕ → List ℕ → List Bool
marks_of stamp stamps = map (λ s. s == stamp) stamps

-- no stamp is later than the present one, which is at least 1
pub record AreStamps (stamp : ℕ) (stamps : List ℕ) : Type 0 where
  pub from_one : 1 ≤ stamp
  pub upto : All (λ s. s ≤ stamp) stamps
