-- What is seen of a search.
use Rattle.std.specs.Prelude.{ℕ}
use Rattle.pb_cubes.specs.Done.{Division}

-- what a search goes through piece by piece, and how many decisions its last run with a budget made
pub record Searcher : Type 0 where
  pub division : Division
  pub decisions : ℕ
