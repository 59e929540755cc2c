use Rattle.std.proofs.Common.{◌≡◌, ◌++◌, List, ℕ, Option, length}
use Rattle.pb_read.specs.Text.{Placed, words}
use Rattle.pb_read.specs.Clauses as clauses
use Rattle.pb_read.specs.ClauseReading.{HasTaken}
use Rattle.pb_read.proofs.Following.{placed}
use Rattle.pb_read.proofs.dimacs.clause_reader.ClauseReader.take_line.Given as goal

-- the words so far were taken, and those of the rest are left
abbrev pub invariant-loop-word : goal.invariant-loop-word
invariant-loop-word l = record {
  same_limit : l.self.scan.limit ≡ l.fn.self.scan.limit;
  so_far : (announced : Option ℕ) (n : ℕ) (taken : List (Placed clauses.Word)) → HasTaken announced n l.fn.self taken
      → (seen : List (List ℕ)) × (seen ++ words l.rest ≡ words l.line) × HasTaken announced n l.self (taken ++ placed l.number seen);
}

abbrev pub decreases-loop-word : goal.decreases-loop-word
decreases-loop-word l = length (words l.rest)
