use Rattle.std.proofs.Common.{◌≡◌, ◌<◌, ◌+◌, ◌^◌, ◌++◌, List, ℕ, Option, length}
use Rattle.pb_read.specs.Text.{Placed}
use Rattle.pb_read.specs.Clauses.{Word, placed_words}
use Rattle.pb_read.specs.ClauseReading.{content_from, lines_from, HasTaken}
use Rattle.pb_read.proofs.dimacs.clause_reader.ClauseReader.take_rest.Given as goal

-- the words of the lines so far were taken, and the other lines are left
abbrev pub invariant-loop-line : goal.invariant-loop-line
invariant-loop-line l = record {
  counted : l.lines.before + length l.lines.rest < 2 ^ 64;
  same_limit : l.self.scan.limit ≡ l.fn.self.scan.limit;
  lines : l.lines.before + length (lines_from (l.lines.before + 1) l.lines.rest) ≡ l.fn.lines.before + length (lines_from (l.fn.lines.before + 1) l.fn.lines.rest);
  so_far : (announced : Option ℕ) (n : ℕ) (taken : List (Placed Word)) → HasTaken announced n l.fn.self taken
      → (seen : List (Placed (List ℕ))) × (seen ++ content_from (l.lines.before + 1) l.lines.rest ≡ content_from (l.fn.lines.before + 1) l.fn.lines.rest) × HasTaken announced n l.self (taken ++ placed_words seen);
}

abbrev pub decreases-loop-line : goal.decreases-loop-line
decreases-loop-line l = length (content_from (l.lines.before + 1) l.lines.rest)
