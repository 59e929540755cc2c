use Rattle.std.proofs.Common.{◌≡◌, ◌++◌, List, map, length}
use Rattle.pb_read.specs.Text.{words}
use Rattle.pb_read.specs.Clauses as clauses
use Rattle.pb_read.specs.ClauseReading.{Scanned}
use Rattle.pb_read.proofs.dimacs.scan.Scan.take_words.Given as goal

-- the words so far were taken, and those of the rest are left
abbrev pub invariant-loop-word : goal.invariant-loop-word
invariant-loop-word l = record {
  same_limit : l.self.limit ≡ l.fn.self.limit;
  so_far : (before : List clauses.Word) → Scanned l.fn.self.limit l.fn.self.literals.items l.fn.self.ended l.fn.self.broken l.fn.self.over before
      → (seen : List clauses.Word) × (seen ++ map clauses.word_of (words l.rest) ≡ before ++ map clauses.word_of (words l.bytes)) × Scanned l.self.limit l.self.literals.items l.self.ended l.self.broken l.self.over seen;
}

abbrev pub decreases-loop-word : goal.decreases-loop-word
decreases-loop-word l = length (words l.rest)
