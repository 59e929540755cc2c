use Rattle.std.proofs.Common.{◌≡◌, ◌++◌, List, ℕ, length}
use Rattle.pb_report.specs.Values.{AreTaken, CompleteWords}
use Rattle.pb_report.proofs.values.Values.take_words.Given as goal

-- the words so far were taken, and the others are left
abbrev pub invariant-loop-word : goal.invariant-loop-word
invariant-loop-word l = record {
  same_length : length l.self.given ≡ length l.self.seen;
  same_format : l.self.format ≡ l.fn.self.format;
  so_far : (vars : ℕ) (taken : List (List ℕ)) → AreTaken vars taken l.fn.self → (seen : List (List ℕ)) × (seen ++ l.word-iterator ≡ taken ++ l.fn.words) × AreTaken vars seen l.self;
  accepted : (more : List (List ℕ)) → CompleteWords (l.fn.words ++ more) l.fn.self → CompleteWords (l.word-iterator ++ more) l.self;
}
