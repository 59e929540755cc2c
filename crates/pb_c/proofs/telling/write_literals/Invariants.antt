use Rattle.std.proofs.Common.{◌≡◌, ℕ, ◌<◌, ◌≤◌, pos, slice_index_or}
use Rattle.pb_inst.specs.Literal.{Literal}
use Rattle.pb_c.specs.Called.{number_of}
use Rattle.pb_c.proofs.telling.write_literals.Given as goal

-- the places so far are written
abbrev pub invariant-loop-place : goal.invariant-loop-place
invariant-loop-place l = record {
  written : (k : ℕ) (d : Literal) → k < l.place → slice_index_or l.room k (pos 0) ≡ number_of (slice_index_or l.literals k d);
  kept : (k : ℕ) → l.place ≤ k → slice_index_or l.room k (pos 0) ≡ slice_index_or l.initial.room k (pos 0);
}
