use Rattle.std.proofs.Common.{◌≡◌, ℕ, ◌<◌, ◌≤◌, slice_index_or}
use Rattle.pb_questions.specs.declared.fixing.VariableStatus.TheVariants.{Unknown}
use Rattle.pb_c.specs.Questions.{status_number}
use Rattle.pb_c.proofs.telling.write_statuses.Given as goal

-- the places so far are written
abbrev pub invariant-loop-place : goal.invariant-loop-place
invariant-loop-place l = record {
  written : (k : ℕ) → k < l.place → slice_index_or l.room k 0 ≡ status_number (slice_index_or l.statuses k Unknown);
  kept : (k : ℕ) → l.place ≤ k → slice_index_or l.room k 0 ≡ slice_index_or l.initial.room k 0;
}
