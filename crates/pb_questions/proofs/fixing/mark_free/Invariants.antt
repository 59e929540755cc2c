use Rattle.std.proofs.Common.{◌≡◌, ◌≢◌, ℕ, ◌<◌, length, false, slice_index_or}
use Rattle.pb_questions.specs.declared.fixing.VariableStatus.TheVariants.{Free, Unknown}
use Rattle.pb_questions.proofs.fixing.mark_free.Given as goal

-- the places so far are marked
abbrev pub invariant-loop-place : goal.invariant-loop-place
invariant-loop-place l = record {
  differ : (k : ℕ) → k < l.place → k < length l.initial.statuses → slice_index_or l.first k false ≢ slice_index_or l.other k false → slice_index_or l.statuses k Unknown ≡ Free;
  agree : (k : ℕ) → k < length l.initial.statuses → slice_index_or l.first k false ≡ slice_index_or l.other k false → slice_index_or l.statuses k Unknown ≡ slice_index_or l.initial.statuses k Unknown;
}
