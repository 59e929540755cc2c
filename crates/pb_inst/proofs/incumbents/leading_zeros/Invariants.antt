use Rattle.std.specs.Prelude.{◌≡◌, ℕ, ◌<◌, false, slice_index_or}
use Rattle.pb_inst.proofs.incumbents.leading_zeros.Given as goal

abbrev pub invariant-loop-place : goal.invariant-loop-place
invariant-loop-place l = (k : ℕ) → k < l.place → slice_index_or l.assignment k false ≡ false
