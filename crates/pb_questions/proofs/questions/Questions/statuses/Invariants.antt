use Rattle.std.proofs.Common.{◌≡◌, ◌≢◌, ℕ, ◌<◌, None, length, slice_index_or}
use Rattle.std.specs.Prelude.{IfNone}
use Rattle.pb_questions.specs.declared.fixing.VariableStatus.TheVariants.{Unknown}
use Rattle.pb_questions.specs.Fixed.{AreStatusesOf}
use Rattle.pb_questions.specs.Sought.{IsWithin}
use Rattle.pb_questions.proofs.questions.Questions.statuses.Given as goal

-- the statuses are right, and without a budget known so far
abbrev pub invariant-loop-place : goal.invariant-loop-place
invariant-loop-place l = record {
  same_instance : l.self ≡ l.initial.self;
  same_cube : l.cube.items ≡ l.initial.cube.items;
  count : length l.statuses.items ≡ l.initial.self.vars;
  are : AreStatusesOf (IsWithin l.initial.self l.initial.cube.items l.bound) l.statuses.items;
  no_budget : IfNone l.initial.left ((l.left ≡ None) × ((k : ℕ) → k < l.place → slice_index_or l.statuses.items k Unknown ≢ Unknown));
}
