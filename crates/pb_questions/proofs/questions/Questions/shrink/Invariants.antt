use Rattle.std.proofs.Common.{◌≡◌, None, true, length}
use Rattle.std.specs.Prelude.{IfNone}
use Rattle.pb_questions.proofs.ExplainLemmas.{IsShrunk}
use Rattle.pb_questions.proofs.questions.Questions.shrink.Given as goal

-- the literals so far are shrunk
abbrev pub invariant-loop-tried : goal.invariant-loop-tried
invariant-loop-tried l = record {
  same_instance : l.self ≡ l.initial.self;
  shrunk : IsShrunk l.initial.self l.initial.literals.items l.literals.items (length l.initial.literals.items) l.tried l.is_minimal;
  no_budget : IfNone l.initial.left ((l.left ≡ None) × (l.is_minimal ≡ true));
}
