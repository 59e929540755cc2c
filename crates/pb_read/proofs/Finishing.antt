-- What the draft of a whole statement says of it.
use Rattle.std.proofs.Common.{◌≡◌, ◌<◌, ◌≤◌, sym, ap, ◌∙◌, List, Bool, true, false, None, Option, arith, ltb}
use Rattle.std.proofs.lemmas.Bool.{ltb-true, ltb-false}
use Rattle.std.specs.Prelude.{sum_by}
use Rattle.pb_inst.specs.declared.limits.TheConstants.{SUM_BOUND}
use Rattle.pb_read.specs.declared.fault.ReadKind.{ReadKind}
use Rattle.pb_read.specs.Runs.{first_is}
use Rattle.pb_read.specs.Refusal.{first_kind}
use Rattle.pb_read.specs.Places.{form_faults}
use Rattle.pb_read.specs.Opb.{Token, is_min, size, objective_tokens, constraint_tokens}
use Rattle.pb_read.specs.Drafts.{Gathered, gathered, draft_faults}
use Rattle.pb_read.proofs.Drafting.{gathered_sum, gathered_objective, same_faults}
use Rattle.pb_read.proofs.Taken.{formed, drafted, drafted_objective, drafted_constraint}

module _ (first : Bool) (d : Gathered) (s : List Token) (same : d ≡ gathered s) where
  pub form_of : (o : Option ReadKind) → o ≡ first_kind (draft_faults first d) → o ≡ first_kind (form_faults first s)
  form_of o h = h ∙ ap (λ (x : Gathered). first_kind (draft_faults first x)) same ∙ ap first_kind (same_faults first s)

  pub min_of : (b : Bool) → b ≡ d.is_objective → first_is is_min s ≡ b
  min_of b h = sym (h ∙ ap (λ (x : Gathered). x.is_objective) same ∙ gathered_objective s)

  pub sum_over : (b : Bool) → b ≡ ltb SUM_BOUND d.sum → b ≡ true → SUM_BOUND < sum_by size s
  sum_over b e h = omega (arith, ltb-true SUM_BOUND d.sum (sym e ∙ h), ap (λ (x : Gathered). x.sum) same, gathered_sum s)

  pub sum_within : (b : Bool) → b ≡ ltb SUM_BOUND d.sum → b ≡ false → sum_by size s ≤ SUM_BOUND
  sum_within b e h = omega (arith, ltb-false SUM_BOUND d.sum (sym e ∙ h), ap (λ (x : Gathered). x.sum) same, gathered_sum s)

  pub objective_is : None ≡ first_kind (form_faults first s) → first_is is_min s ≡ true → sum_by size s ≤ SUM_BOUND → s ≡ objective_tokens d.terms
  objective_is form m sum = drafted_objective s (formed first s form) m sum ∙ ap (λ (x : Gathered). objective_tokens x.terms) (sym same)

  pub constraint_is : None ≡ first_kind (form_faults first s) → first_is is_min s ≡ false → sum_by size s ≤ SUM_BOUND → s ≡ constraint_tokens (drafted d)
  constraint_is form m sum = drafted_constraint s (formed first s form) m sum ∙ ap (λ (x : Gathered). constraint_tokens (drafted x)) (sym same)
