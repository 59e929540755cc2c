use Rattle.std.proofs.Common.{List, inl, inr, arith, ap, ◌∙◌}
use Rattle.pb_normal.specs.NormalForm.{total_coefficient}
use Rattle.pb_normal.specs.declared.terms.PositiveTerm.{PositiveTerm}
use Rattle.pb_dual.proofs.multipliers.Multipliers.new.Goals.{then-vars-gt-MAX_VARS-via-then-vars-gt-MAX_VARS, then-vars-gt-MAX_VARS-via-else-vars-gt-MAX_VARS+then-not-has_scale}
use Rattle.pb_dual.proofs.multipliers.Multipliers.new.Goals as goal

pub returns-then-vars-gt-MAX_VARS-clause-none : goal.returns-then-vars-gt-MAX_VARS-clause-none
returns-then-vars-gt-MAX_VARS-clause-none g c = λ none. elim c.then-vars-gt-MAX_VARS.branch [
  | then-vars-gt-MAX_VARS-via-then-vars-gt-MAX_VARS w ↦ inl (omega (arith, w.if-vars-gt-MAX_VARS.true, c.vars-vars.ensures.value))
  | then-vars-gt-MAX_VARS-via-else-vars-gt-MAX_VARS+then-not-has_scale w ↦
      (let total = c.total_of-total.ensures ∙ ap (λ (ts : List PositiveTerm). total_coefficient ts) c.objective.ensures.value in
      inr (omega (arith, total, w.has_scale.ensures.over w.if-not-has_scale.true)))
]
