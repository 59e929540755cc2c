use Rattle.std.proofs.Common.{◌≡◌, ◌≤◌, subst, sym}
use Rattle.std.specs.Prelude.{IsSomeAnd, slice_get}
use Rattle.pb_inst.specs.Literal.{Literal}
use Rattle.pb_normal.specs.NormalForm.{NormalForm, IsNormal}
use Rattle.pb_lagrange.proofs.RowTermLemmas.{term-within}
use Rattle.pb_lagrange.proofs.relaxation.steps.row_amount.Goals as goal

pub value-requires : goal.value-requires
value-requires g c = subst (λ (l : Literal). l.var ≤ c.args.multipliers.now.form.vars) (sym c.lit.ensures) (term-within c.args.multipliers.now.form c.args.row c.terms-term-items.result.now c.loop-term.term-index c.term-item.result (subst IsNormal c.form-form.ensures c.facts.ensures.normal) c.requires (subst (λ (f : NormalForm). IsSomeAnd (slice_get f.rows c.args.row) (λ r. r.terms ≡ c.terms-term-items.result.now)) c.form-form.ensures c.terms-term-items.ensures) c.loop-term-test.true c.term-item.is)
