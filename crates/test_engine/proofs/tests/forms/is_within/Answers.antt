use Rattle.std.proofs.Common.{◌≡◌, ◌≤◌, get_or, subst, arith, inl, inr}
use Rattle.std.proofs.lemmas.Bool.{cases_lt}
use Rattle.std.proofs.lemmas.List.{get_or_read}
use Rattle.pb_inst.specs.Literal.{Literal}
use Rattle.test_engine.proofs.tests.forms.is_within.Goals as goal

pub loop-lit-preserved : goal.loop-lit-preserved
loop-lit-preserved c = λ k d h.
    let lits = c.args.lits.now in
    let i = c.loop-lit.lit-index in
    elim (cases_lt k i) [
      | inl early ↦ c.loop-lit.invariant k d early
      | inr late ↦
          (let here : k ≡ i = omega arith in
          let read : c.lit-item.result ≡ get_or lits i d = get_or_read lits i c.lit-item.result (omega arith) c.lit-item.is d in
          let low : c.lit-item.result.var ≤ c.args.vars = omega (arith, c.var.ensures.value) in
          rw here (subst (λ (l : Literal). l.var ≤ c.args.vars) read low))
    ]

pub returns : goal.returns
returns c = λ yes k d h. c.loop-lit.invariant k d (omega arith)
