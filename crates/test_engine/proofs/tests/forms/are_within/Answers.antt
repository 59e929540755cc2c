use Rattle.std.proofs.Common.{◌≡◌, ◌≤◌, List, get_or, subst, arith, inl, inr, All}
use Rattle.std.proofs.lemmas.Bool.{cases_lt}
use Rattle.std.proofs.lemmas.List.{get_or_read}
use Rattle.pb_inst.specs.Literal.{Literal}
use Rattle.test_engine.proofs.tests.forms.are_within.Goals as goal

pub loop-cube-preserved : goal.loop-cube-preserved
loop-cube-preserved c = λ k d h.
    let cubes = c.args.cubes.now in
    let i = c.loop-cube.cube-index in
    let P : List Literal → Type 0 = λ ls. All (λ (m : Literal). m.var ≤ c.args.vars) ls in
    elim (cases_lt k i) [
      | inl early ↦ c.loop-cube.invariant k d early
      | inr late ↦
          (let here : k ≡ i = omega arith in
          let read : c.cube-item.result ≡ get_or cubes i d = get_or_read cubes i c.cube-item.result (omega arith) c.cube-item.is d in
          let low : P c.lits.result.now = c.is_within.ensures c.if-not-is_within.false in
          rw here (subst P read (subst P c.lits.ensures low)))
    ]

pub returns : goal.returns
returns c = λ yes k d h. c.loop-cube.invariant k d (omega arith)
