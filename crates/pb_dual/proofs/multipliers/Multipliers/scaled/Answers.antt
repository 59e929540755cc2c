use Rattle.std.proofs.Common.{◌≡◌, ℕ, List, refl, sym, subst, ◌*◌, ◌^◌, length, replicate, None, ap, arith, rules, ◌∙◌}
use Rattle.std.specs.Vec.{vec_capacity}
use Rattle.std.proofs.lemmas.Nat.{mul-le}
use Rattle.pb_inst.specs.declared.limits.TheConstants.{MAX_VARS}
use Rattle.pb_normal.specs.NormalForm.{PositiveRow}
use Rattle.pb_dual.specs.Multipliers.{AreKept}
use Rattle.pb_dual.proofs.SaturationLemmas.{counted-wholes, saturations-whole}
use Rattle.pb_dual.proofs.StartLemmas.{kept-first}
use Rattle.pb_dual.proofs.multipliers.Multipliers.scaled.Goals as goal

pub overflow_mul-result : goal.overflow_mul-result
overflow_mul-result g c =
    let most = mul-le c.number.result c.vars-vars.result (2 ^ 105) MAX_VARS (omega (arith, c.number.ensures, c.origin.ensures, g.C.Coefficient.origin_small)) (omega (arith, c.vars-vars.ensures.value, c.requires.few)) in
    omega arith

pub invariant_of-result : goal.invariant_of-result
invariant_of-result g c =
    let rows = ap (λ (n : ℕ). c.share_of-share.result * n) c.len-2.ensures.value in
    let vars = c.vars-vars.ensures.value in
    let turned : g.C.Coefficient.origin * c.args.form.vars ≡ c.args.form.vars * g.C.Coefficient.origin = omega arith in
    let floor : c.number.result * c.vars-vars.result ≡ c.args.form.vars * g.C.Coefficient.origin = ap (λ (n : ℕ). n * c.vars-vars.result) (c.number.ensures ∙ c.origin.ensures) ∙ (ap (λ (n : ℕ). g.C.Coefficient.origin * n) vars ∙ turned) in
    let same = counted-wholes c.args.form.rows c.in_ok-saturations.saturations.items c.args.form.vars c.in_ok-saturations.ensures c.vars-vars.ensures.normal.shape.rows in
    let kept = kept-first c.args.form c.in_ok-multipliers.multipliers.items c.in_ok-lits.lits.items c.in_ok-changes.changes.items g.C.Coefficient.origin c.scale_for-scale.result c.args.total c.share_of-share.result c.in_ok-costs.costs.items c.in_ok-values.values.items c.of-2.result (c.number.result * c.vars-vars.result) (vec_capacity c.in_ok-lits.lits)
    c.vars-vars.ensures.normal
    c.scale_for-scale.ensures.from_one
    c.requires.total
    c.scale_for-scale.ensures.fits
    (omega (arith, c.share_of-share.ensures))
    c.of-2.ensures
    (c.in_ok-multipliers.ensures.items_if_clones_equal (search rules) ∙ (ap (λ (n : ℕ). replicate n c.of.result) c.len.ensures.value ∙ ap (λ (z : ℕ). replicate (length c.args.form.rows) z) c.of.ensures))
    c.in_ok-lits.ensures.items
    c.in_ok-changes.ensures.items
    c.in_ok-costs.ensures
    (c.in_ok-values.ensures.items_if_clones_equal (search rules) ∙ ap (λ (n : ℕ). replicate n None) vars)
    (omega (arith, c.in_ok-lits.ensures.exact))
    c.requires.few
    floor in (
      subst (λ (rows : List PositiveRow). AreKept (record c.args.form { rows = rows }) c.args.form c.in_ok-multipliers.multipliers.items c.in_ok-lits.lits.items c.in_ok-changes.changes.items g.C.Coefficient.origin c.scale_for-scale.result c.args.total c.share_of-share.result c.in_ok-costs.costs.items c.in_ok-values.values.items c.of-2.result (c.number.result * c.vars-vars.result) (vec_capacity c.in_ok-lits.lits)) (sym same) kept,
      saturations-whole c.args.form c.in_ok-saturations.saturations.items c.in_ok-lits.lits.items c.in_ok-saturations.ensures c.vars-vars.ensures.normal,
    )

pub returns-clause-empty : goal.returns-clause-empty
returns-clause-empty g c =
    let same = counted-wholes c.args.form.rows c.in_ok-saturations.saturations.items c.args.form.vars c.in_ok-saturations.ensures c.vars-vars.ensures.normal.shape.rows in
    (c.in_ok-lits.ensures.items, c.in_ok-changes.ensures.items, refl, ap (λ (rows : List PositiveRow). record c.args.form { rows = rows }) same)
