use Rattle.std.proofs.Common.{◌≡◌, Bool, length, get_or, ◌-◌, ◌≤◌, ap, sym, ◌∙◌, arith, Some, None}
use Rattle.std.proofs.lemmas.List.{get_or_read}
use Rattle.pb_trail.specs.Trail.{is_true, value_on}
use Rattle.pb_dual.specs.Multipliers.{MultipliersState}
use Rattle.pb_dual.proofs.SaturationLemmas.{true_by_value}
use Rattle.pb_dual.proofs.multipliers.Multipliers.is_true.Goals as goal
use mathlib.Core.Bool.{beq}

pub returns-in-Some : goal.returns-in-Some
returns-in-Some g c =
    let s = c.self.inside in
    let l = c.args.lit in
    let kept = c.self.invariant.0 in
    let high : l.var ≤ length s.values.items = omega (arith, c.requires.1, ap (λ (m : MultipliersState). m.form.vars) c.self.view_is, kept.vars) in
    let place = ap (λ (v : _). get_or s.values.items (v - 1) c.index.result.now) c.var.ensures.value in
    let read : c.index.result.now ≡ get_or s.values.items (l.var - 1) None = get_or_read s.values.items (l.var - 1) c.index.result.now (omega (arith, high, c.requires.0)) (c.index.ensures ∙ place) None in
    let value : value_on s.lits.items l.var ≡ Some c.in-Some.value = sym (kept.values_are.values l.var c.requires.0 high) ∙ (sym read ∙ c.in-Some.is) in
    let told : beq c.in-Some.value l.positive ≡ is_true s.lits.items l = true_by_value s.lits.items l c.in-Some.value kept.values_are.consistent value in
    ap (λ (b : Bool). beq c.in-Some.value b) c.positive.ensures ∙ (told ∙ ap (λ (m : MultipliersState). is_true m.trail l) c.self.view_is)
