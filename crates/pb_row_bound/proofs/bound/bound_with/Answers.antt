use Rattle.std.proofs.Common.{◌≡◌, ℕ, ℤ, ◌≤◌, ap, sym, subst, ◌∙◌, arith, sum_by}
use Rattle.std.specs.Prelude.{pos, neg_ℤ, ◌+ℤ◌, ◌≤ℤ◌, unsigned_abs}
use Rattle.std.proofs.lemmas.Int.{ints}
use mir.Val.{to_z, of_z}
use Rattle.pb_inst.specs.declared.limits.TheConstants.{SUM_BOUND}
use Rattle.pb_inst.proofs.NumberWidth.{number_width}
use Rattle.pb_normal.specs.declared.terms.PositiveTerm.{PositiveTerm}
use Rattle.pb_normal.specs.NormalForm.{NormalForm, IsNormal}
use Rattle.pb_trail.specs.Completion.{IsLowerBound}
use Rattle.pb_row_bound.specs.DisjointRows.{disjoint_bound}
use Rattle.pb_trail.specs.Tracked.{Tracked}
use Rattle.pb_row_bound.proofs.BoundLemmas.{paid_in_range, sum_is}
use Rattle.pb_row_bound.proofs.DisjointBound.{ArePickable, disjoint_is_bound}
use Rattle.pb_row_bound.proofs.ContributionLemmas.{pickable}
use Rattle.pb_row_bound.proofs.bound.bound_with.Goals as goal

pub overflow_cast-result : goal.overflow_cast-result
overflow_cast-result g c =
    let state = c.args.trail.now in
    let tables = c.tables.result.now in
    let paid = c.args.payment in
    let Q : Tracked → Type 0 = λ k. ArePickable k.form k.rows in
    let are : ArePickable state.form state.rows = subst Q c.tables.ensures (pickable tables.form tables.vars tables.rows c.facts.ensures.normal c.facts.ensures.form c.facts.ensures.rising c.facts.ensures.rows) in
    let facts : (c.base.result ≡ state.form.base) × IsNormal state.form × ArePickable state.form state.rows = (c.base.ensures.value ∙ ap (λ (f : NormalForm). f.base) c.form.ensures, subst IsNormal c.form.ensures c.base.ensures.normal, are) in
    let limits = facts.1.limits in
    let total = sum_by (λ (t : PositiveTerm). t.coef) state.form.objective in
    let low : unsigned_abs c.base.result ≤ SUM_BOUND = subst (λ (z : ℤ). unsigned_abs z ≤ SUM_BOUND) (sym facts.0) limits.lowest in
    let high : (c.base.result +ℤ pos total) ≤ℤ pos SUM_BOUND = subst (λ (z : ℤ). (z +ℤ pos total) ≤ℤ pos SUM_BOUND) (sym facts.0) limits.highest in
    let most : paid ≤ total = c.requires.small in
    let is = sum_is c.base.result paid total low high most limits.coefficients in
    omega (arith, ints, most, limits.coefficients)

pub overflow_add-result : goal.overflow_add-result
overflow_add-result g c =
    let state = c.args.trail.now in
    let tables = c.tables.result.now in
    let paid = c.args.payment in
    let Q : Tracked → Type 0 = λ k. ArePickable k.form k.rows in
    let are : ArePickable state.form state.rows = subst Q c.tables.ensures (pickable tables.form tables.vars tables.rows c.facts.ensures.normal c.facts.ensures.form c.facts.ensures.rising c.facts.ensures.rows) in
    let facts : (c.base.result ≡ state.form.base) × IsNormal state.form × ArePickable state.form state.rows = (c.base.ensures.value ∙ ap (λ (f : NormalForm). f.base) c.form.ensures, subst IsNormal c.form.ensures c.base.ensures.normal, are) in
    let limits = facts.1.limits in
    let total = sum_by (λ (t : PositiveTerm). t.coef) state.form.objective in
    let low : unsigned_abs c.base.result ≤ SUM_BOUND = subst (λ (z : ℤ). unsigned_abs z ≤ SUM_BOUND) (sym facts.0) limits.lowest in
    let high : (c.base.result +ℤ pos total) ≤ℤ pos SUM_BOUND = subst (λ (z : ℤ). (z +ℤ pos total) ≤ℤ pos SUM_BOUND) (sym facts.0) limits.highest in
    let most : paid ≤ total = c.requires.small in
    let is = sum_is c.base.result paid total low high most limits.coefficients in
    is.0

pub returns-clause-value : goal.returns-clause-value
returns-clause-value g c =
    let state = c.args.trail.now in
    let tables = c.tables.result.now in
    let paid = c.args.payment in
    let Q : Tracked → Type 0 = λ k. ArePickable k.form k.rows in
    let are : ArePickable state.form state.rows = subst Q c.tables.ensures (pickable tables.form tables.vars tables.rows c.facts.ensures.normal c.facts.ensures.form c.facts.ensures.rising c.facts.ensures.rows) in
    let facts : (c.base.result ≡ state.form.base) × IsNormal state.form × ArePickable state.form state.rows = (c.base.ensures.value ∙ ap (λ (f : NormalForm). f.base) c.form.ensures, subst IsNormal c.form.ensures c.base.ensures.normal, are) in
    let limits = facts.1.limits in
    let total = sum_by (λ (t : PositiveTerm). t.coef) state.form.objective in
    let low : unsigned_abs c.base.result ≤ SUM_BOUND = subst (λ (z : ℤ). unsigned_abs z ≤ SUM_BOUND) (sym facts.0) limits.lowest in
    let high : (c.base.result +ℤ pos total) ≤ℤ pos SUM_BOUND = subst (λ (z : ℤ). (z +ℤ pos total) ≤ℤ pos SUM_BOUND) (sym facts.0) limits.highest in
    let most : paid ≤ total = c.requires.small in
    let is = sum_is c.base.result paid total low high most limits.coefficients in
    let value : to_z number_width (of_z number_width (to_z number_width (of_z number_width c.base.result) +ℤ to_z number_width paid)) ≡ disjoint_bound state.form state.rows state.trail =
    is.1 ∙ (ap (λ (z : ℤ). z +ℤ pos paid) facts.0 ∙ ap (λ (n : ℕ). state.form.base +ℤ pos n) c.requires.payment) in
    value

pub returns-clause-bound : goal.returns-clause-bound
returns-clause-bound g c =
    let state = c.args.trail.now in
    let tables = c.tables.result.now in
    let paid = c.args.payment in
    let Q : Tracked → Type 0 = λ k. ArePickable k.form k.rows in
    let are : ArePickable state.form state.rows = subst Q c.tables.ensures (pickable tables.form tables.vars tables.rows c.facts.ensures.normal c.facts.ensures.form c.facts.ensures.rising c.facts.ensures.rows) in
    let facts : (c.base.result ≡ state.form.base) × IsNormal state.form × ArePickable state.form state.rows = (c.base.ensures.value ∙ ap (λ (f : NormalForm). f.base) c.form.ensures, subst IsNormal c.form.ensures c.base.ensures.normal, are) in
    let limits = facts.1.limits in
    let total = sum_by (λ (t : PositiveTerm). t.coef) state.form.objective in
    let low : unsigned_abs c.base.result ≤ SUM_BOUND = subst (λ (z : ℤ). unsigned_abs z ≤ SUM_BOUND) (sym facts.0) limits.lowest in
    let high : (c.base.result +ℤ pos total) ≤ℤ pos SUM_BOUND = subst (λ (z : ℤ). (z +ℤ pos total) ≤ℤ pos SUM_BOUND) (sym facts.0) limits.highest in
    let most : paid ≤ total = c.requires.small in
    let is = sum_is c.base.result paid total low high most limits.coefficients in
    let value : to_z number_width (of_z number_width (to_z number_width (of_z number_width c.base.result) +ℤ to_z number_width paid)) ≡ disjoint_bound state.form state.rows state.trail =
    is.1 ∙ (ap (λ (z : ℤ). z +ℤ pos paid) facts.0 ∙ ap (λ (n : ℕ). state.form.base +ℤ pos n) c.requires.payment) in
    subst (λ (z : ℤ). IsLowerBound state.form state.rows state.trail z) (sym value) (disjoint_is_bound state.form state.rows state.trail facts.2)

pub returns-clause-range : goal.returns-clause-range
returns-clause-range g c =
    let state = c.args.trail.now in
    let tables = c.tables.result.now in
    let paid = c.args.payment in
    let Q : Tracked → Type 0 = λ k. ArePickable k.form k.rows in
    let are : ArePickable state.form state.rows = subst Q c.tables.ensures (pickable tables.form tables.vars tables.rows c.facts.ensures.normal c.facts.ensures.form c.facts.ensures.rising c.facts.ensures.rows) in
    let facts : (c.base.result ≡ state.form.base) × IsNormal state.form × ArePickable state.form state.rows = (c.base.ensures.value ∙ ap (λ (f : NormalForm). f.base) c.form.ensures, subst IsNormal c.form.ensures c.base.ensures.normal, are) in
    let limits = facts.1.limits in
    let total = sum_by (λ (t : PositiveTerm). t.coef) state.form.objective in
    let low : unsigned_abs c.base.result ≤ SUM_BOUND = subst (λ (z : ℤ). unsigned_abs z ≤ SUM_BOUND) (sym facts.0) limits.lowest in
    let high : (c.base.result +ℤ pos total) ≤ℤ pos SUM_BOUND = subst (λ (z : ℤ). (z +ℤ pos total) ≤ℤ pos SUM_BOUND) (sym facts.0) limits.highest in
    let most : paid ≤ total = c.requires.small in
    let is = sum_is c.base.result paid total low high most limits.coefficients in
    let range = paid_in_range c.base.result paid total low high most in
    subst (λ (z : ℤ). (neg_ℤ (pos SUM_BOUND) ≤ℤ z) × (z ≤ℤ pos SUM_BOUND)) (sym is.1) range
