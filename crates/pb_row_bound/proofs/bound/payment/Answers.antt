use Rattle.std.proofs.Common.{◌≡◌, ◌<◌, ℕ, List, [], ◌∷◌, refl, false, length, replicate, ap, sym, subst, ◌∙◌, arith, sum_by}
use Rattle.std.proofs.lemmas.Bool.{eqb-true}
use Rattle.std.proofs.lemmas.List.{take_all}
use Rattle.pb_inst.specs.Literal.{Literal}
use Rattle.pb_normal.specs.declared.terms.PositiveTerm.{PositiveTerm}
use Rattle.pb_normal.specs.NormalForm.{NormalForm}
use Rattle.pb_row_bound.specs.DisjointRows.{row_contributions}
use Rattle.pb_trail.specs.Tracked.{Tracked}
use Rattle.pb_trail.specs.Trail.{reached}
use Rattle.pb_row_bound.proofs.DisjointBound.{ArePickable, row_contributions_in_total}
use Rattle.pb_row_bound.proofs.ContributionLemmas.{pickable}
use Rattle.pb_row_bound.proofs.bound.payment.Goals as goal

no_terms : (terms : List PositiveTerm) → length terms ≡ 0 → sum_by (λ (t : PositiveTerm). t.coef) terms ≡ 0
no_terms [] none = refl
no_terms (t ∷ terms) none = absurd (omega arith)

pub returns-then-is_empty-clause-payment : goal.returns-then-is_empty-clause-payment
returns-then-is_empty-clause-payment g c =
    let s = c.args.trail.now in
    let P : Tracked → Type 0 = λ k. ArePickable k.form k.rows in
    let tables = c.tables.result.now in
    let are : ArePickable s.form s.rows = subst P c.tables.ensures (pickable tables.form tables.vars tables.rows c.facts.ensures.normal c.facts.ensures.form c.facts.ensures.rising c.facts.ensures.rows) in
    let most = row_contributions_in_total s.form s.rows s.trail are in
    let objective = ap (λ (ts : List PositiveTerm). length ts) (c.objective.ensures.value ∙ ap (λ (f : NormalForm). f.objective) c.form.ensures) in
    let empty = eqb-true (length c.objective.result.now) 0 (sym c.if-is_empty.ensures) in
    omega (arith, no_terms s.form.objective (omega arith))

pub add-requires : goal.add-requires
add-requires g c =
    let s = c.args.trail.now in
    let P : Tracked → Type 0 = λ k. ArePickable k.form k.rows in
    let tables = c.tables.result.now in
    let are : ArePickable s.form s.rows = subst P c.tables.ensures (pickable tables.form tables.vars tables.rows c.facts.ensures.normal c.facts.ensures.form c.facts.ensures.rising c.facts.ensures.rows) in
    let most = row_contributions_in_total s.form s.rows s.trail are in
    let paid : c.paid.result ≡ reached s.trail s.form.objective = c.paid.ensures ∙ (c.count.ensures.deficits.counters.paid_is ∙ ap (λ (t : List Literal). reached t s.form.objective) (take_all c.count.new.self.counted s.trail (omega (arith, c.count.ensures.all)))) in
    let vars : s.vars ≡ s.form.vars = subst (λ (k : Tracked). k.vars ≡ k.form.vars) c.tables.ensures c.facts.ensures.form in
    let adds = c.row_contributions-contributions.ensures.contributions ∙ ap (λ (n : ℕ). row_contributions s.form.objective s.trail (replicate n false) s.rows) vars in
    let small : sum_by (λ (t : PositiveTerm). t.coef) s.form.objective < g.C.Coefficient.limit = subst (λ (k : Tracked). sum_by (λ (t : PositiveTerm). t.coef) k.form.objective < g.C.Coefficient.limit) c.tables.ensures c.facts.ensures.objective in
    omega arith

pub returns-clause-payment : goal.returns-clause-payment
returns-clause-payment g c =
    let s = c.args.trail.now in
    let P : Tracked → Type 0 = λ k. ArePickable k.form k.rows in
    let tables = c.tables.result.now in
    let are : ArePickable s.form s.rows = subst P c.tables.ensures (pickable tables.form tables.vars tables.rows c.facts.ensures.normal c.facts.ensures.form c.facts.ensures.rising c.facts.ensures.rows) in
    let most = row_contributions_in_total s.form s.rows s.trail are in
    let paid : c.paid.result ≡ reached s.trail s.form.objective = c.paid.ensures ∙ (c.count.ensures.deficits.counters.paid_is ∙ ap (λ (t : List Literal). reached t s.form.objective) (take_all c.count.new.self.counted s.trail (omega (arith, c.count.ensures.all)))) in
    let vars : s.vars ≡ s.form.vars = subst (λ (k : Tracked). k.vars ≡ k.form.vars) c.tables.ensures c.facts.ensures.form in
    let adds = c.row_contributions-contributions.ensures.contributions ∙ ap (λ (n : ℕ). row_contributions s.form.objective s.trail (replicate n false) s.rows) vars in
    let value : c.number.result ≡ c.add.result = c.number.ensures in
    value ∙ (c.add.ensures ∙ omega arith)

pub returns-clause-small : goal.returns-clause-small
returns-clause-small g c =
    let s = c.args.trail.now in
    let P : Tracked → Type 0 = λ k. ArePickable k.form k.rows in
    let tables = c.tables.result.now in
    let are : ArePickable s.form s.rows = subst P c.tables.ensures (pickable tables.form tables.vars tables.rows c.facts.ensures.normal c.facts.ensures.form c.facts.ensures.rising c.facts.ensures.rows) in
    let most = row_contributions_in_total s.form s.rows s.trail are in
    let paid : c.paid.result ≡ reached s.trail s.form.objective = c.paid.ensures ∙ (c.count.ensures.deficits.counters.paid_is ∙ ap (λ (t : List Literal). reached t s.form.objective) (take_all c.count.new.self.counted s.trail (omega (arith, c.count.ensures.all)))) in
    let vars : s.vars ≡ s.form.vars = subst (λ (k : Tracked). k.vars ≡ k.form.vars) c.tables.ensures c.facts.ensures.form in
    let adds = c.row_contributions-contributions.ensures.contributions ∙ ap (λ (n : ℕ). row_contributions s.form.objective s.trail (replicate n false) s.rows) vars in
    let value : c.number.result ≡ c.add.result = c.number.ensures in
    omega (arith, c.add.ensures)
