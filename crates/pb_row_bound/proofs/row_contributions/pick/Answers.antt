use Rattle.std.proofs.Common.{◌≡◌, ◌<◌, ◌≤◌, ℕ, List, Bool, false, [], length, get_or, take, cond, refl, ap, sym, subst, ◌∙◌, arith, sum_by}
use Rattle.std.proofs.lemmas.List.{take_all}
use Rattle.pb_inst.specs.declared.limits.TheConstants.{SUM_BOUND}
use Rattle.pb_inst.specs.Literal.{Literal}
use Rattle.pb_normal.specs.declared.terms.PositiveTerm.{PositiveTerm}
use Rattle.pb_normal.specs.NormalForm.{total_coefficient}
use Rattle.pb_rows.specs.Constraints.{row_at, AreRowsOver, HaveRisingVariables}
use Rattle.pb_row_bound.specs.DisjointRows.{need, contribution, meets_marks, marked_by}
use Rattle.pb_row_bound.specs.Deficits.{IsDeficitOf}
use Rattle.pb_row_bound.specs.Offers.{Offer, offer_of, contribution_in}
use Rattle.pb_rows.specs.Tables.{terms_in}
use Rattle.pb_trail.specs.Tracked.{Tracked}
use Rattle.pb_row_bound.proofs.DisjointLemmas.{AreWithin}
use Rattle.pb_count.proofs.CounterLemmas.{is_zero-true, is_zero-false}
use Rattle.pb_row_bound.proofs.OfferLemmas.{need-is, contribution-is, contribution-within, some-greatest, not_picked, is-picked}
use Rattle.pb_row_bound.proofs.row_contributions.pick.Goals as goal

pub contribution-contribution-requires-clause-positive : goal.contribution-contribution-requires-clause-positive
contribution-contribution-requires-clause-positive g c = λ some reach.
    let s = c.args.trail.now in
    let objective = s.form.objective in
    let row = row_at s.rows c.args.row in
    let counters = c.requires.deficits.counters in
    let full : take c.args.deficits.now.counted s.trail ≡ s.trail = take_all c.args.deficits.now.counted s.trail (omega (arith, c.requires.counted)) in
    let each = subst (λ (t : List Literal). IsDeficitOf g.C.Coefficient.limit objective t row (get_or c.args.deficits.now.by_row.items c.args.row 0)) full (counters.each c.args.row c.requires.row) in
    let needed : c.need.result ≡ need objective s.trail row = c.need.ensures ∙ need-is g.C.Coefficient.limit objective s.trail row (get_or c.args.deficits.now.by_row.items c.args.row 0) each in
    let terms : terms_in c.terms-terms.result ≡ row.terms = c.terms-terms.ensures ∙ ap (λ (k : Tracked). (row_at k.rows c.args.row).terms) c.tables-tables.ensures in
    let told = c.in-Some.ensures.some c.in-Some.offer refl in
    let offer : c.in-Some.offer ≡ offer_of g.C.Coefficient.limit objective s.trail row.terms = told.0 ∙ ap (offer_of g.C.Coefficient.limit objective s.trail) terms in
    let unmet : meets_marks s.trail c.args.marks.now row.terms ≡ false = ap (meets_marks s.trail c.args.marks.now) (sym terms) ∙ told.1 in
    let small : (total_coefficient s.form.objective < g.C.Coefficient.limit) × (total_coefficient s.form.objective ≤ SUM_BOUND) = subst (λ (k : Tracked). (total_coefficient k.form.objective < g.C.Coefficient.limit) × (total_coefficient k.form.objective ≤ SUM_BOUND)) c.tables-tables.ensures (c.facts.ensures.objective, c.facts.ensures.normal.limits.coefficients) in
    let value : contribution_in c.in-Some.offer c.need.result ≡ contribution objective s.trail row = contribution-is g.C.Coefficient.limit objective s.trail row c.in-Some.offer c.need.result offer needed (omega arith) (omega arith) in
    let greatest_is = ap (λ (o : Offer). o.greatest) offer in
    let total_is = ap (λ (o : Offer). o.total) offer in
    omega (arith, some-greatest objective s.trail row.terms c.need.result some (omega arith))

pub contribution-contribution-requires-clause-fits : goal.contribution-contribution-requires-clause-fits
contribution-contribution-requires-clause-fits g c =
    let s = c.args.trail.now in
    let objective = s.form.objective in
    let row = row_at s.rows c.args.row in
    let counters = c.requires.deficits.counters in
    let full : take c.args.deficits.now.counted s.trail ≡ s.trail = take_all c.args.deficits.now.counted s.trail (omega (arith, c.requires.counted)) in
    let each = subst (λ (t : List Literal). IsDeficitOf g.C.Coefficient.limit objective t row (get_or c.args.deficits.now.by_row.items c.args.row 0)) full (counters.each c.args.row c.requires.row) in
    let needed : c.need.result ≡ need objective s.trail row = c.need.ensures ∙ need-is g.C.Coefficient.limit objective s.trail row (get_or c.args.deficits.now.by_row.items c.args.row 0) each in
    let terms : terms_in c.terms-terms.result ≡ row.terms = c.terms-terms.ensures ∙ ap (λ (k : Tracked). (row_at k.rows c.args.row).terms) c.tables-tables.ensures in
    let told = c.in-Some.ensures.some c.in-Some.offer refl in
    let offer : c.in-Some.offer ≡ offer_of g.C.Coefficient.limit objective s.trail row.terms = told.0 ∙ ap (offer_of g.C.Coefficient.limit objective s.trail) terms in
    let unmet : meets_marks s.trail c.args.marks.now row.terms ≡ false = ap (meets_marks s.trail c.args.marks.now) (sym terms) ∙ told.1 in
    let small : (total_coefficient s.form.objective < g.C.Coefficient.limit) × (total_coefficient s.form.objective ≤ SUM_BOUND) = subst (λ (k : Tracked). (total_coefficient k.form.objective < g.C.Coefficient.limit) × (total_coefficient k.form.objective ≤ SUM_BOUND)) c.tables-tables.ensures (c.facts.ensures.objective, c.facts.ensures.normal.limits.coefficients) in
    let value : contribution_in c.in-Some.offer c.need.result ≡ contribution objective s.trail row = contribution-is g.C.Coefficient.limit objective s.trail row c.in-Some.offer c.need.result offer needed (omega arith) (omega arith) in
    let P : Tracked → Type 0 = λ k. HaveRisingVariables k.rows × AreRowsOver k.vars k.rows × (sum_by (λ (t : PositiveTerm). t.coef) k.form.objective < g.C.Coefficient.limit) in
    let facts : P s = subst P c.tables-tables.ensures (c.facts.ensures.rising, c.facts.ensures.rows, c.facts.ensures.objective) in
    let within : AreWithin (length c.args.marks.now) row.terms = subst (λ (n : ℕ). AreWithin n row.terms) (sym c.requires.marks) (facts.1 c.args.row (record { terms = []; degree = 0 }) c.requires.row) in
    omega (arith, facts.2, contribution-within objective s.trail c.args.marks.now row (facts.0 c.args.row (record { terms = []; degree = 0 }) c.requires.row) within unmet)

pub returns-then-is_zero-clause-contribution : goal.returns-then-is_zero-clause-contribution
returns-then-is_zero-clause-contribution g c =
    let s = c.args.trail.now in
    let objective = s.form.objective in
    let row = row_at s.rows c.args.row in
    let counters = c.requires.deficits.counters in
    let full : take c.args.deficits.now.counted s.trail ≡ s.trail = take_all c.args.deficits.now.counted s.trail (omega (arith, c.requires.counted)) in
    let each = subst (λ (t : List Literal). IsDeficitOf g.C.Coefficient.limit objective t row (get_or c.args.deficits.now.by_row.items c.args.row 0)) full (counters.each c.args.row c.requires.row) in
    let needed : c.need.result ≡ need objective s.trail row = c.need.ensures ∙ need-is g.C.Coefficient.limit objective s.trail row (get_or c.args.deficits.now.by_row.items c.args.row 0) each in
    let terms : terms_in c.terms-terms.result ≡ row.terms = c.terms-terms.ensures ∙ ap (λ (k : Tracked). (row_at k.rows c.args.row).terms) c.tables-tables.ensures in
    let told = c.in-Some.ensures.some c.in-Some.offer refl in
    let offer : c.in-Some.offer ≡ offer_of g.C.Coefficient.limit objective s.trail row.terms = told.0 ∙ ap (offer_of g.C.Coefficient.limit objective s.trail) terms in
    let unmet : meets_marks s.trail c.args.marks.now row.terms ≡ false = ap (meets_marks s.trail c.args.marks.now) (sym terms) ∙ told.1 in
    let small : (total_coefficient s.form.objective < g.C.Coefficient.limit) × (total_coefficient s.form.objective ≤ SUM_BOUND) = subst (λ (k : Tracked). (total_coefficient k.form.objective < g.C.Coefficient.limit) × (total_coefficient k.form.objective ≤ SUM_BOUND)) c.tables-tables.ensures (c.facts.ensures.objective, c.facts.ensures.normal.limits.coefficients) in
    let value : contribution_in c.in-Some.offer c.need.result ≡ contribution objective s.trail row = contribution-is g.C.Coefficient.limit objective s.trail row c.in-Some.offer c.need.result offer needed (omega arith) (omega arith) in
    let off = not_picked objective s.trail c.args.marks.now row (sym value ∙ (sym c.contribution-contribution.ensures ∙ is_zero-true c.is_zero.result c.contribution-contribution.result c.is_zero.ensures c.if-is_zero.true)) in
    c.of-then-is_zero.ensures ∙ sym (ap (λ (b : Bool). cond b (contribution objective s.trail row) 0) off)

pub returns-then-is_zero-clause-marks : goal.returns-then-is_zero-clause-marks
returns-then-is_zero-clause-marks g c =
    let s = c.args.trail.now in
    let objective = s.form.objective in
    let row = row_at s.rows c.args.row in
    let counters = c.requires.deficits.counters in
    let full : take c.args.deficits.now.counted s.trail ≡ s.trail = take_all c.args.deficits.now.counted s.trail (omega (arith, c.requires.counted)) in
    let each = subst (λ (t : List Literal). IsDeficitOf g.C.Coefficient.limit objective t row (get_or c.args.deficits.now.by_row.items c.args.row 0)) full (counters.each c.args.row c.requires.row) in
    let needed : c.need.result ≡ need objective s.trail row = c.need.ensures ∙ need-is g.C.Coefficient.limit objective s.trail row (get_or c.args.deficits.now.by_row.items c.args.row 0) each in
    let terms : terms_in c.terms-terms.result ≡ row.terms = c.terms-terms.ensures ∙ ap (λ (k : Tracked). (row_at k.rows c.args.row).terms) c.tables-tables.ensures in
    let told = c.in-Some.ensures.some c.in-Some.offer refl in
    let offer : c.in-Some.offer ≡ offer_of g.C.Coefficient.limit objective s.trail row.terms = told.0 ∙ ap (offer_of g.C.Coefficient.limit objective s.trail) terms in
    let unmet : meets_marks s.trail c.args.marks.now row.terms ≡ false = ap (meets_marks s.trail c.args.marks.now) (sym terms) ∙ told.1 in
    let small : (total_coefficient s.form.objective < g.C.Coefficient.limit) × (total_coefficient s.form.objective ≤ SUM_BOUND) = subst (λ (k : Tracked). (total_coefficient k.form.objective < g.C.Coefficient.limit) × (total_coefficient k.form.objective ≤ SUM_BOUND)) c.tables-tables.ensures (c.facts.ensures.objective, c.facts.ensures.normal.limits.coefficients) in
    let value : contribution_in c.in-Some.offer c.need.result ≡ contribution objective s.trail row = contribution-is g.C.Coefficient.limit objective s.trail row c.in-Some.offer c.need.result offer needed (omega arith) (omega arith) in
    let off = not_picked objective s.trail c.args.marks.now row (sym value ∙ (sym c.contribution-contribution.ensures ∙ is_zero-true c.is_zero.result c.contribution-contribution.result c.is_zero.ensures c.if-is_zero.true)) in
    sym (ap (λ (b : Bool). cond b (marked_by s.trail c.args.marks.now row.terms) c.args.marks.now) off)

pub returns-else-is_zero-clause-contribution : goal.returns-else-is_zero-clause-contribution
returns-else-is_zero-clause-contribution g c =
    let s = c.args.trail.now in
    let objective = s.form.objective in
    let row = row_at s.rows c.args.row in
    let counters = c.requires.deficits.counters in
    let full : take c.args.deficits.now.counted s.trail ≡ s.trail = take_all c.args.deficits.now.counted s.trail (omega (arith, c.requires.counted)) in
    let each = subst (λ (t : List Literal). IsDeficitOf g.C.Coefficient.limit objective t row (get_or c.args.deficits.now.by_row.items c.args.row 0)) full (counters.each c.args.row c.requires.row) in
    let needed : c.need.result ≡ need objective s.trail row = c.need.ensures ∙ need-is g.C.Coefficient.limit objective s.trail row (get_or c.args.deficits.now.by_row.items c.args.row 0) each in
    let terms : terms_in c.terms-terms.result ≡ row.terms = c.terms-terms.ensures ∙ ap (λ (k : Tracked). (row_at k.rows c.args.row).terms) c.tables-tables.ensures in
    let told = c.in-Some.ensures.some c.in-Some.offer refl in
    let offer : c.in-Some.offer ≡ offer_of g.C.Coefficient.limit objective s.trail row.terms = told.0 ∙ ap (offer_of g.C.Coefficient.limit objective s.trail) terms in
    let unmet : meets_marks s.trail c.args.marks.now row.terms ≡ false = ap (meets_marks s.trail c.args.marks.now) (sym terms) ∙ told.1 in
    let small : (total_coefficient s.form.objective < g.C.Coefficient.limit) × (total_coefficient s.form.objective ≤ SUM_BOUND) = subst (λ (k : Tracked). (total_coefficient k.form.objective < g.C.Coefficient.limit) × (total_coefficient k.form.objective ≤ SUM_BOUND)) c.tables-tables.ensures (c.facts.ensures.objective, c.facts.ensures.normal.limits.coefficients) in
    let value : contribution_in c.in-Some.offer c.need.result ≡ contribution objective s.trail row = contribution-is g.C.Coefficient.limit objective s.trail row c.in-Some.offer c.need.result offer needed (omega arith) (omega arith) in
    let on = is-picked objective s.trail c.args.marks.now row (λ none. is_zero-false c.is_zero.result c.contribution-contribution.result c.is_zero.ensures c.if-is_zero.false (c.contribution-contribution.ensures ∙ (value ∙ none))) unmet in
    c.contribution-contribution.ensures ∙ (value ∙ sym (ap (λ (b : Bool). cond b (contribution objective s.trail row) 0) on))

pub returns-else-is_zero-clause-marks : goal.returns-else-is_zero-clause-marks
returns-else-is_zero-clause-marks g c =
    let s = c.args.trail.now in
    let objective = s.form.objective in
    let row = row_at s.rows c.args.row in
    let counters = c.requires.deficits.counters in
    let full : take c.args.deficits.now.counted s.trail ≡ s.trail = take_all c.args.deficits.now.counted s.trail (omega (arith, c.requires.counted)) in
    let each = subst (λ (t : List Literal). IsDeficitOf g.C.Coefficient.limit objective t row (get_or c.args.deficits.now.by_row.items c.args.row 0)) full (counters.each c.args.row c.requires.row) in
    let needed : c.need.result ≡ need objective s.trail row = c.need.ensures ∙ need-is g.C.Coefficient.limit objective s.trail row (get_or c.args.deficits.now.by_row.items c.args.row 0) each in
    let terms : terms_in c.terms-terms.result ≡ row.terms = c.terms-terms.ensures ∙ ap (λ (k : Tracked). (row_at k.rows c.args.row).terms) c.tables-tables.ensures in
    let told = c.in-Some.ensures.some c.in-Some.offer refl in
    let offer : c.in-Some.offer ≡ offer_of g.C.Coefficient.limit objective s.trail row.terms = told.0 ∙ ap (offer_of g.C.Coefficient.limit objective s.trail) terms in
    let unmet : meets_marks s.trail c.args.marks.now row.terms ≡ false = ap (meets_marks s.trail c.args.marks.now) (sym terms) ∙ told.1 in
    let small : (total_coefficient s.form.objective < g.C.Coefficient.limit) × (total_coefficient s.form.objective ≤ SUM_BOUND) = subst (λ (k : Tracked). (total_coefficient k.form.objective < g.C.Coefficient.limit) × (total_coefficient k.form.objective ≤ SUM_BOUND)) c.tables-tables.ensures (c.facts.ensures.objective, c.facts.ensures.normal.limits.coefficients) in
    let value : contribution_in c.in-Some.offer c.need.result ≡ contribution objective s.trail row = contribution-is g.C.Coefficient.limit objective s.trail row c.in-Some.offer c.need.result offer needed (omega arith) (omega arith) in
    let on = is-picked objective s.trail c.args.marks.now row (λ none. is_zero-false c.is_zero.result c.contribution-contribution.result c.is_zero.ensures c.if-is_zero.false (c.contribution-contribution.ensures ∙ (value ∙ none))) unmet in
    c.mark.ensures ∙ (ap (marked_by s.trail c.args.marks.now) terms ∙ sym (ap (λ (b : Bool). cond b (marked_by s.trail c.args.marks.now row.terms) c.args.marks.now) on))
