use Rattle.std.proofs.Common.{◌≡◌, ℕ, ◌≤◌, ◌<◌, length, get_or, map, ap, sym, subst, ◌∙◌, arith}
use Rattle.std.proofs.lemmas.List.{length-map, get_or-map}
use Rattle.pb_inst.specs.Literal.{Literal}
use Rattle.pb_normal.specs.declared.terms.PositiveTerm.{PositiveTerm}
use Rattle.pb_row_bound.specs.Offers.{offer_joined}
use Rattle.pb_row_bound.proofs.OfferLemmas.{offer-none, unmet-none, offer-fits, offer-met, offer-next}
use Rattle.pb_row_bound.proofs.row_contributions.offer_of_items.Goals as goal

pub loop-item-init : goal.loop-item-init
loop-item-init g c = record {
  offer_is = c.none-offer.ensures ∙ offer-none g.C.Coefficient.limit c.args.trail.now.form.objective c.args.trail.now.trail (map g.T.Weighs.term c.args.items.now);
  unmet = unmet-none c.args.trail.now.trail c.args.marks.now (map g.T.Weighs.term c.args.items.now);
}

pub joined-requires-clause-variable : goal.joined-requires-clause-variable
joined-requires-clause-variable g c =
    let lits = c.args.items.now in
    let count = length-map lits g.T.Weighs.term in
    let within : c.loop-item.item-index < length (map g.T.Weighs.term c.args.items.now) = omega (arith, c.loop-item-test.true) in
    let read : (g.T.Weighs.term c.item-item.result) ≡ get_or (map g.T.Weighs.term c.args.items.now) c.loop-item.item-index (g.T.Weighs.term c.item-item.result) = sym (get_or-map g.T.Weighs.term lits c.loop-item.item-index c.item-item.result (g.T.Weighs.term c.item-item.result) c.loop-item-test.true ∙ ap g.T.Weighs.term (sym c.item-item.is)) in
    subst (λ (l : Literal). (1 ≤ l.var) × (l.var ≤ c.args.trail.now.vars)) (sym (c.lit.ensures ∙ ap (λ (u : PositiveTerm). u.lit) read)) (c.requires.variables c.loop-item.item-index (g.T.Weighs.term c.item-item.result) within)

pub joined-requires-clause-fits : goal.joined-requires-clause-fits
joined-requires-clause-fits g c =
    let lits = c.args.items.now in
    let count = length-map lits g.T.Weighs.term in
    let within : c.loop-item.item-index < length (map g.T.Weighs.term c.args.items.now) = omega (arith, c.loop-item-test.true) in
    let read : (g.T.Weighs.term c.item-item.result) ≡ get_or (map g.T.Weighs.term c.args.items.now) c.loop-item.item-index (g.T.Weighs.term c.item-item.result) = sym (get_or-map g.T.Weighs.term lits c.loop-item.item-index c.item-item.result (g.T.Weighs.term c.item-item.result) c.loop-item-test.true ∙ ap g.T.Weighs.term (sym c.item-item.is)) in
    let coef = ap (λ (u : PositiveTerm). u.coef) read in
    omega (arith, offer-fits g.C.Coefficient.limit c.args.trail.now.form.objective c.args.trail.now.trail (map g.T.Weighs.term c.args.items.now) c.loop-item.item-index (g.T.Weighs.term c.item-item.result) c.loop-item.offer within c.loop-item.invariant.offer_is, c.requires.fits, c.coef.ensures)

pub returns-in_err-offer-clause-none : goal.returns-in_err-offer-clause-none
returns-in_err-offer-clause-none g c = λ none.
    let lits = c.args.items.now in
    let count = length-map lits g.T.Weighs.term in
    let within : c.loop-item.item-index < length (map g.T.Weighs.term c.args.items.now) = omega (arith, c.loop-item-test.true) in
    let read : (g.T.Weighs.term c.item-item.result) ≡ get_or (map g.T.Weighs.term c.args.items.now) c.loop-item.item-index (g.T.Weighs.term c.item-item.result) = sym (get_or-map g.T.Weighs.term lits c.loop-item.item-index c.item-item.result (g.T.Weighs.term c.item-item.result) c.loop-item-test.true ∙ ap g.T.Weighs.term (sym c.item-item.is)) in
    offer-met c.args.trail.now.form.objective c.args.trail.now.trail c.args.marks.now (map g.T.Weighs.term c.args.items.now) c.loop-item.item-index (g.T.Weighs.term c.item-item.result) c.loop-item.offer within read (sym (c.joined.ensures ∙ (ap (λ (k : ℕ). offer_joined c.args.trail.now.form.objective c.args.trail.now.trail c.args.marks.now c.loop-item.offer (record { coef = k; lit = c.lit.result })) c.coef.ensures ∙ ap (λ (l : Literal). offer_joined c.args.trail.now.form.objective c.args.trail.now.trail c.args.marks.now c.loop-item.offer (record { coef = (g.T.Weighs.term c.item-item.result).coef; lit = l })) c.lit.ensures)) ∙ c.in_err-offer.was)

pub loop-item-preserved : goal.loop-item-preserved
loop-item-preserved g c =
    let lits = c.args.items.now in
    let count = length-map lits g.T.Weighs.term in
    let within : c.loop-item.item-index < length (map g.T.Weighs.term c.args.items.now) = omega (arith, c.loop-item-test.true) in
    let read : (g.T.Weighs.term c.item-item.result) ≡ get_or (map g.T.Weighs.term c.args.items.now) c.loop-item.item-index (g.T.Weighs.term c.item-item.result) = sym (get_or-map g.T.Weighs.term lits c.loop-item.item-index c.item-item.result (g.T.Weighs.term c.item-item.result) c.loop-item-test.true ∙ ap g.T.Weighs.term (sym c.item-item.is)) in
    let next = offer-next g.C.Coefficient.limit c.args.trail.now.form.objective c.args.trail.now.trail c.args.marks.now (map g.T.Weighs.term c.args.items.now) c.loop-item.item-index (g.T.Weighs.term c.item-item.result) c.loop-item.offer c.in_ok-offer.offer within read c.loop-item.invariant.offer_is c.loop-item.invariant.unmet (sym (c.joined.ensures ∙ (ap (λ (k : ℕ). offer_joined c.args.trail.now.form.objective c.args.trail.now.trail c.args.marks.now c.loop-item.offer (record { coef = k; lit = c.lit.result })) c.coef.ensures ∙ ap (λ (l : Literal). offer_joined c.args.trail.now.form.objective c.args.trail.now.trail c.args.marks.now c.loop-item.offer (record { coef = (g.T.Weighs.term c.item-item.result).coef; lit = l })) c.lit.ensures)) ∙ c.in_ok-offer.was) in
    record { offer_is = next.0; unmet = next.1 }
