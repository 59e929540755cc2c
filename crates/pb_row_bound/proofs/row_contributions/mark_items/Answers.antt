use Rattle.std.proofs.Common.{◌≡◌, ◌-◌, ◌≤◌, ◌<◌, cond, set, true, List, length, get_or, map, take, ap, sym, subst, ◌∙◌, arith, Bool}
use Rattle.std.proofs.lemmas.List.{length-map, get_or-map}
use Rattle.pb_inst.specs.Literal.{Literal}
use Rattle.pb_normal.specs.declared.terms.PositiveTerm.{PositiveTerm}
use Rattle.pb_row_bound.specs.DisjointRows.{is_free}
use Rattle.pb_row_bound.proofs.DisjointLemmas.{length-marked_by}
use Rattle.pb_row_bound.proofs.OfferLemmas.{marked_by-none, marked_by-next}
use Rattle.pb_row_bound.proofs.row_contributions.mark_items.Goals as goal

pub loop-item-init : goal.loop-item-init
loop-item-init g c = marked_by-none c.args.trail.now.trail c.args.marks.now (map g.T.Weighs.term c.args.items.now)

pub mark_free-requires-clause-variable : goal.mark_free-requires-clause-variable
mark_free-requires-clause-variable g c =
    let lits = c.args.items.now in
    let count = length-map lits g.T.Weighs.term in
    let within : c.loop-item.item-index < length (map g.T.Weighs.term c.args.items.now) = omega (arith, c.loop-item-test.true) in
    let read : (g.T.Weighs.term c.item-item.result) ≡ get_or (map g.T.Weighs.term c.args.items.now) c.loop-item.item-index (g.T.Weighs.term c.item-item.result) = sym (get_or-map g.T.Weighs.term lits c.loop-item.item-index c.item-item.result (g.T.Weighs.term c.item-item.result) c.loop-item-test.true ∙ ap g.T.Weighs.term (sym c.item-item.is)) in
    subst (λ (l : Literal). (1 ≤ l.var) × (l.var ≤ c.args.trail.now.vars)) (sym (c.lit.ensures ∙ ap (λ (u : PositiveTerm). u.lit) read)) (c.requires.variables c.loop-item.item-index (g.T.Weighs.term c.item-item.result) within)

pub mark_free-requires-clause-marks : goal.mark_free-requires-clause-marks
mark_free-requires-clause-marks g c = ap (λ (ms : List Bool). length ms) c.loop-item.invariant ∙ (length-marked_by c.args.trail.now.trail (take c.loop-item.item-index (map g.T.Weighs.term c.args.items.now)) c.args.marks.now ∙ c.requires.marks)

pub loop-item-preserved : goal.loop-item-preserved
loop-item-preserved g c =
    let lits = c.args.items.now in
    let count = length-map lits g.T.Weighs.term in
    let within : c.loop-item.item-index < length (map g.T.Weighs.term c.args.items.now) = omega (arith, c.loop-item-test.true) in
    let read : (g.T.Weighs.term c.item-item.result) ≡ get_or (map g.T.Weighs.term c.args.items.now) c.loop-item.item-index (g.T.Weighs.term c.item-item.result) = sym (get_or-map g.T.Weighs.term lits c.loop-item.item-index c.item-item.result (g.T.Weighs.term c.item-item.result) c.loop-item-test.true ∙ ap g.T.Weighs.term (sym c.item-item.is)) in
    marked_by-next c.args.trail.now.trail c.args.marks.now (map g.T.Weighs.term c.args.items.now) c.loop-item.item-index (g.T.Weighs.term c.item-item.result) c.loop-item.marks c.mark_free.new.marks within read c.loop-item.invariant (subst (λ (l : Literal). c.mark_free.new.marks ≡ cond (is_free c.args.trail.now.trail l) (set c.loop-item.marks (l.var - 1) true) c.loop-item.marks) c.lit.ensures c.mark_free.ensures)
