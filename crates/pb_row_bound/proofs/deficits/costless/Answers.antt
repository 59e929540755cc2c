use Rattle.std.proofs.Common.{◌≡◌, ◌<◌, ◌≤◌, [], length, get_or, map, ap, sym, subst, ◌∙◌, arith}
use Rattle.std.proofs.lemmas.List.{length-map, get_or-map}
use Rattle.pb_inst.specs.Literal.{Literal}
use Rattle.pb_normal.specs.Literals.{weight_of}
use Rattle.pb_normal.specs.declared.terms.PositiveTerm.{PositiveTerm}
use Rattle.pb_count.proofs.CounterLemmas.{is_zero-true, is_zero-false}
use Rattle.pb_row_bound.proofs.SpareLemmas.{spare-more, spare-same, spare-within, spare-none}
use Rattle.pb_row_bound.proofs.deficits.costless.Goals as goal
use Rattle.pb_row_bound.proofs.deficits.costless.Goals.{then-is_zero, else-is_zero}

pub loop-item-init : goal.loop-item-init
loop-item-init g c = c.of-sum.ensures ∙ sym (spare-none c.args.tables.now.form.objective [])

pub cost-requires : goal.cost-requires
cost-requires g c =
    let f = g.T.Weighs.term in
    let items = c.args.items.now in
    let i = c.loop-item.item-index in
    let item = c.item-item.result in
    let count = length-map items f in
    let read : f item ≡ get_or (map f items) i (f item) = sym (get_or-map f items i item (f item) c.loop-item-test.true ∙ ap f (sym c.item-item.is)) in
    subst (λ (l : Literal). l.var ≤ c.args.tables.now.vars) (sym (c.lit.ensures ∙ ap (λ (t : PositiveTerm). t.lit) read)) (c.requires.variables i (f item) (omega (arith, c.loop-item-test.true)))

pub add_assign-requires : goal.add_assign-requires
add_assign-requires g c =
    let f = g.T.Weighs.term in
    let items = c.args.items.now in
    let i = c.loop-item.item-index in
    let item = c.item-item.result in
    let count = length-map items f in
    let read : f item ≡ get_or (map f items) i (f item) = sym (get_or-map f items i item (f item) c.loop-item-test.true ∙ ap f (sym c.item-item.is)) in
    let within = spare-within c.args.tables.now.form.objective (map f items) i (f item) (omega (arith, c.loop-item-test.true)) in
    let coef = ap (λ (t : PositiveTerm). t.coef) read in
    omega (arith, c.loop-item.invariant, c.requires.fits, c.coef.ensures)

pub loop-item-preserved : goal.loop-item-preserved
loop-item-preserved g c =
    let objective = c.args.tables.now.form.objective in
    let f = g.T.Weighs.term in
    let items = c.args.items.now in
    let i = c.loop-item.item-index in
    let item = c.item-item.result in
    let count = length-map items f in
    let within : i < length (map f items) = omega (arith, c.loop-item-test.true) in
    let read : f item ≡ get_or (map f items) i (f item) = sym (get_or-map f items i item (f item) c.loop-item-test.true ∙ ap f (sym c.item-item.is)) in
    let cost = c.cost.ensures ∙ ap (λ (l : Literal). weight_of l objective) c.lit.ensures in
    elim c.if-is_zero.branch [
      | then-is_zero w ↦ omega (arith, w.sum-is, c.loop-item.invariant, w.coef.ensures, spare-more objective (map f items) i (f item) c.cost.result within read cost (is_zero-true c.is_zero.result c.cost.result c.is_zero.ensures w.if-is_zero.true))
      | else-is_zero w ↦ omega (arith, w.sum-is, c.loop-item.invariant, spare-same objective (map f items) i (f item) c.cost.result within read cost (is_zero-false c.is_zero.result c.cost.result c.is_zero.ensures w.if-is_zero.false))
    ]
