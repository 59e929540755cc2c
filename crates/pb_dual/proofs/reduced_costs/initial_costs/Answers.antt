use Rattle.std.proofs.Common.{◌≡◌, ℕ, ◌+◌, ◌*◌, List, get_or, set, take, replicate, ap, sym, subst, arith, rules, ◌∙◌}
use Rattle.std.proofs.lemmas.List.{get_or_read, take_all}
use Rattle.pb_normal.specs.declared.terms.PositiveTerm.{PositiveTerm}
use Rattle.pb_rows.specs.Index.{literal_place}
use Rattle.pb_dual.proofs.StartLemmas.{AreStarting, starting-first, starting-term, starting-next, starting-reduced}
use Rattle.pb_dual.proofs.reduced_costs.initial_costs.Goals as goal

pub loop-term-init : goal.loop-term-init
loop-term-init g c = starting-first c.args.form.now.vars g.C.Coefficient.origin c.args.scale c.in_ok-costs.costs.items (c.in_ok-costs.ensures.items_if_clones_equal (search rules) ∙ (ap (λ (n : ℕ). replicate (2 * n) c.origin.result) c.vars.ensures.value ∙ ap (λ (z : ℕ). replicate (2 * c.args.form.now.vars) z) c.origin.ensures))

pub index_mut-requires : goal.index_mut-requires
index_mut-requires g c =
    let t = c.term-item.result in
    let terms = c.objective-term-items.result.now in
    let costs = c.loop-term.costs.items in
    let next = starting-term c.args.form.now g.C.Coefficient.origin c.args.scale terms c.loop-term.term-index t costs c.objective-term-items.ensures.normal c.objective-term-items.ensures.value c.requires c.loop-term-test.true c.term-item.is c.loop-term.invariant in
    let place : c.place_of.result ≡ literal_place t.lit = c.place_of.ensures.place ∙ ap literal_place c.lit.ensures in
    omega (arith, next.place)

pub mul-requires : goal.mul-requires
mul-requires g c =
    let t = c.term-item.result in
    let terms = c.objective-term-items.result.now in
    let costs = c.loop-term.costs.items in
    let next = starting-term c.args.form.now g.C.Coefficient.origin c.args.scale terms c.loop-term.term-index t costs c.objective-term-items.ensures.normal c.objective-term-items.ensures.value c.requires c.loop-term-test.true c.term-item.is c.loop-term.invariant in
    let place : c.place_of.result ≡ literal_place t.lit = c.place_of.ensures.place ∙ ap literal_place c.lit.ensures in
    let cost = ap (λ (n : ℕ). c.args.scale * n) c.coef.ensures in
    omega (arith, next.fits, g.C.Coefficient.origin_at_most)

pub add_assign-requires : goal.add_assign-requires
add_assign-requires g c =
    let t = c.term-item.result in
    let terms = c.objective-term-items.result.now in
    let costs = c.loop-term.costs.items in
    let next = starting-term c.args.form.now g.C.Coefficient.origin c.args.scale terms c.loop-term.term-index t costs c.objective-term-items.ensures.normal c.objective-term-items.ensures.value c.requires c.loop-term-test.true c.term-item.is c.loop-term.invariant in
    let place : c.place_of.result ≡ literal_place t.lit = c.place_of.ensures.place ∙ ap literal_place c.lit.ensures in
    let value : c.index_mut.result.now ≡ get_or costs (literal_place t.lit) 0 = get_or_read costs c.place_of.result c.index_mut.result.now (omega (arith, next.place)) c.index_mut.ensures.value 0 ∙ ap (λ (p : ℕ). get_or costs p 0) place in
    let cost = ap (λ (n : ℕ). c.args.scale * n) c.coef.ensures in
    omega (arith, next.fits, c.mul.ensures, g.C.Coefficient.origin_at_most)

pub loop-term-preserved : goal.loop-term-preserved
loop-term-preserved g c =
    let t = c.term-item.result in
    let terms = c.objective-term-items.result.now in
    let costs = c.loop-term.costs.items in
    let next = starting-term c.args.form.now g.C.Coefficient.origin c.args.scale terms c.loop-term.term-index t costs c.objective-term-items.ensures.normal c.objective-term-items.ensures.value c.requires c.loop-term-test.true c.term-item.is c.loop-term.invariant in
    let place : c.place_of.result ≡ literal_place t.lit = c.place_of.ensures.place ∙ ap literal_place c.lit.ensures in
    let read : c.index_mut.result.now ≡ get_or costs c.place_of.result 0 = get_or_read costs c.place_of.result c.index_mut.result.now (omega (arith, next.place)) c.index_mut.ensures.value 0 in
    let cost = ap (λ (n : ℕ). c.args.scale * n) c.coef.ensures in
    let sum : c.add_assign.new.self ≡ get_or costs c.place_of.result 0 + c.args.scale * t.coef = omega (arith, c.add_assign.ensures, c.mul.ensures) in
    subst (λ (n : ℕ). AreStarting c.args.form.now.vars g.C.Coefficient.origin c.args.scale (take (c.loop-term.term-index + 1) terms) (set costs c.place_of.result n)) (sym sum)
    (starting-next c.args.form.now.vars g.C.Coefficient.origin c.args.scale terms c.loop-term.term-index t costs c.place_of.result c.loop-term.invariant c.loop-term-test.true c.term-item.is next.low next.high place)

pub returns : goal.returns
returns g c =
    let whole : take c.loop-term.term-index c.objective-term-items.result.now ≡ c.args.form.now.objective = take_all c.loop-term.term-index c.objective-term-items.result.now c.loop-term-test.false ∙ c.objective-term-items.ensures.value in
    starting-reduced g.C.Coefficient.origin c.args.scale c.args.form.now c.loop-term.costs.items (subst (λ (us : List PositiveTerm). AreStarting c.args.form.now.vars g.C.Coefficient.origin c.args.scale us c.loop-term.costs.items) whole c.loop-term.invariant)
