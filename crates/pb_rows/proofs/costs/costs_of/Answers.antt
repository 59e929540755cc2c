use Rattle.std.proofs.Common.{◌≡◌, ℕ, ◌+◌, ◌<◌, ◌≤◌, length, get_or, set, ap, sym, subst, arith, rules, take, ◌∙◌, ◌*◌, replicate}
use Rattle.std.proofs.lemmas.List.{get_or_read}
use Rattle.pb_normal.specs.declared.terms.PositiveTerm.{PositiveTerm}
use Rattle.pb_inst.specs.Literal.{Literal}
use Rattle.pb_rows.specs.Costs.{AreCosts}
use Rattle.pb_rows.specs.Index.{literal_place}
use Rattle.pb_rows.proofs.CostLemmas.{no_costs, costs_next, weight_of-within, place_below}
use Rattle.pb_rows.proofs.costs.costs_of.Goals as goal

pub loop-term-init : goal.loop-term-init
loop-term-init g c = no_costs c.args.vars c.in_ok-costs.costs.items (c.in_ok-costs.ensures.items_if_clones_equal (search rules) ∙ ap (λ (n : ℕ). replicate (2 * c.args.vars) n) c.of.ensures)

pub add_assign-requires : goal.add_assign-requires
add_assign-requires g c =
    let t = c.term-item.result in
    let i = c.loop-term.term-index in
    let read : t ≡ get_or c.args.objective.now i t = c.term-item.is in
    let high = subst (λ (u : PositiveTerm). u.lit.var ≤ c.args.vars) (sym read) (c.requires.variables i t c.loop-term-test.true) in
    let place = c.place_of.ensures.place ∙ ap literal_place c.lit.ensures in
    let low = subst (λ (l : Literal). 1 ≤ l.var) c.lit.ensures c.place_of.ensures.within.0 in
    let was = c.loop-term.invariant.each t.lit low high in
    let below = place_below t.lit c.args.vars low high in
    let here : get_or c.loop-term.costs.items c.place_of.result 0 ≡ get_or c.loop-term.costs.items (literal_place t.lit) 0 = ap (λ (p : ℕ). get_or c.loop-term.costs.items p 0) place in
    let short : c.place_of.result < length c.loop-term.costs.items = omega (arith, place, c.loop-term.invariant.count, place_below t.lit c.args.vars low high) in
    let value : c.index_mut.result.now ≡ get_or c.loop-term.costs.items c.place_of.result 0 = get_or_read c.loop-term.costs.items c.place_of.result c.index_mut.result.now short c.index_mut.ensures.value 0 in
    let coef = ap (λ (u : PositiveTerm). u.coef) read in
    omega (arith, weight_of-within t.lit c.args.objective.now i t c.loop-term-test.true, c.requires.fits, c.coef.ensures)

pub loop-term-preserved : goal.loop-term-preserved
loop-term-preserved g c =
    let t = c.term-item.result in
    let i = c.loop-term.term-index in
    let read : t ≡ get_or c.args.objective.now i t = c.term-item.is in
    let high = subst (λ (u : PositiveTerm). u.lit.var ≤ c.args.vars) (sym read) (c.requires.variables i t c.loop-term-test.true) in
    let place = c.place_of.ensures.place ∙ ap literal_place c.lit.ensures in
    let low = subst (λ (l : Literal). 1 ≤ l.var) c.lit.ensures c.place_of.ensures.within.0 in
    let short : c.place_of.result < length c.loop-term.costs.items = omega (arith, place, c.loop-term.invariant.count, place_below t.lit c.args.vars low high) in
    let value : c.index_mut.result.now ≡ get_or c.loop-term.costs.items c.place_of.result 0 = get_or_read c.loop-term.costs.items c.place_of.result c.index_mut.result.now short c.index_mut.ensures.value 0 in
    let P : ℕ → Type 0 = λ n. AreCosts c.args.vars (take (i + 1) c.args.objective.now) (set c.loop-term.costs.items c.place_of.result (n + t.coef)) in
    let added : c.add_assign.new.self ≡ c.index_mut.result.now + t.coef = c.add_assign.ensures.after ∙ ap (λ (n : ℕ). c.index_mut.result.now + n) c.coef.ensures in
    rw added (subst P (sym value) (costs_next c.args.vars c.args.objective.now i t c.loop-term.costs.items c.place_of.result c.loop-term.invariant c.loop-term-test.true read low high place))
