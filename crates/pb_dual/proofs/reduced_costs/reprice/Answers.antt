use Rattle.std.proofs.Common.{◌≡◌, ℕ, ◌+◌, ◌-◌, ◌*◌, ◌<◌, ◌≤◌, List, length, get_or, set, take, min, arith, ap, sym, subst, ◌∙◌, length-set}
use Rattle.std.proofs.lemmas.List.{length-map, get_or-map}
use Rattle.pb_inst.specs.Literal.{Literal}
use Rattle.pb_normal.specs.declared.terms.PositiveTerm.{PositiveTerm}
use Rattle.pb_normal.specs.Literals.{weight_of}
use Rattle.pb_normal.proofs.LiteralLemmas.{weight_of-nil}
use Rattle.pb_rows.specs.Index.{literal_place}
use Rattle.pb_rows.proofs.CostLemmas.{place_below}
use Rattle.pb_dual.specs.Saturation.{capped_term, capped}
use Rattle.pb_dual.proofs.ChangeLemmas.{can-reprice, now-most, repriced-next}
use Rattle.pb_dual.proofs.reduced_costs.reprice.Goals as goal

pub loop-term-init : goal.loop-term-init
loop-term-init g c = record {
  count = (let same : length c.args.costs.now ≡ length c.args.costs.now = omega arith in same);
  each = λ m low high. (let none = weight_of-nil m in let taken = ap (λ (n : ℕ). c.args.to * n) none in let given = ap (λ (n : ℕ). c.args.from * n) none in omega arith);
  sum = c.requires.sum;
}

pub reprice_literal-requires-clause-enough : goal.reprice_literal-requires-clause-enough
reprice_literal-requires-clause-enough g c =
    let t = c.term-item.result in
    let u = capped_term c.args.most t in
    let here : c.lit.result ≡ t.lit = c.lit.ensures in
    let counts : c.min.result ≡ u.coef = c.min.ensures ∙ ap (λ (n : ℕ). min n c.args.most) c.coef.ensures in
    let long : c.loop-term.term-index < length (capped c.args.most c.args.terms.now) = omega (arith, c.loop-term-test.true, length-map c.args.terms.now (capped_term c.args.most)) in
    let read : u ≡ get_or (capped c.args.most c.args.terms.now) c.loop-term.term-index u = ap (capped_term c.args.most) c.term-item.is ∙ sym (get_or-map (capped_term c.args.most) c.args.terms.now c.loop-term.term-index t u c.loop-term-test.true) in
    let within = subst (λ (u : PositiveTerm). (1 ≤ u.lit.var) × (u.lit.var ≤ length c.args.values.now)) (sym c.term-item.is) (c.requires.variables c.loop-term.term-index t c.loop-term-test.true) in
    let can = can-reprice (get_or c.loop-term.costs (literal_place t.lit) 0) (get_or c.args.costs.now (literal_place t.lit) 0) (capped c.args.most c.args.terms.now) c.loop-term.term-index u c.args.from c.args.to (3 * g.C.Coefficient.origin) long read (c.loop-term.invariant.each t.lit within.0 within.1) (c.requires.enough t.lit within.0 within.1) (c.requires.fits t.lit within.0 within.1) in
    rw (here, counts) can.0

pub reprice_literal-requires-clause-fits : goal.reprice_literal-requires-clause-fits
reprice_literal-requires-clause-fits g c =
    let t = c.term-item.result in
    let u = capped_term c.args.most t in
    let here : c.lit.result ≡ t.lit = c.lit.ensures in
    let counts : c.min.result ≡ u.coef = c.min.ensures ∙ ap (λ (n : ℕ). min n c.args.most) c.coef.ensures in
    let long : c.loop-term.term-index < length (capped c.args.most c.args.terms.now) = omega (arith, c.loop-term-test.true, length-map c.args.terms.now (capped_term c.args.most)) in
    let read : u ≡ get_or (capped c.args.most c.args.terms.now) c.loop-term.term-index u = ap (capped_term c.args.most) c.term-item.is ∙ sym (get_or-map (capped_term c.args.most) c.args.terms.now c.loop-term.term-index t u c.loop-term-test.true) in
    let within = subst (λ (u : PositiveTerm). (1 ≤ u.lit.var) × (u.lit.var ≤ length c.args.values.now)) (sym c.term-item.is) (c.requires.variables c.loop-term.term-index t c.loop-term-test.true) in
    let can = can-reprice (get_or c.loop-term.costs (literal_place t.lit) 0) (get_or c.args.costs.now (literal_place t.lit) 0) (capped c.args.most c.args.terms.now) c.loop-term.term-index u c.args.from c.args.to (3 * g.C.Coefficient.origin) long read (c.loop-term.invariant.each t.lit within.0 within.1) (c.requires.enough t.lit within.0 within.1) (c.requires.fits t.lit within.0 within.1) in
    rw (here, counts) can.1

pub reprice_literal-requires-clause-small : goal.reprice_literal-requires-clause-small
reprice_literal-requires-clause-small g c = λ l low high. now-most (get_or c.loop-term.costs (literal_place l) 0) (get_or c.args.costs.now (literal_place l) 0) (capped c.args.most c.args.terms.now) c.loop-term.term-index l c.args.from c.args.to (3 * g.C.Coefficient.origin) (c.loop-term.invariant.each l low high) (c.requires.fits l low high)

pub loop-term-preserved : goal.loop-term-preserved
loop-term-preserved g c =
    let t = c.term-item.result in
    let u = capped_term c.args.most t in
    let here : c.lit.result ≡ t.lit = c.lit.ensures in
    let counts : c.min.result ≡ u.coef = c.min.ensures ∙ ap (λ (n : ℕ). min n c.args.most) c.coef.ensures in
    let long : c.loop-term.term-index < length (capped c.args.most c.args.terms.now) = omega (arith, c.loop-term-test.true, length-map c.args.terms.now (capped_term c.args.most)) in
    let read : u ≡ get_or (capped c.args.most c.args.terms.now) c.loop-term.term-index u = ap (capped_term c.args.most) c.term-item.is ∙ sym (get_or-map (capped_term c.args.most) c.args.terms.now c.loop-term.term-index t u c.loop-term-test.true) in
    let within = subst (λ (u : PositiveTerm). (1 ≤ u.lit.var) × (u.lit.var ≤ length c.args.values.now)) (sym c.term-item.is) (c.requires.variables c.loop-term.term-index t c.loop-term-test.true) in
    let can = can-reprice (get_or c.loop-term.costs (literal_place t.lit) 0) (get_or c.args.costs.now (literal_place t.lit) 0) (capped c.args.most c.args.terms.now) c.loop-term.term-index u c.args.from c.args.to (3 * g.C.Coefficient.origin) long read (c.loop-term.invariant.each t.lit within.0 within.1) (c.requires.enough t.lit within.0 within.1) (c.requires.fits t.lit within.0 within.1) in
    let n = get_or c.loop-term.costs (literal_place t.lit) 0 + c.args.from * u.coef - c.args.to * u.coef in
    let new : c.reprice_literal.new.costs ≡ set c.loop-term.costs (literal_place t.lit) n = c.reprice_literal.ensures.costs ∙ (ap (λ (l : Literal). set c.loop-term.costs (literal_place l) (get_or c.loop-term.costs (literal_place l) 0 + c.args.from * c.min.result - c.args.to * c.min.result)) here ∙ ap (λ (k : ℕ). set c.loop-term.costs (literal_place t.lit) (get_or c.loop-term.costs (literal_place t.lit) 0 + c.args.from * k - c.args.to * k)) counts) in
    let short : literal_place t.lit < length c.loop-term.costs = omega (arith, c.loop-term.invariant.count, c.requires.count, place_below t.lit (length c.args.values.now) within.0 within.1) in
    record {
      count = omega (arith, c.loop-term.invariant.count, ap (λ (xs : List ℕ). length xs) new, length-set c.loop-term.costs (literal_place t.lit) n);
      each = λ m low upto. ap (λ (xs : List ℕ). get_or xs (literal_place m) 0 + c.args.to * weight_of m (take (c.loop-term.term-index + 1) (capped c.args.most c.args.terms.now))) new ∙ repriced-next c.args.costs.now c.loop-term.costs (capped c.args.most c.args.terms.now) c.loop-term.term-index u c.args.from c.args.to m long read within.0 low short can.0 (c.loop-term.invariant.each m low upto);
      sum = c.reprice_literal.ensures.sum;
    }
