use Rattle.std.proofs.Common.{◌≡◌, ◌+◌, ◌-◌, ap, ◌∙◌, arith}
use Rattle.pb_dual.specs.ReducedCosts.{promised, parts_on}
use Rattle.pb_dual.specs.Multipliers.{MultipliersState}
use Rattle.pb_dual.proofs.TrailLemmas.{sum_on, sum-most, promised_fits}
use Rattle.pb_dual.proofs.multipliers.Multipliers.above.Goals as goal

pub returns : goal.returns
returns g c =
    let s = c.args.self.now in
    let inside = c.self.inside in
    let small = sum-most c.self.invariant.0 g.C.Coefficient.origin_small 0 (omega arith) in
    let fits = promised_fits c.self.invariant.0 in
    let degrees : inside.degrees ≡ promised s.multipliers s.counted.rows = c.self.invariant.0.degrees_are ∙ ap (λ (t : MultipliersState). promised t.multipliers t.counted.rows) c.self.view_is in
    let sum : inside.sum ≡ parts_on s.origin s.scale s.counted s.multipliers s.trail = sum_on c.self.invariant.0 ∙ ap (λ (t : MultipliersState). parts_on t.origin t.scale t.counted t.multipliers t.trail) c.self.view_is in
    let whole : c.saturating_add.result ≡ inside.degrees + inside.sum = omega (arith, c.saturating_add.ensures, c.number.ensures, c.self.invariant.0.degrees_are, g.C.Coefficient.origin_small) in
    let both : c.saturating_add.result ≡ promised s.multipliers s.counted.rows + parts_on s.origin s.scale s.counted s.multipliers s.trail = whole ∙ (ap (λ n. n + inside.sum) degrees ∙ ap (λ n. promised s.multipliers s.counted.rows + n) sum) in
    c.saturating_sub.ensures ∙ (ap (λ n. n - c.floor.result) both ∙ ap (λ n. (promised s.multipliers s.counted.rows + parts_on s.origin s.scale s.counted s.multipliers s.trail) - n) c.floor.ensures)
