use Rattle.std.proofs.Common.{◌*◌, ◌-◌, ◌≤◌, None, length, get_or, arith}
use Rattle.pb_dual.specs.ReducedCosts.{parts}
use Rattle.pb_dual.proofs.ChangeLemmas.{parts-most, repriced-most, repriced-one, sum-fits}
use Rattle.pb_dual.proofs.reduced_costs.reprice_literal.Goals as goal

pub overflow_sub-sum : goal.overflow_sub-sum
overflow_sub-sum g c =
    let one = repriced-one c.args.costs.now c.args.values.now c.args.lit c.negate.result c.var.result c.place_of-here.result c.place_of.result c.index-costs-here.result c.index-costs-place_of.result c.sub-after.result c.place_of-here.ensures.within.0 (omega (arith, c.requires.variable)) c.requires.count c.negate.ensures.same_variable c.negate.ensures.other_sign c.var.ensures.value c.place_of-here.ensures.place c.place_of.ensures.place c.index-costs-here.is c.index-costs-place_of.is in
    omega (arith, one.within, c.least_of.ensures, c.number.ensures, c.requires.sum)

pub overflow_add-sum : goal.overflow_add-sum
overflow_add-sum g c =
    let l = c.args.lit in
    let old = c.args.costs.now in
    let values = c.args.values.now in
    let most = 3 * g.C.Coefficient.origin in
    let one = repriced-one old values l c.negate.result c.var.result c.place_of-here.result c.place_of.result c.index-costs-here.result c.index-costs-place_of.result c.sub-after.result c.place_of-here.ensures.within.0 (omega (arith, c.requires.variable)) c.requires.count c.negate.ensures.same_variable c.negate.ensures.other_sign c.var.ensures.value c.place_of-here.ensures.place c.place_of.ensures.place c.index-costs-here.is c.index-costs-place_of.is in
    let new : c.sub-after.result ≤ most = omega (arith, one.read, c.mul.ensures, c.add.ensures, c.sub-after.ensures, c.requires.fits) in
    let after = repriced-most old (length values) l c.sub-after.result most c.place_of-here.ensures.within.0 (omega (arith, c.requires.variable)) c.requires.count new c.requires.small (get_or values (l.var - 1) None) in
    let fits = sum-fits (length values) g.C.Coefficient.origin (parts old values) c.least_of-2.result c.requires.few g.C.Coefficient.origin_small (parts-most old values most c.requires.small) (omega (arith, after, one.new, c.least_of-2.ensures)) in
    omega (arith, fits.1, c.number-2.ensures, c.requires.sum)

pub returns-clause-sum : goal.returns-clause-sum
returns-clause-sum g c =
    let one = repriced-one c.args.costs.now c.args.values.now c.args.lit c.negate.result c.var.result c.place_of-here.result c.place_of.result c.index-costs-here.result c.index-costs-place_of.result c.sub-after.result c.place_of-here.ensures.within.0 (omega (arith, c.requires.variable)) c.requires.count c.negate.ensures.same_variable c.negate.ensures.other_sign c.var.ensures.value c.place_of-here.ensures.place c.place_of.ensures.place c.index-costs-here.is c.index-costs-place_of.is in
    omega (arith, one.within, one.changed, c.least_of.ensures, c.least_of-2.ensures, c.number.ensures, c.number-2.ensures, c.requires.sum)
