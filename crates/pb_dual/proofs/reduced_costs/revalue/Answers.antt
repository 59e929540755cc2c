use Rattle.std.proofs.Common.{◌≡◌, ℕ, ◌-◌, ◌^◌, ◌≤◌, None, Option, Bool, List, get_or, set, ap, arith}
use Rattle.pb_dual.specs.ReducedCosts.{part, parts}
use Rattle.pb_dual.proofs.ChangeLemmas.{part-within, part-most, parts-valued}
use Rattle.pb_dual.proofs.reduced_costs.revalue.Goals as goal

pub overflow_sub-sum : goal.overflow_sub-sum
overflow_sub-sum g c =
    let within = part-within c.args.costs.now c.args.values.now c.args.lit.var (omega (arith, c.var.ensures.value, c.var.ensures.in_range.0)) c.requires.variable in
    omega (arith, c.part-before.ensures, c.number.ensures, c.requires.sum)

pub overflow_add-sum : goal.overflow_add-sum
overflow_add-sum g c =
    let costs = c.args.costs.now in
    let values = c.args.values.now in
    let v = c.args.lit.var in
    let most = part-most costs v (2 ^ 128 - 1 - parts costs values) (λ b. omega (arith, c.requires.room (omega (arith, c.var.ensures.value, c.var.ensures.in_range.0)) b)) (get_or (set values (c.var.result - 1) c.args.value) (v - 1) None) in
    omega (arith, c.part-after.ensures, c.number-2.ensures, c.requires.sum)

pub returns-clause-sum : goal.returns-clause-sum
returns-clause-sum g c =
    let l = c.args.lit in
    let values = c.args.values.now in
    let low : 1 ≤ l.var = omega (arith, c.var.ensures.value, c.var.ensures.in_range.0) in
    let within = part-within c.args.costs.now values l.var low c.requires.variable in
    let changed = parts-valued c.args.costs.now values l.var c.args.value low c.requires.variable in
    let placed : set values (c.var.result - 1) c.args.value ≡ set values (l.var - 1) c.args.value = ap (λ (v : ℕ). set values (v - 1) c.args.value) c.var.ensures.value in
    let sums = ap (λ (xs : List (Option Bool)). parts c.args.costs.now xs) placed in
    let own = ap (λ (xs : List (Option Bool)). part c.args.costs.now l.var (get_or xs (l.var - 1) None)) placed in
    omega (arith, c.part-before.ensures, c.part-after.ensures, c.number.ensures, c.number-2.ensures, c.requires.sum)
