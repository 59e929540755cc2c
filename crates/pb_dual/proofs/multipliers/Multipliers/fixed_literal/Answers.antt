use Rattle.std.proofs.Common.{arith}
use Rattle.std.specs.Prelude.{◌<ℤ◌}
use Rattle.std.proofs.lemmas.Int.{ints}
use Rattle.pb_dual.proofs.FixLemmas.{forced_by}
use Rattle.pb_dual.proofs.multipliers.Multipliers.fixed_literal.Goals as goal

pub returns : goal.returns
returns g c =
    let free = c.is_free.ensures c.if-not-is_free.false in
    let over : c.args.limit <ℤ c.bound_with.result = omega (arith, ints, c.if-bound_with-limit.false) in
    record {
      variable = free.0;
      no_value = free.1;
      forced = λ a whole cheap. forced_by c.args.self.now.form c.args.self.now.trail c.in_ok-lit.lit c.negate.result c.bound_with.result c.args.limit a c.negate.ensures.same_variable c.negate.ensures.other_sign c.bound_with.ensures.bound over whole cheap;
    }
