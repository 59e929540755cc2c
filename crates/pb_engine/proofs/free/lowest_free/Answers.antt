use Rattle.std.proofs.Common.{◌≡◌, ◌≢◌, ◌+◌, ◌-◌, arith, subst, ℕ, None}
use Rattle.pb_trail.specs.Trail.{value_on}
use Rattle.pb_engine.proofs.free.lowest_free.Goals as goal

pub returns-then-settled-count-clause-full : goal.returns-then-settled-count-clause-full
returns-then-settled-count-clause-full g c whole var low high =
    let e : var - 1 + 1 ≡ var = omega arith in
    subst (λ (n : ℕ). value_on c.args.engine.now.trail n ≢ None) e (c.settled_from-settled.ensures.settled (var - 1) (omega arith) (omega arith))
