use Rattle.std.proofs.Common.{arith}
use Rattle.pb_trail.proofs.SlackCacheLemmas.{nothing_known}
use Rattle.pb_trail.proofs.slack_cache.SlackCache.forget.Goals as goal

pub returns : goal.returns
returns g c = nothing_known (record { last = c.self.inside.last.items; undone = c.saturating_add-self-inside.result })
    (λ k d h. omega (arith, c.self.invariant k d h, c.saturating_add-self-inside.ensures))
