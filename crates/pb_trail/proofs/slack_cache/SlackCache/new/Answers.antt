use Rattle.std.proofs.Common.{◌≡◌, arith, refl}
use Rattle.std.proofs.lemmas.List.Elements.{All-push}
use Rattle.pb_trail.specs.SlackCache.{CachedSlack}
use Rattle.pb_trail.proofs.slack_cache.SlackCache.new.Goals as goal
use Rattle.pb_trail.proofs.slack_cache.SlackCache.new.Goals.{then-is_long+in_ok-push, else-is_long}

pub loop-row-preserved : goal.loop-row-preserved
loop-row-preserved g c =
    elim c.if-is_long.branch [
      | then-is_long+in_ok-push w ↦ rw (w.last-is, w.in_ok-push.ensures.items) (All-push (λ (entry : CachedSlack). entry.until ≡ 0) c.loop-row.last.items _ c.loop-row.invariant refl)
      | else-is_long w ↦ rw w.last-is c.loop-row.invariant
    ]

pub invariant_of-result : goal.invariant_of-result
invariant_of-result g c = λ k d h. omega (arith, c.loop-row.invariant k d h)
