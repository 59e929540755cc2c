use Rattle.std.proofs.Common.{◌≡◌, ◌<◌, ℕ, length, get_or}
use Rattle.pb_trail.specs.SlackCache.{CachedSlack}
use Rattle.pb_trail.proofs.slack_cache.SlackCache.new.Given as goal

abbrev pub invariant-loop-row : goal.invariant-loop-row
invariant-loop-row g l = (k : ℕ) (d : CachedSlack) → k < length l.last.items → (get_or l.last.items k d).until ≡ 0
