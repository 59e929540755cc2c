-- What is known of rows that were looked through.
use Rattle.std.proofs.Common.{ℕ, ◌<◌, ◌≤◌, length, get_or, ap, arith}
use Rattle.pb_trail.specs.SlackCache.{CachedSlack, SlackCacheState, KnowsNothing}

-- where every slack has come to its end
pub nothing_known : (slack_cache : SlackCacheState) → ((k : ℕ) (d : CachedSlack) → k < length slack_cache.last → (get_or slack_cache.last k d).until ≤ slack_cache.undone) → KnowsNothing slack_cache
nothing_known slack_cache ended row slack known =
    let end = ended known.place known.entry known.within in
    let until = ap (λ (l : CachedSlack). l.until) known.is_last in
    let since = known.since in
    let none : ⊥ = omega arith in none
