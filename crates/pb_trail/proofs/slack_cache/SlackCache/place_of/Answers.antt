use Rattle.std.proofs.Common.{◌≡◌, ◌<◌, List, length, get_or, ap, sym, subst, ◌∙◌, rules}
use Rattle.std.specs.Ordering.{nat_cmp}
use Rattle.std.specs.declared.cmp.Ordering.TheVariants.{Equal}
use Rattle.std.proofs.lemmas.Cmp.{ranked}
use Rattle.std.proofs.lemmas.List.Sorted.{answers_always}
use Rattle.pb_trail.specs.SlackCache.{CachedSlack, SlackCacheState}
use Rattle.pb_trail.proofs.slack_cache.SlackCache.place_of.Goals as goal

pub returns-in-Ok : goal.returns-in-Ok
returns-in-Ok g c =
    let facts = c.in-Ok.ensures in
    let list : c.deref.result.now ≡ c.args.self.now.last = c.deref.ensures.value ∙ ap (λ (slack_cache : SlackCacheState). slack_cache.last) c.self.view_is in
    let equal = facts.position (λ (entry : CachedSlack). entry.row) (answers_always _ _ _ (λ f a r g called. search rules)) in (
      subst (λ (slack_cache : List CachedSlack). c.in-Ok.place < length slack_cache) list facts.bound,
      λ d. ranked _ c.args.row _ (sym (subst (λ (slack_cache : List CachedSlack). nat_cmp (get_or slack_cache c.in-Ok.place d).row c.args.row ≡ Equal) list (equal d))),
    )
