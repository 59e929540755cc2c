use Rattle.std.proofs.Common.{◌≡◌, [], false, length}
use Rattle.std.specs.Prelude.{All, IfNone}
use Rattle.std.specs.Option.{IfSome}
use Rattle.pb_workers.specs.Parts.{AreCounted}
use Rattle.pb_search.specs.Done.{IsDone}
use Rattle.pb_workers.specs.Claims.{AreNamed, pieces_among}
use Rattle.pb_workers.specs.Dealing.{has_claims}
use Rattle.pb_workers.specs.Sharing.{SameSeat}
use Rattle.pb_workers.proofs.working.SearchWorkers.search_claimed.Given as goal

-- the claims so far are pieces, they are named, and they are done
abbrev pub invariant-loop-turn : goal.invariant-loop-turn
invariant-loop-turn g l = record {
  same_instance : l.best.problem ≡ l.initial.best.problem;
  same_search : l.search.division ≡ l.initial.search.division;
  count : length l.share.seat.claimed ≡ l._turn;
  named : AreNamed (has_claims l.self.task) (pieces_among l.self.task l.count l.share.seat.claimed) l.named.done.items l.named.cut.items;
  uncut : l.self.is_race ≡ false → IfNone l.self.nodes (l.named.cut.items ≡ []);
  budget : IfSome l.self.nodes (λ budget. AreCounted budget l.named.done.items l.named.decisions.items l.named.cut.items l.named.cut_decisions.items);
  done : All (λ i. IsDone l.initial.search.division i l.best.held) l.named.done.items;
  seat : SameSeat l.initial.share l.share;
}
