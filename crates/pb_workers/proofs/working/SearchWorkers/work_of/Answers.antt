use Rattle.std.proofs.Common.{◌≡◌, ◌∙◌, length, sym, ap, arith, subst}
use Rattle.std.proofs.lemmas.Grind.{common_steps}
use Rattle.pb_inst.specs.Problem.{Problem}
use Rattle.pb_inst.specs.Incumbent.{Incumbent}
use Rattle.pb_board.specs.Seats.{SeatView}
use Rattle.pb_search.specs.Done.{Division, IsDone}
use Rattle.pb_search.specs.Searcher.{Searcher}
use Rattle.pb_workers.proofs.WorkLaws.{part_done, whole_work}
use Rattle.pb_workers.proofs.working.SearchWorkers.work_of.Goals as goal

pub new-part-requires-clause-done : goal.new-part-requires-clause-done
new-part-requires-clause-done g c =
    let of_instance : c.search_claimed.new.best.problem ≡ c.args.self.now.inst.now = c.search_claimed.ensures.same_instance ∙ (c.begin.ensures.same_instance ∙ ap (λ (b : Incumbent). b.problem) c.in_ok-best.ensures) in
    let is : c.begin.new.search.division ≡ record { problem = c.search_claimed.new.best.problem; cubes = c.args.self.now.pieces.now.cubes } =
    ap (λ (s : Searcher). s.division) (c.begin.ensures.unchanged ∙ c.in_ok-search.ensures) ∙ (c.args.self.now.tables_of_all ∙ ap (λ (p : Problem). let d : Division = record { problem = p; cubes = c.args.self.now.pieces.now.cubes } in d) (sym of_instance)) in
    part_done c.begin.new.search.division c.args.self.now.pieces.now c.in_ok-named.named.done.items c.in_ok-named.named.cut.items c.in_ok-named.named.decisions.items c.in_ok-named.named.cut_decisions.items c.search_claimed.new.best is c.in_ok-named.ensures.done

pub new-part-requires-clause-settled : goal.new-part-requires-clause-settled
new-part-requires-clause-settled g c settled i =
    let of_instance : c.search_claimed.new.best.problem ≡ c.args.self.now.inst.now = c.search_claimed.ensures.same_instance ∙ (c.begin.ensures.same_instance ∙ ap (λ (b : Incumbent). b.problem) c.in_ok-best.ensures) in
    let is : c.begin.new.search.division ≡ record { problem = c.search_claimed.new.best.problem; cubes = c.args.self.now.pieces.now.cubes } =
    ap (λ (s : Searcher). s.division) (c.begin.ensures.unchanged ∙ c.in_ok-search.ensures) ∙ (c.args.self.now.tables_of_all ∙ ap (λ (p : Problem). let d : Division = record { problem = p; cubes = c.args.self.now.pieces.now.cubes } in d) (sym of_instance)) in
    subst (λ (d : Division). IsDone d i c.search_claimed.new.best.held) (c.search_claimed.ensures.unchanged ∙ is) (c.is_settled-is_settled.ensures.settled settled i)

pub returns : goal.returns
returns g c =
    let of_instance : c.search_claimed.new.best.problem ≡ c.args.self.now.inst.now = c.search_claimed.ensures.same_instance ∙ (c.begin.ensures.same_instance ∙ ap (λ (b : Incumbent). b.problem) c.in_ok-best.ensures) in
    let claims : length c.into_seat.result.claimed ≡ length c.search_claimed.new.share.seat.claimed = ap (λ (s : SeatView). length s.claimed) c.into_seat.ensures in
    let most = c.in_ok-named.ensures.most in
    record {
      whole = whole_work c.args.self.now.inst.now c.args.self.now.pieces.now c.args.self.now.task c.args.self.now.nodes c.args.self.now.is_race c.new-part.result c.into_seat.result.claimed c.search_claimed.new.share.seat.claimed c.in_ok-named.named.done.items c.in_ok-named.named.cut.items c.in_ok-named.named.decisions.items c.in_ok-named.named.cut_decisions.items c.len-count.result c.search_claimed.new.best
          c.new-part.ensures (ap (λ (s : SeatView). s.claimed) c.into_seat.ensures) c.len-count.ensures.count of_instance c.in_ok-named.ensures.named c.in_ok-named.ensures.uncut c.in_ok-named.ensures.budget c.in_ok-named.ensures.most c.in_ok-named.ensures.ends;
      board = grind (arith, common_steps);
      parts = grind (arith, common_steps);
      claims = grind (arith, common_steps);
    }
