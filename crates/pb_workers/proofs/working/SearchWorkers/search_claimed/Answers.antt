use Rattle.std.proofs.Common.{◌≡◌, ◌<◌, ◌++◌, ◌∷◌, [], List, ℕ, length, ap, arith, ◌∙◌, refl, sym, subst, inl, inr}
use Rattle.std.specs.Prelude.{All, IfNone}
use Rattle.std.specs.Option.{IfSome}
use Rattle.std.proofs.lemmas.List.Elements.{All-nil}
use Rattle.pb_search.specs.Held.{IsNotAfter}
use Rattle.pb_search.specs.Done.{Division, IsDone}
use Rattle.pb_workers.proofs.WorkLaws.{counted_as, counted_more, done_more, ends_past, named_more, named_past, none_counted, none_cut, none_named, passed_more, room_told, still_named, uncut_more, whole_by, same_seat_itself, same_seat_onward, same_seat_kept}
use Rattle.pb_workers.specs.Claims.{AreNamed, NamesOneMore, pieces_among}
use Rattle.pb_workers.specs.Dealing.{has_claims, piece_of}
use Rattle.pb_workers.specs.Sharing.{BoardShareView, SameSeat}
use Rattle.pb_workers.proofs.working.SearchWorkers.search_claimed.Goals as goal

pub loop-turn-init : goal.loop-turn-init
loop-turn-init g c = record {
  same_instance = refl;
  same_search = refl;
  count = ap length c.requires.unclaimed;
  named = none_named c.args.self.now.task c.args.count c.new-named.result.done.items c.new-named.result.cut.items c.args.share.now.seat.claimed c.new-named.ensures.pieces.0 c.new-named.ensures.pieces.1 c.requires.unclaimed;
  uncut = λ no_race. none_cut c.args.self.now.nodes c.new-named.result.cut.items c.new-named.ensures.pieces.1;
  budget = none_counted c.args.self.now.nodes c.new-named.result.done.items c.new-named.result.decisions.items c.new-named.result.cut.items c.new-named.result.cut_decisions.items
      c.new-named.ensures.pieces.0 c.new-named.ensures.decisions.0 c.new-named.ensures.pieces.1 c.new-named.ensures.decisions.1;
  done = subst (λ (ns : List ℕ). All (λ i. IsDone c.args.search.now.division i c.args.best.now.held) ns) (sym c.new-named.ensures.pieces.0) (All-nil (λ i. IsDone c.args.search.now.division i c.args.best.now.held));
  seat = same_seat_itself c.args.share.now;
}

pub claim_number-requires : goal.claim_number-requires
claim_number-requires g c = omega arith

pub piece_at-requires : goal.piece_at-requires
piece_at-requires g c = subst (λ (n : ℕ). c.in-Some.number < n) c.numbers_of-numbers.ensures c.in-Some.ensures.number.0

pub search_one-outcome-requires-clause-piece : goal.search_one-outcome-requires-clause-piece
search_one-outcome-requires-clause-piece g c =
    let below = c.in-Some-piece_at.ensures.some.0 in
    let same : c.piece-in-loop-turn.result ≡ c.in-Some-piece_at.piece = c.piece-in-loop-turn.ensures ∙ c.in-Some-ask.ensures.some in
    let number : length c.loop-turn.search.division.cubes ≡ length c.args.search.now.division.cubes = ap (λ (d : Division). length d.cubes) c.loop-turn.invariant.same_search in
    omega arith

pub search_one-outcome-requires-clause-same_instance : goal.search_one-outcome-requires-clause-same_instance
search_one-outcome-requires-clause-same_instance g c =
    c.loop-turn.invariant.same_instance ∙ c.requires.same_instance ∙ sym (ap (λ (d : Division). d.problem) c.loop-turn.invariant.same_search)

pub push_reserved-requires-clause-counts : goal.push_reserved-requires-clause-counts
push_reserved-requires-clause-counts g c = room_told _ c.args.self.now.nodes c.decisions_of.result c.search_one-outcome.new.search.decisions c.decisions_of.ensures c.in_ok-reserve.ensures.counts

pub loop-turn-preserved : goal.loop-turn-preserved
loop-turn-preserved g c =
    let ran = c.search_one-outcome in
    let d : Division = c.args.search.now.division in
    let same_search : c.loop-turn.search.division ≡ d = c.loop-turn.invariant.same_search in
    let search : ran.new.search.division ≡ d = ran.ensures.unchanged ∙ same_search in
    let asked : c.ask.new.share ≡ c.claim_number.new.share = c.ask.ensures.unchanged in
    let kept : ran.new.share.seat.claimed ≡ c.claim_number.new.share.seat.claimed = ran.ensures.kept.claimed ∙ ap (λ (s : BoardShareView). s.seat.claimed) asked in
    let claim : ran.new.share.seat.claimed ≡ c.loop-turn.share.seat.claimed ++ c.in-Some.number ∷ [] = kept ∙ c.in-Some.ensures.number.1 in
    let one = c.claim_number.ensures.one in
    let same : length ran.new.share.seat.claimed ≡ length c.claim_number.new.share.seat.claimed = ap length kept in
    let grant = c.in-Some-ask.grant in
    let searched : c.piece-in-loop-turn.result ≡ grant.piece = c.piece-in-loop-turn.ensures in
    let is : piece_of c.args.self.now.task c.args.count c.in-Some.number ≡ grant.piece ∷ [] = c.in-Some-piece_at.ensures.some.1 ∙ ap (λ (n : ℕ). n ∷ []) (sym c.in-Some-ask.ensures.some) in
    let before = c.loop-turn.invariant.count in
    let names : NamesOneMore ran.result grant.piece c.loop-turn.named.done.items c.loop-turn.named.cut.items c.push_reserved.new.self.done.items c.push_reserved.new.self.cut.items =
    subst (λ (cut : List ℕ). NamesOneMore ran.result grant.piece c.loop-turn.named.done.items cut c.push_reserved.new.self.done.items c.push_reserved.new.self.cut.items) c.reserve.ensures.same_cut
    (subst (λ (done : List ℕ). NamesOneMore ran.result grant.piece done c.reserve.new.self.cut.items c.push_reserved.new.self.done.items c.push_reserved.new.self.cut.items) c.reserve.ensures.same_done c.push_reserved.ensures.named) in
    let counts : IfSome c.decisions_of.result (λ n. NamesOneMore ran.result n c.loop-turn.named.decisions.items c.loop-turn.named.cut_decisions.items c.push_reserved.new.self.decisions.items c.push_reserved.new.self.cut_decisions.items) =
    subst (λ (cut : List ℕ). IfSome c.decisions_of.result (λ n. NamesOneMore ran.result n c.loop-turn.named.decisions.items cut c.push_reserved.new.self.decisions.items c.push_reserved.new.self.cut_decisions.items)) c.reserve.ensures.same_cut_decisions
    (subst (λ (done : List ℕ). IfSome c.decisions_of.result (λ n. NamesOneMore ran.result n done c.reserve.new.self.cut_decisions.items c.push_reserved.new.self.decisions.items c.push_reserved.new.self.cut_decisions.items)) c.reserve.ensures.same_decisions c.push_reserved.ensures.counted) in
    let of_problem : ran.new.best.problem ≡ d.problem = ran.ensures.same_instance ∙ c.loop-turn.invariant.same_instance ∙ c.requires.same_instance in
    record {
      same_instance = ran.ensures.same_instance ∙ c.loop-turn.invariant.same_instance;
      same_search = search;
      count = omega arith;
      named = named_more c.args.self.now.task c.args.count ran.result c.loop-turn.named.done.items c.loop-turn.named.cut.items c.push_reserved.new.self.done.items c.push_reserved.new.self.cut.items c.loop-turn.share.seat.claimed ran.new.share.seat.claimed c.in-Some.number grant.piece
          c.loop-turn.invariant.named names claim is;
      uncut = λ no_race. uncut_more c.args.self.now.nodes ran.result grant.piece c.loop-turn.named.done.items c.loop-turn.named.cut.items c.push_reserved.new.self.done.items c.push_reserved.new.self.cut.items names (whole_by c.args.self.now.nodes ran.result (ran.ensures.uncut no_race)) (c.loop-turn.invariant.uncut no_race);
      budget = counted_more c.args.self.now.nodes c.decisions_of.result ran.result grant.piece ran.new.search.decisions
          c.loop-turn.named.done.items c.loop-turn.named.decisions.items c.loop-turn.named.cut.items c.loop-turn.named.cut_decisions.items
          c.push_reserved.new.self.done.items c.push_reserved.new.self.decisions.items c.push_reserved.new.self.cut.items c.push_reserved.new.self.cut_decisions.items
          c.decisions_of.ensures names counts ran.ensures.within ran.ensures.cut c.loop-turn.invariant.budget;
      done = done_more d ran.result c.loop-turn.named.done.items c.loop-turn.named.cut.items c.push_reserved.new.self.done.items c.push_reserved.new.self.cut.items grant.piece c.loop-turn.best.held ran.new.best names
          (subst (λ (e : Division). IsNotAfter e.problem c.loop-turn.best.held ran.new.best.held) same_search ran.ensures.not_after)
          of_problem c.facts_of.ensures
          (λ whole. subst (λ (n : ℕ). IsDone d n ran.new.best.held) searched (subst (λ (e : Division). IsDone e c.piece-in-loop-turn.result ran.new.best.held) same_search (ran.ensures.done whole)))
          c.loop-turn.invariant.done;
      seat = same_seat_onward c.args.share.now c.loop-turn.share ran.new.share c.loop-turn.invariant.seat
          (same_seat_onward c.loop-turn.share c.claim_number.new.share ran.new.share c.claim_number.ensures.seat
          (subst (λ (s : BoardShareView). SameSeat s ran.new.share) asked (same_seat_kept c.ask.new.share ran.new.share ran.ensures.kept)));
    }

pub loop-turn-preserved-in_default-piece_at : goal.loop-turn-preserved-in_default-piece_at
loop-turn-preserved-in_default-piece_at g c =
    let one = c.claim_number.ensures.one in
    let before = c.loop-turn.invariant.count in
    record {
      same_instance = c.loop-turn.invariant.same_instance;
      same_search = c.loop-turn.invariant.same_search;
      count = omega arith;
      named = still_named c.args.self.now.task c.args.count c.loop-turn.named.done.items c.loop-turn.named.cut.items c.loop-turn.share.seat.claimed c.claim_number.new.share.seat.claimed c.in-Some.number
          c.loop-turn.invariant.named c.in-Some.ensures.number.1 c.in_default-piece_at.ensures.none;
      uncut = c.loop-turn.invariant.uncut;
      budget = c.loop-turn.invariant.budget;
      done = c.loop-turn.invariant.done;
      seat = same_seat_onward c.args.share.now c.loop-turn.share c.claim_number.new.share c.loop-turn.invariant.seat c.claim_number.ensures.seat;
    }

pub loop-turn-preserved-in_default-ask : goal.loop-turn-preserved-in_default-ask
loop-turn-preserved-in_default-ask g c =
    let room = c.reserve.ensures in
    let one = c.claim_number.ensures.one in
    let before = c.loop-turn.invariant.count in
    let task = c.args.self.now.task in
    let asked : c.ask.new.share ≡ c.claim_number.new.share = c.ask.ensures.unchanged in
    let claim : c.ask.new.share.seat.claimed ≡ c.loop-turn.share.seat.claimed ++ c.in-Some.number ∷ [] = ap (λ (s : BoardShareView). s.seat.claimed) asked ∙ c.in-Some.ensures.number.1 in
    let same : length c.ask.new.share.seat.claimed ≡ length c.claim_number.new.share.seat.claimed = ap (λ (s : BoardShareView). length s.seat.claimed) asked in
    let passed : AreNamed (has_claims task) (pieces_among task c.args.count c.ask.new.share.seat.claimed) c.loop-turn.named.done.items c.loop-turn.named.cut.items =
    passed_more task c.args.count c.loop-turn.named.done.items c.loop-turn.named.cut.items c.loop-turn.share.seat.claimed c.ask.new.share.seat.claimed c.in-Some.number c.in-Some-piece_at.piece
    c.loop-turn.invariant.named claim c.in-Some-piece_at.ensures.some.1 c.in_default-ask.ensures.none in
    let named : AreNamed (has_claims task) (pieces_among task c.args.count c.ask.new.share.seat.claimed) c.reserve.new.self.done.items c.reserve.new.self.cut.items =
    subst (λ (l : List ℕ). AreNamed (has_claims task) (pieces_among task c.args.count c.ask.new.share.seat.claimed) c.reserve.new.self.done.items l) (sym room.same_cut)
    (subst (λ (l : List ℕ). AreNamed (has_claims task) (pieces_among task c.args.count c.ask.new.share.seat.claimed) l c.loop-turn.named.cut.items) (sym room.same_done) passed) in
    record {
      same_instance = c.loop-turn.invariant.same_instance;
      same_search = c.loop-turn.invariant.same_search;
      count = omega arith;
      named = named;
      uncut = λ no_race. subst (λ (l : List ℕ). IfNone c.args.self.now.nodes (l ≡ [])) (sym room.same_cut) (c.loop-turn.invariant.uncut no_race);
      budget = counted_as c.args.self.now.nodes c.loop-turn.named.done.items c.loop-turn.named.decisions.items c.loop-turn.named.cut.items c.loop-turn.named.cut_decisions.items
          c.reserve.new.self.done.items c.reserve.new.self.decisions.items c.reserve.new.self.cut.items c.reserve.new.self.cut_decisions.items
          room.same_done room.same_decisions room.same_cut room.same_cut_decisions c.loop-turn.invariant.budget;
      done = subst (λ (l : List ℕ). All (λ i. IsDone c.args.search.now.division i c.loop-turn.best.held) l) (sym room.same_done) c.loop-turn.invariant.done;
      seat = same_seat_onward c.args.share.now c.loop-turn.share c.ask.new.share c.loop-turn.invariant.seat
          (subst (λ (s : BoardShareView). SameSeat c.loop-turn.share s) (sym asked) c.claim_number.ensures.seat);
    }

pub returns-in_default-clause-same_instance : goal.returns-in_default-clause-same_instance
returns-in_default-clause-same_instance g c = c.loop-turn.invariant.same_instance

pub returns-in_default-clause-done : goal.returns-in_default-clause-done
returns-in_default-clause-done g c = c.loop-turn.invariant.done

pub returns-in_default-clause-named : goal.returns-in_default-clause-named
returns-in_default-clause-named g c =
    named_past c.args.self.now.task c.args.count c.numbers_of-numbers.result c.loop-turn.named.done.items c.loop-turn.named.cut.items c.loop-turn.share.seat.claimed c.claim_number.new.share.seat.claimed
    c.numbers_of-numbers.ensures c.loop-turn.invariant.named c.in_default.ensures.none

pub returns-in_default-clause-ends : goal.returns-in_default-clause-ends
returns-in_default-clause-ends g c =
    inl (ends_past c.args.self.now.task c.args.count c.numbers_of-numbers.result c.loop-turn.share.seat.claimed c.claim_number.new.share.seat.claimed c.numbers_of-numbers.ensures c.in_default.ensures.none)

pub returns-in_default-clause-claims : goal.returns-in_default-clause-claims
returns-in_default-clause-claims g c =
    let one = c.claim_number.ensures.one in
    let before = c.loop-turn.invariant.count in
    omega arith

pub returns-clause-claims : goal.returns-clause-claims
returns-clause-claims g c =
    let before = c.loop-turn.invariant.count in
    omega arith

pub returns-in_default-clause-uncut : goal.returns-in_default-clause-uncut
returns-in_default-clause-uncut g c = c.loop-turn.invariant.uncut

pub returns-in_default-clause-budget : goal.returns-in_default-clause-budget
returns-in_default-clause-budget g c = c.loop-turn.invariant.budget

pub returns-in_default-clause-most : goal.returns-in_default-clause-most
returns-in_default-clause-most g c =
    let one = c.claim_number.ensures.one in
    let before = c.loop-turn.invariant.count in
    let all = c.numbers_of-numbers.ensures in
    omega arith

pub returns-in_default-clause-seat : goal.returns-in_default-clause-seat
returns-in_default-clause-seat g c = same_seat_onward c.args.share.now c.loop-turn.share c.claim_number.new.share c.loop-turn.invariant.seat c.claim_number.ensures.seat

pub returns-in_err-reserve-clause-same_instance : goal.returns-in_err-reserve-clause-same_instance
returns-in_err-reserve-clause-same_instance g c = c.loop-turn.invariant.same_instance

pub returns-in_err-reserve-clause-seat : goal.returns-in_err-reserve-clause-seat
returns-in_err-reserve-clause-seat g c = same_seat_onward c.args.share.now c.loop-turn.share c.claim_number.new.share c.loop-turn.invariant.seat c.claim_number.ensures.seat

pub returns-clause-same_instance : goal.returns-clause-same_instance
returns-clause-same_instance g c = c.loop-turn.invariant.same_instance

pub returns-clause-done : goal.returns-clause-done
returns-clause-done g c = c.loop-turn.invariant.done

pub returns-clause-named : goal.returns-clause-named
returns-clause-named g c = c.loop-turn.invariant.named

pub returns-clause-uncut : goal.returns-clause-uncut
returns-clause-uncut g c = c.loop-turn.invariant.uncut

pub returns-clause-budget : goal.returns-clause-budget
returns-clause-budget g c = c.loop-turn.invariant.budget

pub returns-clause-most : goal.returns-clause-most
returns-clause-most g c =
    let before = c.loop-turn.invariant.count in
    let all = c.numbers_of-numbers.ensures in
    omega arith

pub returns-clause-ends : goal.returns-clause-ends
returns-clause-ends g c =
    let before = c.loop-turn.invariant.count in
    let all = c.numbers_of-numbers.ensures in
    inr (omega arith)

pub returns-clause-seat : goal.returns-clause-seat
returns-clause-seat g c = c.loop-turn.invariant.seat

pub returns-clause-unchanged : goal.returns-clause-unchanged
returns-clause-unchanged g c = c.loop-turn.invariant.same_search

pub returns-in_default-clause-unchanged : goal.returns-in_default-clause-unchanged
returns-in_default-clause-unchanged g c = c.loop-turn.invariant.same_search

pub returns-in_err-reserve-clause-unchanged : goal.returns-in_err-reserve-clause-unchanged
returns-in_err-reserve-clause-unchanged g c = c.loop-turn.invariant.same_search
