use Rattle.pb_workers.proofs.racing.race.Goals as goal

pub settled_answer-requires : goal.settled_answer-requires
settled_answer-requires g c = c.in_ok-dealt.ensures.settled c.if-is_settled.true
