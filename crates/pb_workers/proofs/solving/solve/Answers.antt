use Rattle.std.proofs.Common.{false, refl}
use Rattle.pb_workers.proofs.ClaimLaws.{answer_of_work}
use Rattle.pb_workers.proofs.solving.solve.Goals as goal

pub returns-clause-parts : goal.returns-clause-parts
returns-clause-parts g c =
    let work = c.in_ok-dealt.ensures.work in
    let dealt = c.in_ok-dealt.dealt in
    (work.0, answer_of_work c.args.inst.now c.args.pieces.now c.args.nodes false work.0 dealt.best.held dealt.cut work.1, work.1.budget)

pub returns-clause-least : goal.returns-clause-least
returns-clause-least g c = λ uncut. c.in_ok-dealt.ensures.least refl uncut

pub returns-clause-no_budget : goal.returns-clause-no_budget
returns-clause-no_budget g c = c.in_ok-dealt.ensures.no_budget refl
