use Rattle.std.proofs.Common.{false, refl, subst}
use Rattle.std.specs.Option.{IfSome}
use Rattle.pb_inst.specs.Problem.{Problem}
use Rattle.pb_inst.specs.Incumbent.{IsSolution}
use Rattle.pb_workers.proofs.CutLaws.{no_cut_names}
use Rattle.pb_workers.proofs.DealingLaws.{answer_of_task}
use Rattle.pb_workers.proofs.task_solving.solve_task.Goals as goal

pub returns-clause-answer : goal.returns-clause-answer
returns-clause-answer g c =
    let dealt = c.in_ok-dealt.dealt in
    let work = c.in_ok-dealt.ensures.work in
    answer_of_task c.args.inst.now c.args.pieces.now c.args.task c.args.nodes false work.0 dealt.names.done.items dealt.names.cut.items dealt.best.held dealt.cut
    work.1 work.2 (subst (λ (p : Problem). IfSome dealt.best.held (IsSolution p)) c.in_ok-dealt.ensures.same_instance c.facts_of.ensures)

pub returns-clause-no_budget : goal.returns-clause-no_budget
returns-clause-no_budget g c =
    let work = c.in_ok-dealt.ensures.work in
    no_cut_names c.args.task c.args.nodes work.0 c.in_ok-dealt.dealt.names.done.items c.in_ok-dealt.dealt.names.cut.items (work.1.uncut refl) work.2
