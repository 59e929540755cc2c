use Rattle.std.proofs.Common.{None, subst}
use Rattle.pb_solve.specs.Run.{IsPrepared}
use Rattle.pb_solve.proofs.OutcomeLaws.{found_by_answer, answers_report, found_report_of}
use Rattle.pb_solve.proofs.whole_run.run_without_threads.Goals as goal

pub returns-in-Ok-clause-headline : goal.returns-in-Ok-clause-headline
returns-in-Ok-clause-headline g c =
    answers_report _ _ c.in-Ok.found _ None _ _ _ (subst (IsPrepared c.args.format (g.I.Read.remaining c.args.input.now.held) None 0) c.in-Ok.is c.prepare.ensures.prepared) c.report_answered.ensures.answers

pub returns-in-Ok-clause-budgeted : goal.returns-in-Ok-clause-budgeted
returns-in-Ok-clause-budgeted g c =
    found_report_of _ _ c.in-Ok.found _ None _ _ _ (subst (IsPrepared c.args.format (g.I.Read.remaining c.args.input.now.held) None 0) c.in-Ok.is c.prepare.ensures.prepared)
    (found_by_answer _ _ c.args.format c.in-Ok.found.instance c.in-Ok.found.pieces c.args.nodes _ _ c.solve_alone-answered.ensures.parts c.report_answered.ensures.uncut c.report_answered.ensures.budgeted)
