use Rattle.std.proofs.Common.{◌∙◌, Err, ap, subst}
use Rattle.pb_solve.specs.declared.options.Ran.{Ran}
use Rattle.pb_solve.specs.Run.{IsPrepared}
use Rattle.pb_solve.proofs.OutcomeLaws.{refusal_reported}
use Rattle.pb_solve.proofs.whole_run.report_prepare_error.Goals as goal

pub returns-in_ok-report_refusal-in-Refused-clause-reports : goal.returns-in_ok-report_refusal-in-Refused-clause-reports
returns-in_ok-report_refusal-in-Refused-clause-reports g c = λ format input cubes split prepared whole known.
    let reported = c.in_ok-report_refusal-in-Refused in
    refusal_reported _ _ _ _ _ _ _ c.in-Refused.refusal
    (subst (λ error. IsPrepared format input cubes split (Err error)) c.in-Refused.is prepared)
    (ap (λ (ran : Ran). ran.status) c.uncut.ensures ∙ reported.ensures.status) reported.ensures.written
