use Rattle.std.proofs.Common.{◌∙◌, OnOk, arith, subst, sym}
use Rattle.std.proofs.lemmas.Int.{ints, to_z-of_z}
use Rattle.std.specs.Io.KnownBytes.{Appends}
use Rattle.std.specs.Option.{IfSome}
use Rattle.pb_inst.specs.Problem.{Problem}
use Rattle.pb_inst.specs.Incumbent.{IsSolution}
use Rattle.pb_report.specs.Written.{attained_report}
use Rattle.pb_solve.proofs.OutcomeLaws.{attained_found, satisfiable_found}
use Rattle.pb_solve.proofs.whole_run.report_found.Goals as goal

pub returns-then-has_objective-clause-answers : goal.returns-then-has_objective-clause-answers
returns-then-has_objective-clause-answers g c =
    let sound : IfSome c.args.best.now.held (IsSolution c.args.instance.now) = subst (λ (p : Problem). IfSome c.args.best.now.held (IsSolution p)) c.requires.same_instance c.cost.ensures.sound in
    let written : OnOk c.report_attained.result (Appends (g.W.Write.contents c.args.out.now.held) (g.W.Write.contents c.report_attained.new.out.held) (attained_report c.args.format c.in-Some-Some.cost c.in-Some-Some.values.now)) =
    search (arith, ints, to_z-of_z, c.report_attained.ensures.written) in
    attained_found c.report_attained.result c.args.format c.args.instance.now c.args.best.now.held _ _ c.in-Some-Some.values.now c.in-Some-Some.cost
    sound c.in-Some-Some.ensures'.value c.in-Some-Some.ensures.value (sym c.has_objective.ensures ∙ c.if-has_objective.true) c.report_attained.ensures.status written

pub returns-else-has_objective-clause-answers : goal.returns-else-has_objective-clause-answers
returns-else-has_objective-clause-answers g c =
    let sound : IfSome c.args.best.now.held (IsSolution c.args.instance.now) = subst (λ (p : Problem). IfSome c.args.best.now.held (IsSolution p)) c.requires.same_instance c.cost.ensures.sound in
    satisfiable_found c.report_satisfiable.result c.args.format c.args.instance.now c.args.best.now.held _ _ c.in-Some-Some.values.now
    sound c.in-Some-Some.ensures'.value (sym c.has_objective.ensures ∙ c.if-has_objective.false) c.report_satisfiable.ensures.status c.report_satisfiable.ensures.written
