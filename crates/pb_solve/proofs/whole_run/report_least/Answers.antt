use Rattle.std.proofs.Common.{◌∙◌, OnOk, arith, sym}
use Rattle.std.proofs.lemmas.Int.{ints, to_z-of_z}
use Rattle.std.specs.Io.KnownBytes.{Appends}
use Rattle.pb_report.specs.Written.{optimum_report}
use Rattle.pb_solve.proofs.OutcomeLaws.{optimum_answers, satisfiable_answers}
use Rattle.pb_solve.proofs.whole_run.report_least.Goals as goal

pub returns-then-has_objective-clause-answers : goal.returns-then-has_objective-clause-answers
returns-then-has_objective-clause-answers g c =
    let written : OnOk c.report_optimum.result (Appends (g.W.Write.contents c.args.out.now.held) (g.W.Write.contents c.report_optimum.new.out.held) (optimum_report c.args.format c.in-Some-Some.cost c.in-Some-Some.values.now)) =
    search (arith, ints, to_z-of_z, c.report_optimum.ensures.written) in
    optimum_answers c.report_optimum.result c.args.format c.args.instance.now c.args.best.now.held _ _ c.in-Some-Some.values.now c.in-Some-Some.cost
    c.requires.least c.in-Some-Some.ensures'.value c.in-Some-Some.ensures.value (sym c.has_objective.ensures ∙ c.if-has_objective.true) c.report_optimum.ensures.status written

pub returns-else-has_objective-clause-answers : goal.returns-else-has_objective-clause-answers
returns-else-has_objective-clause-answers g c =
    satisfiable_answers c.report_satisfiable.result c.args.format c.args.instance.now c.args.best.now.held _ _ c.in-Some-Some.values.now
    c.requires.least c.in-Some-Some.ensures'.value (sym c.has_objective.ensures ∙ c.if-has_objective.false) c.report_satisfiable.ensures.status c.report_satisfiable.ensures.written
