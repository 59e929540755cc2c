use Rattle.std.proofs.Common.{◌++◌, arith, rules, OnOk}
use Rattle.std.proofs.lemmas.Int.{ints, to_z-of_z}
use Rattle.pb_report.specs.Sending.{Adds}
use Rattle.pb_report.specs.Written.{line, cost_line, value_line}
use Rattle.std.specs.Io.KnownBytes.{Appends}
use Rattle.pb_report.proofs.SendingLaws.{adds_both, reported}
use Rattle.pb_report.proofs.writing.report_with_cost.Goals as goal

pub returns-clause-written : goal.returns-clause-written
returns-clause-written g c =
    let cost_added : Adds g.W.Write.contents c.new-report.result c.put_cost.new.self (cost_line c.args.cost) =
    search (arith, ints, to_z-of_z, c.put_cost.ensures) in
    let lines = adds_both _ _ _ _ _ _ cost_added c.put_line.ensures in
    let written : OnOk c.finish.result (Appends (g.W.Write.contents c.args.out.now.held) (g.W.Write.contents c.finish.new.self.0.held) ((cost_line c.args.cost ++ line c.args.said.now) ++ value_line c.args.format c.args.values.now)) =
    reported _ c.finish.result _ _ _ _ _ c.new-report.ensures.unwritten c.new-report.ensures.empty (adds_both _ _ _ _ _ _ lines c.put_values.ensures) c.finish.ensures.written c.finish.ensures.failed in
    search (rules, written)
