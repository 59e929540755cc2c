use Rattle.std.proofs.Common.{rules, OnOk}
use Rattle.std.specs.Io.KnownBytes.{Appends}
use Rattle.pb_report.specs.Written.{memory_report}
use Rattle.pb_report.proofs.SendingLaws.{adds_both, reported}
use Rattle.pb_report.proofs.writing.report_memory.Goals as goal

pub returns-clause-written : goal.returns-clause-written
returns-clause-written g c =
    let written : OnOk c.finish.result (Appends (g.W.Write.contents c.args.out.now.held) (g.W.Write.contents c.finish.new.self.0.held) memory_report) =
    reported _ c.finish.result _ _ _ _ _ c.new-report.ensures.unwritten c.new-report.ensures.empty (adds_both _ _ _ _ _ _ c.put_line.ensures c.put_line-2.ensures) c.finish.ensures.written c.finish.ensures.failed in
    search (rules, written)
