use Rattle.std.proofs.Common.{◌++◌, codes, decimal, subst}
use Rattle.pb_report.specs.Sending.{Adds}
use Rattle.pb_report.specs.Written.{line}
use Rattle.pb_report.proofs.SendingLaws.{adds_both}
use Rattle.pb_report.proofs.writing.writer.Report.put_fault.Goals as goal

pub returns : goal.returns
returns g c =
    let placed = adds_both _ _ _ _ _ _ c.put-2.ensures c.put-3.ensures in
    let text = adds_both _ _ _ _ _ _ c.put.ensures (adds_both _ _ _ _ _ _ placed c.put_number.ensures) in
    subst (λ name. Adds g.W.Write.contents c.args.self.now c.put-4.new.self (line (c.args.what.now ++ ((name ++ codes " at line ") ++ decimal c.args.fault.line))))
    c.name_of.ensures (adds_both _ _ _ _ _ _ text c.put-4.ensures)
