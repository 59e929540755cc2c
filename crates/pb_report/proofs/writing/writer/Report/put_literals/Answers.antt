use Rattle.std.proofs.Common.{arith, sym, subst}
use Rattle.pb_report.specs.Sending.{Adds}
use Rattle.pb_report.proofs.SendingLaws.{adds_both, adds_none}
use Rattle.pb_report.proofs.WritingLaws.{literal_added}
use Rattle.pb_report.proofs.writing.writer.Report.put_literals.Goals as goal

pub loop-place-init : goal.loop-place-init
loop-place-init g c = adds_none _ _

pub loop-place-preserved : goal.loop-place-preserved
loop-place-preserved g c =
    let all = adds_both _ _ _ _ _ _ c.loop-place.invariant (adds_both _ _ _ _ _ _ c.put.ensures c.put_number.ensures) in
    subst (λ bytes. Adds g.W.Write.contents c.args.self.now c.put_number.new.self bytes)
    (sym (literal_added c.args.format c.args.values.now c.loop-place.place c.get.result c.sign_of.result.now (omega (arith, c.loop-place-test.true, c.len-place-end.ensures)) c.get.ensures c.sign_of.ensures)) all
