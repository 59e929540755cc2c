use Rattle.std.proofs.Common.{◌++◌, ◌∷◌, [], ◌∙◌, ap, append_assoc, codes, subst, sym}
use Rattle.pb_report.specs.Sending.{Adds}
use Rattle.pb_report.specs.Written.{literals}
use Rattle.pb_report.proofs.SendingLaws.{adds_both}
use Rattle.pb_report.proofs.writing.writer.Report.put_values.Goals as goal

pub returns : goal.returns
returns g c =
    let values = literals c.args.format 1 c.args.values.now in
    let all = adds_both _ _ _ _ _ _ c.put.ensures (adds_both _ _ _ _ _ _ c.put_literals.ensures c.put_line.ensures) in
    subst (λ bytes. Adds g.W.Write.contents c.args.self.now c.put_line.new.self (codes "v" ++ bytes))
    (sym (append_assoc values c.ending_of.result.now (10 ∷ [])) ∙ ap (λ end. (values ++ end) ++ 10 ∷ []) c.ending_of.ensures) all
