use Rattle.std.proofs.Common.{◌+◌, List, [], ◌∷◌, ◌++◌, ap, arith, map, string_bytes, subst, sym, take, ◌∙◌}
use Rattle.std.proofs.lemmas.List.{map_more}
use Rattle.std.specs.Prelude.{option_to_list}
use Rattle.pb_files.specs.Texts.{Text}
use Rattle.pb_join.specs.declared.reports.PieceReport.{PieceReport}
use Rattle.pb_files.specs.Reading.{IsReportOf, ReadsReports}
use Rattle.pb_files.proofs.Each.{ReadsEach-push}
use Rattle.pb_files.proofs.reports.read_reports.Goals as goal

pub loop-place-preserved : goal.loop-place-preserved
loop-place-preserved g c =
    let place = c.loop-place.place in
    let one = c.in-Ok.ensures in
    let earlier = map string_bytes (take place c.args.names.items) in
    let name = ap string_bytes (sym c.index.ensures) ∙ sym c.deref.ensures in
    let names = map_more string_bytes c.args.names.items place c.index.result.now (omega (arith, c.loop-place-test.true, c.len-place-end.ensures)) ∙ ap (λ (n : Text). earlier ++ n ∷ []) name in
    let pushed = ReadsEach-push g.F.Files.reads (IsReportOf c.args.format c.args.vars) earlier c.loop-place.reports.items c.args.files.now c.loop-place.files c.read_one.new.files c.deref.result.now one.0 c.in-Ok.report c.loop-place.invariant.read one.1 one.2 in
    let with_name = subst (λ (l : List Text). ReadsReports g.F.Files.reads c.args.format c.args.vars l (c.loop-place.reports.items ++ option_to_list c.in-Ok.report) c.args.files.now c.read_one.new.files) (sym names) pushed in
    record {
      counted = c.in_ok-keep-in-Ok.ensures.counted c.loop-place.invariant.counted;
      read = subst (λ (l : List PieceReport). ReadsReports g.F.Files.reads c.args.format c.args.vars (map string_bytes (take (place + 1) c.args.names.items)) l c.args.files.now c.read_one.new.files) (sym c.in_ok-keep-in-Ok.ensures.reports) with_name;
    }
