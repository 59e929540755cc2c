use Rattle.std.proofs.Common.{◌≡◌, ◌∙◌, List, [], ◌∷◌, ◌++◌, ap, map, string_bytes, subst, sym, take, true}
use Rattle.std.proofs.lemmas.List.{map_more}
use Rattle.pb_files.specs.Reading.{ReadsSame}
use Rattle.pb_files.specs.Texts.{Text}
use Rattle.pb_report.specs.Written.{refusal_report}
use Rattle.pb_files.proofs.Each.{ReadsSame-push}
use Rattle.pb_files.proofs.parts.all_refuse.Goals as goal

pub loop-name-preserved : goal.loop-name-preserved
loop-name-preserved g c =
    let place = c.loop-name.name-index in
    let text = refusal_report c.args.refusal in
    let earlier = map string_bytes (take place c.args.names.now) in
    let name = ap string_bytes (sym c.name-item.is) ∙ sym c.deref.ensures in
    let names = map_more string_bytes c.args.names.now place c.name-item.result c.loop-name-test.true ∙ ap (λ (n : Text). earlier ++ n ∷ []) name in
    let is_same : c.in_ok-is_same.is_same ≡ true = cc in
    let file = c.in_ok-is_same.ensures is_same in
    let read = subst (λ (t : Text). g.F.Files.reads c.loop-name.files c.deref.result.now t c.has_text.new.files) (c.as_slice.ensures.value ∙ c.in-Ok.ensures) file in
    let pushed = ReadsSame-push g.F.Files.reads text earlier c.args.files.now c.loop-name.files c.has_text.new.files c.deref.result.now c.loop-name.invariant read in
    subst (λ (l : List Text). ReadsSame g.F.Files.reads text l c.args.files.now c.has_text.new.files) (sym names) pushed
