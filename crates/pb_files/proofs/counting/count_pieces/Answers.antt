use Rattle.std.proofs.Common.{List, [], ◌∷◌, ◌++◌, Some, ap, arith, map, string_bytes, subst, sym, take, ◌∙◌}
use Rattle.std.proofs.lemmas.List.{map_more}
use Rattle.pb_files.specs.Texts.{Text}
use Rattle.pb_files.proofs.Known.{IsKnown, known_more}
use Rattle.pb_files.proofs.counting.count_pieces.Goals as goal

pub loop-place-preserved : goal.loop-place-preserved
loop-place-preserved g c =
    let place = c.loop-place.place in
    let told = c.in-Ok.ensures in
    let whole = c.args.whole.now in
    let earlier = map string_bytes (take place c.args.indexes.items) in
    let name = ap string_bytes (sym c.index.ensures) ∙ sym c.deref.ensures in
    let names = map_more string_bytes c.args.indexes.items place c.index.result.now (omega (arith, c.loop-place-test.true, c.len-place-end.ensures)) ∙ ap (λ (n : Text). earlier ++ n ∷ []) name in
    let more = known_more g.F.Files.reads c.args.format whole.instance.vars whole.digest c.args.asked c.loop-place.pieces c.in-Ok.told earlier c.deref.result.now c.args.files.now c.loop-place.files c.read_index.new.files c.loop-place.invariant told.known told.some told.read in
    subst (λ (l : List Text). IsKnown g.F.Files.reads c.args.format whole.instance.vars whole.digest c.args.asked (Some c.in-Ok.told) l c.args.files.now c.read_index.new.files) (sym names) more
