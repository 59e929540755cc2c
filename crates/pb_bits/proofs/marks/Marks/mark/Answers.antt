use Rattle.std.proofs.Common.{◌-◌, List, length, set, Bool, true, ap, ◌∙◌, arith}
use Rattle.pb_bits.proofs.MarkLemmas.{length-marks_of, marked_one}
use Rattle.pb_bits.proofs.marks.Marks.mark.Goals as goal

pub index_mut-requires : goal.index_mut-requires
index_mut-requires c =
    let inside = c.self.inside in
    omega (arith, length-marks_of inside.stamp inside.stamps.items, ap (λ (ms : List Bool). length ms) c.self.view_is, c.requires.0, c.requires.1, inside.stamps.ok.0)

pub returns : goal.returns
returns c =
    let inside = c.self.inside in
    marked_one inside.stamp inside.stamps.items (c.args.var - 1) ∙ ap (λ (ms : List Bool). set ms (c.args.var - 1) true) c.self.view_is
