use Rattle.std.proofs.Common.{◌-◌, ◌<◌, List, length, get_or, Bool, false, ap, sym, ◌∙◌, arith}
use Rattle.pb_bits.proofs.MarkLemmas.{length-marks_of, marked_at}
use Rattle.pb_bits.proofs.marks.Marks.is_marked.Goals as goal

pub index-requires : goal.index-requires
index-requires c =
    let inside = c.self.inside in
    omega (arith, length-marks_of inside.stamp inside.stamps.items, ap (λ (ms : List Bool). length ms) c.self.view_is, c.requires.0, c.requires.1, inside.stamps.ok.0)

pub returns : goal.returns
returns c =
    let inside = c.self.inside in
    let low : c.args.var - 1 < length inside.stamps.items = omega (arith, length-marks_of inside.stamp inside.stamps.items, ap (λ (ms : List Bool). length ms) c.self.view_is, c.requires.0, c.requires.1) in
    sym (marked_at inside.stamp inside.stamps.items (c.args.var - 1) c.index.result.now low c.index.ensures) ∙ ap (λ (ms : List Bool). get_or ms (c.args.var - 1) false) c.self.view_is
