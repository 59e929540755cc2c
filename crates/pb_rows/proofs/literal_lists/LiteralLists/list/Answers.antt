use Rattle.std.proofs.Common.{List, arith, sym, ap, ◌∙◌, slice_range}
use Rattle.pb_inst.specs.Literal.{Literal}
use Rattle.pb_rows.proofs.LiteralListLemmas.{list_count, read_list, span_in_range}
use Rattle.pb_rows.proofs.literal_lists.LiteralLists.list.Goals as goal

pub index-span-requires : goal.index-span-requires
index-span-requires c =
    let count = list_count c.self.inside.lits.items c.self.inside.spans.items _ c.self.view_is in
    omega arith

pub part-requires : goal.part-requires
part-requires c =
    let count = list_count c.self.inside.lits.items c.self.inside.spans.items _ c.self.view_is in
    let range = span_in_range c.self.inside.lits.items c.self.inside.spans.items c.args.i _ c.self.invariant (omega arith) c.index-span.ensures in
    record { ordered = omega arith; within = omega (arith, c.deref.ensures.len) }

pub returns : goal.returns
returns c =
    let count = list_count c.self.inside.lits.items c.self.inside.spans.items _ c.self.view_is in
    let span = c.index-span.result.now in
    c.part.ensures ∙ (ap (λ (ls : List Literal). slice_range ls span.start span.end) c.deref.ensures.value ∙ sym (read_list c.self.inside.lits.items c.self.inside.spans.items _ c.args.i span c.self.view_is (omega arith) c.index-span.ensures))
