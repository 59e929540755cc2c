use Rattle.std.proofs.Common.{◌∙◌, ◌++◌, ◌∷◌, [], ap, List, length, arith}
use Rattle.std.proofs.lemmas.List.{length-append}
use Rattle.pb_inst.specs.Literal.{Literal}
use Rattle.pb_rows.specs.declared.literal_lists.LiteralSpan.{LiteralSpan}
use Rattle.pb_rows.proofs.LiteralListLemmas.{push_list, AreLiteralSpans-push}
use Rattle.pb_rows.proofs.literal_lists.LiteralLists.push.Goals as goal

pub invariant_of-self-2 : goal.invariant_of-self-2
invariant_of-self-2 c =
    let inside = c.self.inside in
    let more = c.args.lits.now in
    let len = ap (λ (ls : List Literal). length ls) c.in_ok-extend_from_slice.ensures.items in
    let sum = length-append inside.lits.items more in
    let span : LiteralSpan = record { start = c.len-start.result; end = c.len-end.result } in
    AreLiteralSpans-push inside.lits.items more _ inside.spans.items _ span c.self.invariant c.in_ok-extend_from_slice.ensures.items (c.push_reserved.ensures.items ∙ ap (λ (ss : List LiteralSpan). ss ++ span ∷ []) c.in_ok-reserve.ensures.items) (omega arith) (omega arith)

pub returns-clause-added : goal.returns-clause-added
returns-clause-added c =
    let inside = c.self.inside in
    let more = c.args.lits.now in
    let len = ap (λ (ls : List Literal). length ls) c.in_ok-extend_from_slice.ensures.items in
    let sum = length-append inside.lits.items more in
    let span : LiteralSpan = record { start = c.len-start.result; end = c.len-end.result } in
    push_list inside.lits.items more _ inside.spans.items _ _ span c.self.view_is c.self.invariant c.in_ok-extend_from_slice.ensures.items (c.push_reserved.ensures.items ∙ ap (λ (ss : List LiteralSpan). ss ++ span ∷ []) c.in_ok-reserve.ensures.items) (omega arith) (omega arith)
