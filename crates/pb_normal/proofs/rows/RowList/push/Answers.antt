use Rattle.std.proofs.Common.{ℕ, ◌∙◌, ◌++◌, ◌∷◌, [], ap, List, length, map, arith}
use Rattle.std.proofs.lemmas.List.{length-append, length-map}
use Rattle.pb_normal.specs.declared.rows.Span.{Span}
use Rattle.pb_normal.specs.declared.terms.PositiveTerm.{PositiveTerm}
use Rattle.pb_normal.specs.NormalForm.{PositiveRow}
use Rattle.pb_normal.specs.Merging.{clipped}
use Rattle.pb_normal.proofs.SpanLemmas.{row_terms_is, push_row, AreSpansWithin-push}
use Rattle.pb_normal.proofs.rows.RowList.push.Goals as goal

pub overflow_cast-start : goal.overflow_cast-start
overflow_cast-start g c =
    let count = row_terms_is c.self.inside.terms.items c.self.inside.spans.items _ c.self.view_is c.self.invariant.spans_of in
    omega arith

pub overflow_cast-end : goal.overflow_cast-end
overflow_cast-end g c =
    let inside = c.self.inside in
    let count = row_terms_is inside.terms.items inside.spans.items _ c.self.view_is c.self.invariant.spans_of in
    let more : List PositiveTerm = map (clipped c.args.degree) c.args.terms.now in
    let len = ap (λ (ts : List PositiveTerm). length ts) c.in_ok-extend_with_clipped.ensures.added in
    let sum = length-append inside.terms.items more in
    let same = length-map c.args.terms.now (clipped c.args.degree) in
    omega arith

pub invariant_of-self-2 : goal.invariant_of-self-2
invariant_of-self-2 g c =
    let inside = c.self.inside in
    let more : List PositiveTerm = map (clipped c.args.degree) c.args.terms.now in
    let len = ap (λ (ts : List PositiveTerm). length ts) c.in_ok-extend_with_clipped.ensures.added in
    let sum = length-append inside.terms.items more in
    let span : Span _ = record { start = c.len-start.result; end = c.len-end.result; degree = c.fitting-degree.result } in
    AreSpansWithin-push g.C.Coefficient.limit inside.terms.items more _ inside.spans.items _ span c.self.invariant c.in_ok-extend_with_clipped.ensures.added (c.push_reserved.ensures.items ∙ ap (λ (ss : List (Span _)). ss ++ span ∷ []) c.in_ok-reserve.ensures.items) (omega arith) (omega arith) (omega (arith, c.requires.fits.0, c.fitting-degree.ensures), c.requires.fits.1)

pub returns-clause-added : goal.returns-clause-added
returns-clause-added g c =
    let inside = c.self.inside in
    let more : List PositiveTerm = map (clipped c.args.degree) c.args.terms.now in
    let len = ap (λ (ts : List PositiveTerm). length ts) c.in_ok-extend_with_clipped.ensures.added in
    let sum = length-append inside.terms.items more in
    let span : Span _ = record { start = c.len-start.result; end = c.len-end.result; degree = c.fitting-degree.result } in
    push_row inside.terms.items more _ inside.spans.items _ _ span c.self.view_is c.self.invariant.spans_of c.in_ok-extend_with_clipped.ensures.added (c.push_reserved.ensures.items ∙ ap (λ (ss : List (Span _)). ss ++ span ∷ []) c.in_ok-reserve.ensures.items) (omega arith) (omega arith) ∙ ap (λ (d : ℕ). let row : PositiveRow = record { terms = more; degree = d } in c.args.self.now ++ row ∷ []) c.fitting-degree.ensures
