use Rattle.std.proofs.Common.{◌≤◌, List, All, ap, sym, subst, ◌∙◌}
use Rattle.std.proofs.lemmas.List.{map-id}
use Rattle.pb_normal.specs.declared.terms.PositiveTerm.{PositiveTerm}
use Rattle.pb_rows.specs.declared.tables.RowTerms.{RowTerms}
use Rattle.pb_rows.specs.Tables.{terms_in}
use Rattle.pb_row_bound.specs.DisjointRows.{marked_by}
use Rattle.pb_row_bound.proofs.row_contributions.mark.Goals as goal

pub mark_items-requires : goal.mark_items-requires
mark_items-requires g c = record {
  variables = subst (λ (ts : List PositiveTerm). All (λ (t : PositiveTerm). (1 ≤ t.lit.var) × (t.lit.var ≤ c.args.trail.now.vars)) ts) (sym (map-id c.in-Weighted.terms.now)) (subst (λ (r : RowTerms _). All (λ (t : PositiveTerm). (1 ≤ t.lit.var) × (t.lit.var ≤ c.args.trail.now.vars)) (terms_in r)) c.in-Weighted.is c.requires.variables);
  marks = c.requires.marks;
}

pub returns-in-Weighted : goal.returns-in-Weighted
returns-in-Weighted g c = c.mark_items.ensures ∙ ap (marked_by c.args.trail.now.trail c.args.marks.now) (map-id c.in-Weighted.terms.now ∙ ap terms_in (sym c.in-Weighted.is))
