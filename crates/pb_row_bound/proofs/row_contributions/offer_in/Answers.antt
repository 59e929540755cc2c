use Rattle.std.proofs.Common.{◌≡◌, ◌<◌, ◌≤◌, List, All, None, true, false, ap, sym, subst, ◌∙◌, sum_by}
use Rattle.std.specs.Option.{ForSome}
use Rattle.std.proofs.lemmas.List.{map-id}
use Rattle.pb_normal.specs.declared.terms.PositiveTerm.{PositiveTerm}
use Rattle.pb_rows.specs.declared.tables.RowTerms.{RowTerms}
use Rattle.pb_rows.specs.Tables.{terms_in}
use Rattle.pb_row_bound.specs.DisjointRows.{meets_marks}
use Rattle.pb_row_bound.specs.Offers.{Offer, offer_of}
use Rattle.pb_row_bound.proofs.row_contributions.offer_in.Goals as goal

pub offer_of_items-requires : goal.offer_of_items-requires
offer_of_items-requires g c =
    let back = sym (map-id c.in-Weighted.terms.now) in
    record {
      variables = subst (λ (ts : List PositiveTerm). All (λ (t : PositiveTerm). (1 ≤ t.lit.var) × (t.lit.var ≤ c.args.trail.now.vars)) ts) back (subst (λ (r : RowTerms _). All (λ (t : PositiveTerm). (1 ≤ t.lit.var) × (t.lit.var ≤ c.args.trail.now.vars)) (terms_in r)) c.in-Weighted.is c.requires.variables);
      marks = c.requires.marks;
      fits = subst (λ (ts : List PositiveTerm). sum_by (λ (t : PositiveTerm). t.coef) ts < g.C.Coefficient.limit) back (subst (λ (r : RowTerms _). sum_by (λ (t : PositiveTerm). t.coef) (terms_in r) < g.C.Coefficient.limit) c.in-Weighted.is c.requires.fits);
    }

pub returns-in-Weighted : goal.returns-in-Weighted
returns-in-Weighted g c =
    let objective = c.args.trail.now.form.objective in
    let trail = c.args.trail.now.trail in
    let marks = c.args.marks.now in
    let found = c.offer_of_items.result in
    let plain = map-id c.in-Weighted.terms.now ∙ ap terms_in (sym c.in-Weighted.is) in
    record {
      some = subst (λ (ts : List PositiveTerm). ForSome found (λ (o : Offer). (o ≡ offer_of g.C.Coefficient.limit objective trail ts) × (meets_marks trail marks ts ≡ false))) plain c.offer_of_items.ensures.some;
      none = subst (λ (ts : List PositiveTerm). found ≡ None → meets_marks trail marks ts ≡ true) plain c.offer_of_items.ensures.none;
    }
