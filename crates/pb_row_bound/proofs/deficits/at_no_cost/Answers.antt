use Rattle.std.proofs.Common.{◌<◌, ◌≤◌, [], List, All, ap, sym, subst, ◌∙◌, sum_by}
use Rattle.std.proofs.lemmas.List.{map-id}
use Rattle.pb_normal.specs.declared.terms.PositiveTerm.{PositiveTerm}
use Rattle.pb_rows.specs.declared.tables.RowTerms.{RowTerms}
use Rattle.pb_rows.specs.Tables.{terms_in}
use Rattle.pb_row_bound.specs.DisjointRows.{spare}
use Rattle.pb_row_bound.proofs.deficits.at_no_cost.Goals as goal

pub costless-requires : goal.costless-requires
costless-requires g c =
    let back = sym (map-id c.in-Weighted.terms.now) in
    record {
      variables = subst (λ (ts : List PositiveTerm). All (λ (t : PositiveTerm). t.lit.var ≤ c.args.tables.now.vars) ts) back (subst (λ (r : RowTerms _). All (λ (t : PositiveTerm). t.lit.var ≤ c.args.tables.now.vars) (terms_in r)) c.in-Weighted.is c.requires.variables);
      fits = subst (λ (ts : List PositiveTerm). sum_by (λ (t : PositiveTerm). t.coef) ts < g.C.Coefficient.limit) back (subst (λ (r : RowTerms _). sum_by (λ (t : PositiveTerm). t.coef) (terms_in r) < g.C.Coefficient.limit) c.in-Weighted.is c.requires.fits);
    }

pub returns-in-Weighted : goal.returns-in-Weighted
returns-in-Weighted g c =
    let objective = c.args.tables.now.form.objective in
    c.costless.ensures ∙ (ap (spare objective []) (map-id c.in-Weighted.terms.now) ∙ ap (λ (r : RowTerms _). spare objective [] (terms_in r)) (sym c.in-Weighted.is))
