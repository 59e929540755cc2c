use Rattle.std.proofs.Common.{◌≡◌, ℕ, ◌*◌, ◌<◌, ◌++◌, List, [], Option, Bool, length, get_or, set, take, drop, arith, ap, sym, subst, ◌∙◌, length-set}
use Rattle.std.specs.Prelude.{IsSomeAnd}
use Rattle.std.proofs.lemmas.Option.{slice_get-get_or}
use Rattle.std.proofs.lemmas.List.{get_or_read}
use Rattle.pb_normal.specs.declared.terms.PositiveTerm.{PositiveTerm}
use Rattle.pb_normal.specs.NormalForm.{PositiveRow}
use Rattle.pb_normal.specs.Literals.{weight_of}
use Rattle.pb_rows.specs.Constraints.{row_at}
use Rattle.pb_rows.specs.Index.{literal_place}
use Rattle.pb_rows.proofs.IndexLemmas.{changed_in_place}
use Rattle.pb_dual.specs.ReducedCosts.{AreReducedCosts, parts}
use Rattle.pb_dual.specs.Multipliers.{MultipliersState, IsWithinShare}
use Rattle.pb_dual.specs.Saturation.{counted_form, capped}
use Rattle.pb_dual.proofs.SaturationLemmas.{length-counted, counted-normal}
use Rattle.pb_dual.proofs.TrailLemmas.{share_counted, within_counted}
use Rattle.pb_dual.proofs.SetLemmas.{can-set, costs-set, degrees-set, within-set, promised-small}
use Rattle.pb_dual.proofs.multipliers.Multipliers.set.Goals as goal

pub reprice-requires-clause-enough : goal.reprice-requires-clause-enough
reprice-requires-clause-enough g c = λ l low high.
    let s = c.self.inside in
    let kept = c.self.invariant.0 in
    let ys = s.multipliers.items in
    let form = counted_form s.saturations.items s.form in
    let origin = g.C.Coefficient.origin in
    let exists : c.args.row < length s.form.rows = subst (λ (m : MultipliersState). c.args.row < length m.form.rows) (sym c.self.view_is) c.requires.row in
    let row : c.args.row < length form.rows = omega (arith, length-counted s.saturations.items s.form.rows c.self.invariant.1.count) in
    let whole : IsWithinShare s.form s.share c.args.row c.args.to = subst (λ (m : MultipliersState). IsWithinShare m.form m.share c.args.row c.args.to) (sym c.self.view_is) c.requires.within in
    let within : IsWithinShare form s.share c.args.row c.args.to = share_counted form s.form s.share c.args.row c.args.to (kept.no_greater c.args.row row) whole in
    let from : c.index-from.result.now ≡ get_or ys c.args.row 0 = get_or_read ys c.args.row c.index-from.result.now (omega (arith, row, kept.count)) c.index-from.ensures 0 in
    let given_terms : (row_at s.form.rows c.args.row).terms ≡ c.terms.result.now = subst (λ found. IsSomeAnd found (λ (r : PositiveRow). r.terms ≡ c.terms.result.now)) (slice_get-get_or s.form.rows c.args.row (record { terms = []; degree = 0 }) exists) c.terms.ensures in
    let terms : (row_at form.rows c.args.row).terms ≡ capped c.most-most.result c.terms.result.now = subst (λ (m : MultipliersState). (row_at m.counted.rows c.args.row).terms ≡ capped c.most-most.result (row_at m.form.rows c.args.row).terms) (sym c.self.view_is) c.most-most.ensures ∙ ap (capped c.most-most.result) given_terms in
    let can = can-set origin s.scale form ys s.share c.args.row c.args.to l (get_or s.costs.items (literal_place l) 0) (counted-normal s.form s.saturations.items s.root s.lits.items c.facts.ensures.normal c.self.invariant.1) kept.count kept.shared (within_counted kept) (omega (arith, kept.scaled, ap (λ (n : ℕ). s.scale * n) kept.total_is)) row within (kept.costs_are.each l low (omega (arith, high, ap (λ (vs : List (Option Bool)). length vs) c.deref.ensures.value, kept.vars))) in
    let cost = ap (λ (xs : List ℕ). get_or xs (literal_place l) 0) c.deref_mut.ensures.value in
    let weight = ap (λ (ts : List PositiveTerm). weight_of l ts) terms in
    let given : c.index-from.result.now * weight_of l (capped c.most-most.result c.terms.result.now) ≡ get_or ys c.args.row 0 * weight_of l (row_at form.rows c.args.row).terms = ap (λ (n : ℕ). n * weight_of l (capped c.most-most.result c.terms.result.now)) from ∙ ap (λ (n : ℕ). get_or ys c.args.row 0 * n) (sym weight) in
    let taken : c.args.to * weight_of l (capped c.most-most.result c.terms.result.now) ≡ c.args.to * weight_of l (row_at form.rows c.args.row).terms = ap (λ (n : ℕ). c.args.to * n) (sym weight) in
    omega (arith, can.0, can.1)

pub reprice-requires-clause-fits : goal.reprice-requires-clause-fits
reprice-requires-clause-fits g c = λ l low high.
    let s = c.self.inside in
    let kept = c.self.invariant.0 in
    let ys = s.multipliers.items in
    let form = counted_form s.saturations.items s.form in
    let origin = g.C.Coefficient.origin in
    let exists : c.args.row < length s.form.rows = subst (λ (m : MultipliersState). c.args.row < length m.form.rows) (sym c.self.view_is) c.requires.row in
    let row : c.args.row < length form.rows = omega (arith, length-counted s.saturations.items s.form.rows c.self.invariant.1.count) in
    let whole : IsWithinShare s.form s.share c.args.row c.args.to = subst (λ (m : MultipliersState). IsWithinShare m.form m.share c.args.row c.args.to) (sym c.self.view_is) c.requires.within in
    let within : IsWithinShare form s.share c.args.row c.args.to = share_counted form s.form s.share c.args.row c.args.to (kept.no_greater c.args.row row) whole in
    let from : c.index-from.result.now ≡ get_or ys c.args.row 0 = get_or_read ys c.args.row c.index-from.result.now (omega (arith, row, kept.count)) c.index-from.ensures 0 in
    let given_terms : (row_at s.form.rows c.args.row).terms ≡ c.terms.result.now = subst (λ found. IsSomeAnd found (λ (r : PositiveRow). r.terms ≡ c.terms.result.now)) (slice_get-get_or s.form.rows c.args.row (record { terms = []; degree = 0 }) exists) c.terms.ensures in
    let terms : (row_at form.rows c.args.row).terms ≡ capped c.most-most.result c.terms.result.now = subst (λ (m : MultipliersState). (row_at m.counted.rows c.args.row).terms ≡ capped c.most-most.result (row_at m.form.rows c.args.row).terms) (sym c.self.view_is) c.most-most.ensures ∙ ap (capped c.most-most.result) given_terms in
    let can = can-set origin s.scale form ys s.share c.args.row c.args.to l (get_or s.costs.items (literal_place l) 0) (counted-normal s.form s.saturations.items s.root s.lits.items c.facts.ensures.normal c.self.invariant.1) kept.count kept.shared (within_counted kept) (omega (arith, kept.scaled, ap (λ (n : ℕ). s.scale * n) kept.total_is)) row within (kept.costs_are.each l low (omega (arith, high, ap (λ (vs : List (Option Bool)). length vs) c.deref.ensures.value, kept.vars))) in
    let cost = ap (λ (xs : List ℕ). get_or xs (literal_place l) 0) c.deref_mut.ensures.value in
    let weight = ap (λ (ts : List PositiveTerm). weight_of l ts) terms in
    let given : c.index-from.result.now * weight_of l (capped c.most-most.result c.terms.result.now) ≡ get_or ys c.args.row 0 * weight_of l (row_at form.rows c.args.row).terms = ap (λ (n : ℕ). n * weight_of l (capped c.most-most.result c.terms.result.now)) from ∙ ap (λ (n : ℕ). get_or ys c.args.row 0 * n) (sym weight) in
    let taken : c.args.to * weight_of l (capped c.most-most.result c.terms.result.now) ≡ c.args.to * weight_of l (row_at form.rows c.args.row).terms = ap (λ (n : ℕ). c.args.to * n) (sym weight) in
    omega (arith, can.0, can.1)

pub mul-requires : goal.mul-requires
mul-requires g c =
    let s = c.self.inside in
    let kept = c.self.invariant.0 in
    let ys = s.multipliers.items in
    let form = counted_form s.saturations.items s.form in
    let origin = g.C.Coefficient.origin in
    let exists : c.args.row < length s.form.rows = subst (λ (m : MultipliersState). c.args.row < length m.form.rows) (sym c.self.view_is) c.requires.row in
    let row : c.args.row < length form.rows = omega (arith, length-counted s.saturations.items s.form.rows c.self.invariant.1.count) in
    let whole : IsWithinShare s.form s.share c.args.row c.args.to = subst (λ (m : MultipliersState). IsWithinShare m.form m.share c.args.row c.args.to) (sym c.self.view_is) c.requires.within in
    let within : IsWithinShare form s.share c.args.row c.args.to = share_counted form s.form s.share c.args.row c.args.to (kept.no_greater c.args.row row) whole in
    let from : c.index-from.result.now ≡ get_or ys c.args.row 0 = get_or_read ys c.args.row c.index-from.result.now (omega (arith, row, kept.count)) c.index-from.ensures 0 in
    let degree : (row_at form.rows c.args.row).degree ≡ c.degree-degree.result = subst (λ (m : MultipliersState). (row_at m.counted.rows c.args.row).degree ≡ c.degree-degree.result) (sym c.self.view_is) (sym c.degree-degree.ensures) in
    let product : c.index-from.result.now * c.degree-degree.result ≡ get_or ys c.args.row 0 * (row_at form.rows c.args.row).degree = ap (λ (n : ℕ). n * c.degree-degree.result) from ∙ ap (λ (n : ℕ). get_or ys c.args.row 0 * n) (sym degree) in
    let new : c.args.to * c.degree-degree.result ≡ c.args.to * (row_at form.rows c.args.row).degree = ap (λ (n : ℕ). c.args.to * n) (sym degree) in
    let degrees = degrees-set form ys c.args.row c.args.to kept.count row in
    let now = promised-small form ys origin s.share kept.count kept.shared (within_counted kept) in
    let then = promised-small form (set ys c.args.row c.args.to) origin s.share (length-set ys c.args.row c.args.to ∙ kept.count) kept.shared (within-set form ys s.share c.args.row c.args.to kept.count (within_counted kept) within) in
    omega (arith, degrees.0, now, kept.degrees_are, g.C.Coefficient.origin_at_most, g.C.Coefficient.limit_at_least)

pub sub-requires : goal.sub-requires
sub-requires g c =
    let s = c.self.inside in
    let kept = c.self.invariant.0 in
    let ys = s.multipliers.items in
    let form = counted_form s.saturations.items s.form in
    let origin = g.C.Coefficient.origin in
    let exists : c.args.row < length s.form.rows = subst (λ (m : MultipliersState). c.args.row < length m.form.rows) (sym c.self.view_is) c.requires.row in
    let row : c.args.row < length form.rows = omega (arith, length-counted s.saturations.items s.form.rows c.self.invariant.1.count) in
    let whole : IsWithinShare s.form s.share c.args.row c.args.to = subst (λ (m : MultipliersState). IsWithinShare m.form m.share c.args.row c.args.to) (sym c.self.view_is) c.requires.within in
    let within : IsWithinShare form s.share c.args.row c.args.to = share_counted form s.form s.share c.args.row c.args.to (kept.no_greater c.args.row row) whole in
    let from : c.index-from.result.now ≡ get_or ys c.args.row 0 = get_or_read ys c.args.row c.index-from.result.now (omega (arith, row, kept.count)) c.index-from.ensures 0 in
    let degree : (row_at form.rows c.args.row).degree ≡ c.degree-degree.result = subst (λ (m : MultipliersState). (row_at m.counted.rows c.args.row).degree ≡ c.degree-degree.result) (sym c.self.view_is) (sym c.degree-degree.ensures) in
    let product : c.index-from.result.now * c.degree-degree.result ≡ get_or ys c.args.row 0 * (row_at form.rows c.args.row).degree = ap (λ (n : ℕ). n * c.degree-degree.result) from ∙ ap (λ (n : ℕ). get_or ys c.args.row 0 * n) (sym degree) in
    let new : c.args.to * c.degree-degree.result ≡ c.args.to * (row_at form.rows c.args.row).degree = ap (λ (n : ℕ). c.args.to * n) (sym degree) in
    let degrees = degrees-set form ys c.args.row c.args.to kept.count row in
    let now = promised-small form ys origin s.share kept.count kept.shared (within_counted kept) in
    let then = promised-small form (set ys c.args.row c.args.to) origin s.share (length-set ys c.args.row c.args.to ∙ kept.count) kept.shared (within-set form ys s.share c.args.row c.args.to kept.count (within_counted kept) within) in
    omega (arith, degrees.0, now, kept.degrees_are, c.mul.ensures)

pub mul-requires-2 : goal.mul-requires-2
mul-requires-2 g c =
    let s = c.self.inside in
    let kept = c.self.invariant.0 in
    let ys = s.multipliers.items in
    let form = counted_form s.saturations.items s.form in
    let origin = g.C.Coefficient.origin in
    let exists : c.args.row < length s.form.rows = subst (λ (m : MultipliersState). c.args.row < length m.form.rows) (sym c.self.view_is) c.requires.row in
    let row : c.args.row < length form.rows = omega (arith, length-counted s.saturations.items s.form.rows c.self.invariant.1.count) in
    let whole : IsWithinShare s.form s.share c.args.row c.args.to = subst (λ (m : MultipliersState). IsWithinShare m.form m.share c.args.row c.args.to) (sym c.self.view_is) c.requires.within in
    let within : IsWithinShare form s.share c.args.row c.args.to = share_counted form s.form s.share c.args.row c.args.to (kept.no_greater c.args.row row) whole in
    let from : c.index-from.result.now ≡ get_or ys c.args.row 0 = get_or_read ys c.args.row c.index-from.result.now (omega (arith, row, kept.count)) c.index-from.ensures 0 in
    let degree : (row_at form.rows c.args.row).degree ≡ c.degree-degree.result = subst (λ (m : MultipliersState). (row_at m.counted.rows c.args.row).degree ≡ c.degree-degree.result) (sym c.self.view_is) (sym c.degree-degree.ensures) in
    let product : c.index-from.result.now * c.degree-degree.result ≡ get_or ys c.args.row 0 * (row_at form.rows c.args.row).degree = ap (λ (n : ℕ). n * c.degree-degree.result) from ∙ ap (λ (n : ℕ). get_or ys c.args.row 0 * n) (sym degree) in
    let new : c.args.to * c.degree-degree.result ≡ c.args.to * (row_at form.rows c.args.row).degree = ap (λ (n : ℕ). c.args.to * n) (sym degree) in
    let degrees = degrees-set form ys c.args.row c.args.to kept.count row in
    let now = promised-small form ys origin s.share kept.count kept.shared (within_counted kept) in
    let then = promised-small form (set ys c.args.row c.args.to) origin s.share (length-set ys c.args.row c.args.to ∙ kept.count) kept.shared (within-set form ys s.share c.args.row c.args.to kept.count (within_counted kept) within) in
    omega (arith, degrees.0, degrees.1, then, g.C.Coefficient.origin_at_most, g.C.Coefficient.limit_at_least)

pub add-self-inside-requires : goal.add-self-inside-requires
add-self-inside-requires g c =
    let s = c.self.inside in
    let kept = c.self.invariant.0 in
    let ys = s.multipliers.items in
    let form = counted_form s.saturations.items s.form in
    let origin = g.C.Coefficient.origin in
    let exists : c.args.row < length s.form.rows = subst (λ (m : MultipliersState). c.args.row < length m.form.rows) (sym c.self.view_is) c.requires.row in
    let row : c.args.row < length form.rows = omega (arith, length-counted s.saturations.items s.form.rows c.self.invariant.1.count) in
    let whole : IsWithinShare s.form s.share c.args.row c.args.to = subst (λ (m : MultipliersState). IsWithinShare m.form m.share c.args.row c.args.to) (sym c.self.view_is) c.requires.within in
    let within : IsWithinShare form s.share c.args.row c.args.to = share_counted form s.form s.share c.args.row c.args.to (kept.no_greater c.args.row row) whole in
    let from : c.index-from.result.now ≡ get_or ys c.args.row 0 = get_or_read ys c.args.row c.index-from.result.now (omega (arith, row, kept.count)) c.index-from.ensures 0 in
    let degree : (row_at form.rows c.args.row).degree ≡ c.degree-degree.result = subst (λ (m : MultipliersState). (row_at m.counted.rows c.args.row).degree ≡ c.degree-degree.result) (sym c.self.view_is) (sym c.degree-degree.ensures) in
    let product : c.index-from.result.now * c.degree-degree.result ≡ get_or ys c.args.row 0 * (row_at form.rows c.args.row).degree = ap (λ (n : ℕ). n * c.degree-degree.result) from ∙ ap (λ (n : ℕ). get_or ys c.args.row 0 * n) (sym degree) in
    let new : c.args.to * c.degree-degree.result ≡ c.args.to * (row_at form.rows c.args.row).degree = ap (λ (n : ℕ). c.args.to * n) (sym degree) in
    let degrees = degrees-set form ys c.args.row c.args.to kept.count row in
    let now = promised-small form ys origin s.share kept.count kept.shared (within_counted kept) in
    let then = promised-small form (set ys c.args.row c.args.to) origin s.share (length-set ys c.args.row c.args.to ∙ kept.count) kept.shared (within-set form ys s.share c.args.row c.args.to kept.count (within_counted kept) within) in
    omega (arith, degrees.0, degrees.1, then, kept.degrees_are, c.mul.ensures, c.mul-2.ensures, c.sub.ensures, g.C.Coefficient.origin_at_most, g.C.Coefficient.limit_at_least)

pub invariant_of-self : goal.invariant_of-self
invariant_of-self g c =
    let s = c.self.inside in
    let kept = c.self.invariant.0 in
    let ys = s.multipliers.items in
    let form = counted_form s.saturations.items s.form in
    let origin = g.C.Coefficient.origin in
    let exists : c.args.row < length s.form.rows = subst (λ (m : MultipliersState). c.args.row < length m.form.rows) (sym c.self.view_is) c.requires.row in
    let row : c.args.row < length form.rows = omega (arith, length-counted s.saturations.items s.form.rows c.self.invariant.1.count) in
    let whole : IsWithinShare s.form s.share c.args.row c.args.to = subst (λ (m : MultipliersState). IsWithinShare m.form m.share c.args.row c.args.to) (sym c.self.view_is) c.requires.within in
    let within : IsWithinShare form s.share c.args.row c.args.to = share_counted form s.form s.share c.args.row c.args.to (kept.no_greater c.args.row row) whole in
    let from : c.index-from.result.now ≡ get_or ys c.args.row 0 = get_or_read ys c.args.row c.index-from.result.now (omega (arith, row, kept.count)) c.index-from.ensures 0 in
    let given_terms : (row_at s.form.rows c.args.row).terms ≡ c.terms.result.now = subst (λ found. IsSomeAnd found (λ (r : PositiveRow). r.terms ≡ c.terms.result.now)) (slice_get-get_or s.form.rows c.args.row (record { terms = []; degree = 0 }) exists) c.terms.ensures in
    let terms : (row_at form.rows c.args.row).terms ≡ capped c.most-most.result c.terms.result.now = subst (λ (m : MultipliersState). (row_at m.counted.rows c.args.row).terms ≡ capped c.most-most.result (row_at m.form.rows c.args.row).terms) (sym c.self.view_is) c.most-most.ensures ∙ ap (capped c.most-most.result) given_terms in
    let degree : (row_at form.rows c.args.row).degree ≡ c.degree-degree.result = subst (λ (m : MultipliersState). (row_at m.counted.rows c.args.row).degree ≡ c.degree-degree.result) (sym c.self.view_is) (sym c.degree-degree.ensures) in
    let product : c.index-from.result.now * c.degree-degree.result ≡ get_or ys c.args.row 0 * (row_at form.rows c.args.row).degree = ap (λ (n : ℕ). n * c.degree-degree.result) from ∙ ap (λ (n : ℕ). get_or ys c.args.row 0 * n) (sym degree) in
    let new : c.args.to * c.degree-degree.result ≡ c.args.to * (row_at form.rows c.args.row).degree = ap (λ (n : ℕ). c.args.to * n) (sym degree) in
    let degrees = degrees-set form ys c.args.row c.args.to kept.count row in
    let now = promised-small form ys origin s.share kept.count kept.shared (within_counted kept) in
    let then = promised-small form (set ys c.args.row c.args.to) origin s.share (length-set ys c.args.row c.args.to ∙ kept.count) kept.shared (within-set form ys s.share c.args.row c.args.to kept.count (within_counted kept) within) in
    let count : length c.reprice.new.costs ≡ length s.costs.items = c.reprice.ensures.count ∙ ap (λ (xs : List ℕ). length xs) c.deref_mut.ensures.value in
    let back : take s.costs.len (c.reprice.new.costs ++ drop (length c.reprice.new.costs) s.costs.items) ≡ c.reprice.new.costs = changed_in_place s.costs.len c.reprice.new.costs s.costs.items count (omega (arith, s.costs.ok.0)) in
    let values = c.deref.ensures.value in
    let costs : AreReducedCosts origin s.scale form (set ys c.args.row c.args.to) c.reprice.new.costs = costs-set origin s.scale form ys s.costs.items c.reprice.new.costs c.args.row c.args.to kept.count row kept.costs_are count
    (λ l low high.
    let weight = ap (λ (ts : List PositiveTerm). weight_of l ts) terms in
    let given : c.index-from.result.now * weight_of l (capped c.most-most.result c.terms.result.now) ≡ get_or ys c.args.row 0 * weight_of l (row_at form.rows c.args.row).terms = ap (λ (n : ℕ). n * weight_of l (capped c.most-most.result c.terms.result.now)) from ∙ ap (λ (n : ℕ). get_or ys c.args.row 0 * n) (sym weight) in
    let taken : c.args.to * weight_of l (capped c.most-most.result c.terms.result.now) ≡ c.args.to * weight_of l (row_at form.rows c.args.row).terms = ap (λ (n : ℕ). c.args.to * n) (sym weight) in
    let cost = ap (λ (xs : List ℕ). get_or xs (literal_place l) 0) c.deref_mut.ensures.value in
    omega (arith, c.reprice.ensures.each l low (omega (arith, high, ap (λ (vs : List (Option Bool)). length vs) values, kept.vars)))) in (
      record {
        scale_from_one = kept.scale_from_one;
        total_is = kept.total_is;
        scaled = kept.scaled;
        shared = kept.shared;
        few = kept.few;
        count = length-set ys c.args.row c.args.to ∙ kept.count;
        one_each = length-set ys c.args.row c.args.to ∙ kept.one_each;
        no_greater = kept.no_greater;
        each_within = λ r h. within-set s.form ys s.share c.args.row c.args.to kept.one_each (λ q k. kept.each_within q (omega (arith, length-counted s.saturations.items s.form.rows c.self.invariant.1.count))) whole r (omega (arith, length-counted s.saturations.items s.form.rows c.self.invariant.1.count));
        degrees_are = omega (arith, degrees.0, degrees.1, kept.degrees_are, c.mul.ensures, c.mul-2.ensures, c.sub.ensures, c.add-self-inside.ensures);
        costs_are = subst (λ (xs : List ℕ). AreReducedCosts origin s.scale form (set ys c.args.row c.args.to) xs) (sym back) costs;
        vars = kept.vars;
        values_are = kept.values_are;
        sum_is = c.reprice.ensures.sum ∙ (ap (λ (vs : List (Option Bool)). parts c.reprice.new.costs vs) values ∙ ap (λ (xs : List ℕ). parts xs s.values.items) (sym back));
        changes_within = kept.changes_within;
      },
      c.self.invariant.1,
    )
