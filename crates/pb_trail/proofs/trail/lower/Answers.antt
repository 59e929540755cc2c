use Rattle.std.proofs.Common.{◌≡◌, ◌<◌, ℕ, arith, ap, ◌∙◌, get_or, length, length-set}
use Rattle.std.proofs.lemmas.List.{get_or_default}
use Rattle.pb_rows.specs.Occurrences.{Occurrence}
use Rattle.pb_rows.proofs.TableLemmas.{total_by-nil, total_by-within, lower_step}
use Rattle.pb_trail.proofs.trail.lower.Goals as goal

pub loop-occurrence-init : goal.loop-occurrence-init
loop-occurrence-init g c = λ r h. omega (arith, total_by-nil g.O.Occurs.occurrence r)

pub sub_assign-requires : goal.sub_assign-requires
sub_assign-requires g c =
    let i = c.loop-occurrence.occurrence-index in
    let list = c.args.occurrences.now in
    let item = c.occurrence-item.result in
    let f = g.O.Occurs.occurrence in
    let same : f item ≡ f (get_or list i item) = ap f c.occurrence-item.is in
    let row_is : c.row.result ≡ (f (get_or list i item)).row = c.row.ensures ∙ ap (λ (o : Occurrence). o.row) same in
    let exists : (f (get_or list i item)).row < length c.args.sums.now = c.requires.rows_exist i item c.loop-occurrence-test.true in
    let here : c.row.result < length c.loop-occurrence.sums = omega arith in
    let coef_is : c.coef.result ≡ (f (get_or list i item)).coef = c.coef.ensures ∙ ap (λ (o : Occurrence). o.coef) same in
    let within = total_by-within f list i item c.loop-occurrence-test.true in
    let old : get_or c.loop-occurrence.sums c.row.result c.index-sums-row.result ≡ get_or c.loop-occurrence.sums c.row.result 0 = get_or_default c.loop-occurrence.sums c.row.result c.index-sums-row.result 0 here in
    let at = ap (λ (k : ℕ). get_or c.loop-occurrence.sums k 0) row_is in
    let known = c.loop-occurrence.invariant (f (get_or list i item)).row (omega arith) in
    let asked = c.requires.enough (f (get_or list i item)).row exists in
    omega arith

pub loop-occurrence-preserved : goal.loop-occurrence-preserved
loop-occurrence-preserved g c = λ k h.
    let i = c.loop-occurrence.occurrence-index in
    let list = c.args.occurrences.now in
    let item = c.occurrence-item.result in
    let f = g.O.Occurs.occurrence in
    let same : f item ≡ f (get_or list i item) = ap f c.occurrence-item.is in
    let row_is : c.row.result ≡ (f (get_or list i item)).row = c.row.ensures ∙ ap (λ (o : Occurrence). o.row) same in
    let exists : (f (get_or list i item)).row < length c.args.sums.now = c.requires.rows_exist i item c.loop-occurrence-test.true in
    let here : c.row.result < length c.loop-occurrence.sums = omega arith in
    let coef_is : c.coef.result ≡ (f (get_or list i item)).coef = c.coef.ensures ∙ ap (λ (o : Occurrence). o.coef) same in
    let within = total_by-within f list i item c.loop-occurrence-test.true in
    let old : get_or c.loop-occurrence.sums c.row.result c.index-sums-row.result ≡ get_or c.loop-occurrence.sums c.row.result 0 = get_or_default c.loop-occurrence.sums c.row.result c.index-sums-row.result 0 here in
    let at = ap (λ (k : ℕ). get_or c.loop-occurrence.sums k 0) row_is in
    let known = c.loop-occurrence.invariant (f (get_or list i item)).row (omega arith) in
    let asked = c.requires.enough (f (get_or list i item)).row exists in
    lower_step f c.args.sums.now c.loop-occurrence.sums list i item c.row.result c.sub_assign.new.self c.loop-occurrence-test.true row_is here (omega (arith, c.sub_assign.ensures.after)) c.loop-occurrence.invariant k (omega (arith, length-set {A = ℕ}))
