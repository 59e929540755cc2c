use Rattle.std.proofs.Common.{◌≡◌, ◌<◌, ℕ, arith, ap, ◌∙◌, get_or, length, length-set}
use Rattle.std.proofs.lemmas.List.{get_or_default}
use Rattle.pb_rows.specs.Occurrences.{Occurrence}
use Rattle.pb_row_bound.proofs.DeficitLemmas.{are_open-put, are_open-room}
use Rattle.pb_rows.proofs.TableLemmas.{total_by-nil, total_by-within, lower_step}
use Rattle.pb_row_bound.proofs.deficits.lower.Goals as goal

pub loop-occurrence-init : goal.loop-occurrence-init
loop-occurrence-init g c = record { lowered = λ r h. omega (arith, total_by-nil g.O.Occurs.occurrence r); open_rows = c.requires.open_rows }

pub sub_assign-requires : goal.sub_assign-requires
sub_assign-requires g c =
    let i = c.loop-occurrence.occurrence-index in
    let list = c.args.occurrences.now in
    let item = c.occurrence-item.result in
    let f = g.O.Occurs.occurrence in
    let same : f item ≡ f (get_or list i item) = ap f c.occurrence-item.is in
    let row_is : c.row-row.result ≡ (f (get_or list i item)).row = c.row-row.ensures ∙ ap (λ (o : Occurrence). o.row) same in
    let exists : (f (get_or list i item)).row < length c.args.deficits.now = c.requires.rows_exist i item c.loop-occurrence-test.true in
    let here : c.row-row.result < length c.loop-occurrence.deficits = omega arith in
    let coef_is : c.coef.result ≡ (f (get_or list i item)).coef = c.coef.ensures ∙ ap (λ (o : Occurrence). o.coef) same in
    let within = total_by-within f list i item c.loop-occurrence-test.true in
    let old : get_or c.loop-occurrence.deficits c.row-row.result c.index-deficits-row.result ≡ get_or c.loop-occurrence.deficits c.row-row.result 0 = get_or_default c.loop-occurrence.deficits c.row-row.result c.index-deficits-row.result 0 here in
    let at = ap (λ (k : ℕ). get_or c.loop-occurrence.deficits k 0) row_is in
    let known = c.loop-occurrence.invariant.lowered (f (get_or list i item)).row (omega arith) in
    let asked = c.requires.enough (f (get_or list i item)).row exists in
    omega arith

pub put-requires : goal.put-requires
put-requires g c =
    let i = c.loop-occurrence.occurrence-index in
    let list = c.args.occurrences.now in
    let item = c.occurrence-item.result in
    let f = g.O.Occurs.occurrence in
    let same : f item ≡ f (get_or list i item) = ap f c.occurrence-item.is in
    let row_is : c.row-row.result ≡ (f (get_or list i item)).row = c.row-row.ensures ∙ ap (λ (o : Occurrence). o.row) same in
    let exists : (f (get_or list i item)).row < length c.args.deficits.now = c.requires.rows_exist i item c.loop-occurrence-test.true in
    let here : c.row-row.result < length c.loop-occurrence.deficits = omega arith in
    omega (arith, are_open-room g.C.Coefficient.limit c.loop-occurrence.open_rows c.loop-occurrence.deficits c.loop-occurrence.invariant.open_rows)

pub loop-occurrence-preserved : goal.loop-occurrence-preserved
loop-occurrence-preserved g c =
    let i = c.loop-occurrence.occurrence-index in
    let list = c.args.occurrences.now in
    let item = c.occurrence-item.result in
    let f = g.O.Occurs.occurrence in
    let same : f item ≡ f (get_or list i item) = ap f c.occurrence-item.is in
    let row_is : c.row-row.result ≡ (f (get_or list i item)).row = c.row-row.ensures ∙ ap (λ (o : Occurrence). o.row) same in
    let exists : (f (get_or list i item)).row < length c.args.deficits.now = c.requires.rows_exist i item c.loop-occurrence-test.true in
    let here : c.row-row.result < length c.loop-occurrence.deficits = omega arith in
    let coef_is : c.coef.result ≡ (f (get_or list i item)).coef = c.coef.ensures ∙ ap (λ (o : Occurrence). o.coef) same in
    let within = total_by-within f list i item c.loop-occurrence-test.true in
    let old : get_or c.loop-occurrence.deficits c.row-row.result c.index-deficits-row.result ≡ get_or c.loop-occurrence.deficits c.row-row.result 0 = get_or_default c.loop-occurrence.deficits c.row-row.result c.index-deficits-row.result 0 here in
    let at = ap (λ (k : ℕ). get_or c.loop-occurrence.deficits k 0) row_is in
    let known = c.loop-occurrence.invariant.lowered (f (get_or list i item)).row (omega arith) in
    let asked = c.requires.enough (f (get_or list i item)).row exists in
    record {
      lowered = λ k h. lower_step f c.args.deficits.now c.loop-occurrence.deficits list i item c.row-row.result c.sub_assign.new.self c.loop-occurrence-test.true row_is here (omega (arith, c.sub_assign.ensures.after)) c.loop-occurrence.invariant.lowered k (omega (arith, length-set {A = ℕ}));
      open_rows = are_open-put g.C.Coefficient.limit c.loop-occurrence.open_rows c.put.new.self c.loop-occurrence.deficits c.row-row.result c.sub_assign.new.self c.limit.result c.index-deficits-row-in-loop-occurrence.result c.is_below.result c.loop-occurrence.invariant.open_rows here c.limit.ensures c.index-deficits-row-in-loop-occurrence.is c.is_below.ensures c.put.ensures;
    }
