use Rattle.std.proofs.Common.{◌≡◌, ◌<◌, ◌∙◌, ℕ, Bool, ap, arith, get_or, length, set, nat_lt}
use Rattle.std.proofs.lemmas.List.{get_or_read}
use Rattle.pb_row_bound.proofs.DeficitLemmas.{are_open_none, are_open_next, are_open_all, are_open_so_far}
use Rattle.pb_row_bound.proofs.deficits.open_rows_of.Goals as goal

pub loop-row-init : goal.loop-row-init
loop-row-init g c = are_open_none g.C.Coefficient.limit c.in_ok-open_rows.open_rows c.args.deficits.now c.in_ok-open_rows.ensures

pub put-requires : goal.put-requires
put-requires g c = omega (arith, are_open_so_far g.C.Coefficient.limit c.loop-row.open_rows c.args.deficits.now c.loop-row.row (omega arith) c.loop-row.invariant)

pub loop-row-preserved : goal.loop-row-preserved
loop-row-preserved g c =
    let here : c.loop-row.row < length c.args.deficits.now = omega (arith, c.loop-row-test.true) in
    let read : c.index-deficits-row.result ≡ get_or c.args.deficits.now c.loop-row.row 0 = get_or_read c.args.deficits.now c.loop-row.row c.index-deficits-row.result here c.index-deficits-row.is 0 in
    let tested : c.is_below.result ≡ nat_lt g.C.Coefficient.limit c.index-deficits-row.result = c.is_below.ensures ∙ ap (λ (n : ℕ). nat_lt n c.index-deficits-row.result) c.limit.ensures in
    are_open_next g.C.Coefficient.limit c.loop-row.open_rows c.put.new.self c.args.deficits.now c.loop-row.row c.index-deficits-row.result here read c.loop-row.invariant (c.put.ensures ∙ ap (λ (b : Bool). set c.loop-row.open_rows c.loop-row.row b) tested)

pub returns : goal.returns
returns g c = are_open_all g.C.Coefficient.limit c.loop-row.open_rows c.args.deficits.now c.loop-row.row (omega arith) c.loop-row.invariant
