use Rattle.std.proofs.Common.{◌≡◌, length, sym, arith}
use Rattle.pb_rows.proofs.LimitLemmas.{limits-next}
use Rattle.pb_rows.proofs.rows.limits_of.Goals as goal

pub loop-row-preserved : goal.loop-row-preserved
loop-row-preserved g c = rw c.in_ok-push.ensures.items (limits-next c.args.form.now.rows c.loop-row.row c.loop-row.limits.items c.limits_at.result c.loop-row.invariant c.limits_at.ensures)

pub returns : goal.returns
returns g c =
    let all : c.loop-row.row ≡ length c.args.form.now.rows = omega arith in
    rw (sym all) c.loop-row.invariant
