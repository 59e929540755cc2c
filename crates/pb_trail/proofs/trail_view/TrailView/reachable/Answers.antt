use Rattle.std.proofs.Common.{◌<◌, [], length, ap, arith}
use Rattle.pb_rows.specs.Constraints.{row_at}
use Rattle.pb_trail.specs.Tracked.{Tracked}
use Rattle.pb_trail.proofs.TrailLemmas.{reachable-le-total}
use Rattle.pb_trail.proofs.trail_view.TrailView.reachable.Goals as goal

pub returns-clause-fits : goal.returns-clause-fits
returns-clause-fits g c =
    let inside = c.self.inside in
    let rows = ap (λ (t : Tracked). length t.rows) c.self.view_is in
    let exists : c.args.row < length inside.tables.rows = omega arith in
    let most = reachable-le-total inside.trail.now.lits (row_at inside.tables.rows c.args.row).terms in
    omega (arith, (c.facts.ensures.limits c.args.row (record { terms = []; degree = 0 }) exists).1, c.self.invariant.sums c.args.row exists, c.sum.ensures)
