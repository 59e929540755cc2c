use Rattle.std.proofs.Common.{[], ap, subst, ◌∙◌, arith}
use Rattle.pb_row_bound.specs.Deficits.{AreCounters, are_open}
use Rattle.pb_trail.specs.Tracked.{Tracked}
use Rattle.pb_row_bound.proofs.CounterLemmas.{counters-nil}
use Rattle.pb_row_bound.proofs.deficits.Deficits.new.Goals as goal

pub returns : goal.returns
returns g c =
    let P : Tracked → Type 0 = λ s. AreCounters g.C.Coefficient.limit s.form s.rows [] 0 c.in_ok-by_row.by_row.items c.in_ok-open_rows.open_rows in
    let tables = c.tables.result.now in
    record {
      within = omega arith;
      counters = rw c.of.ensures (subst P c.tables.ensures (counters-nil tables.form tables.rows c.in_ok-by_row.by_row.items c.in_ok-open_rows.open_rows c.in_ok-by_row.ensures.count c.in_ok-by_row.ensures.each (c.in_ok-open_rows.ensures ∙ ap (are_open g.C.Coefficient.limit) c.deref.ensures.value)));
    }
