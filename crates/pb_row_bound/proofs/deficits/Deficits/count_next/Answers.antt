use Rattle.std.proofs.Common.{◌≡◌, ℕ, ◌+◌, ◌<◌, ◌++◌, List, length, get_or, take, drop, ap, sym, subst, ◌∙◌, arith}
use Rattle.pb_inst.specs.Literal.{Literal}
use Rattle.pb_rows.specs.Constraints.{row_at}
use Rattle.pb_row_bound.specs.DisjointRows.{gain, loss}
use Rattle.pb_row_bound.specs.Deficits.{AreCounters}
use Rattle.pb_trail.specs.Tracked.{Tracked}
use Rattle.pb_normal.specs.Literals.{negation}
use Rattle.pb_rows.proofs.IndexLemmas.{changed_in_place}
use Rattle.pb_row_bound.proofs.CounterLemmas.{counters-push, can_join, paid_within}
use Rattle.pb_trail.proofs.PlaceLemmas.{at_place}
use Rattle.pb_row_bound.proofs.deficits.Deficits.count_next.Goals as goal

pub join-requires-clause-enough : goal.join-requires-clause-enough
join-requires-clause-enough g c = λ r h.
    let old = c.args.self.now in
    let s = c.args.trail.now in
    let l = c.literal-lit.result in
    let tables = c.tables-tables.result.now in
    let here = at_place s.vars s.trail (old.counted) l c.len-length.ensures.proper (omega arith) c.literal-lit.ensures.value in
    let P : Tracked → Type 0 = λ k. AreCounters g.C.Coefficient.limit k.form k.rows (take old.counted s.trail) old.paid old.by_row.items old.open_rows in
    let counters = subst P (sym c.tables-tables.ensures) c.requires.deficits.counters in
    (can_join tables.form tables.rows (take old.counted s.trail) old.paid old.by_row.items c.deref_mut.result.now old.open_rows l counters here.0 c.facts.ensures.limits c.deref_mut.ensures.value r h).0

pub join-requires-clause-fits : goal.join-requires-clause-fits
join-requires-clause-fits g c = λ r h.
    let old = c.args.self.now in
    let s = c.args.trail.now in
    let l = c.literal-lit.result in
    let tables = c.tables-tables.result.now in
    let here = at_place s.vars s.trail (old.counted) l c.len-length.ensures.proper (omega arith) c.literal-lit.ensures.value in
    let P : Tracked → Type 0 = λ k. AreCounters g.C.Coefficient.limit k.form k.rows (take old.counted s.trail) old.paid old.by_row.items old.open_rows in
    let counters = subst P (sym c.tables-tables.ensures) c.requires.deficits.counters in
    (can_join tables.form tables.rows (take old.counted s.trail) old.paid old.by_row.items c.deref_mut.result.now old.open_rows l counters here.0 c.facts.ensures.limits c.deref_mut.ensures.value r h).1

pub add_assign-requires : goal.add_assign-requires
add_assign-requires g c =
    let old = c.args.self.now in
    let s = c.args.trail.now in
    let l = c.literal-lit.result in
    let tables = c.tables-tables.result.now in
    let here = at_place s.vars s.trail (old.counted) l c.len-length.ensures.proper (omega arith) c.literal-lit.ensures.value in
    let P : Tracked → Type 0 = λ k. AreCounters g.C.Coefficient.limit k.form k.rows (take old.counted s.trail) old.paid old.by_row.items old.open_rows in
    let counters = subst P (sym c.tables-tables.ensures) c.requires.deficits.counters in
    omega (arith, counters.paid_is, c.cost.ensures, paid_within tables.form (take old.counted s.trail) l here.0, c.facts.ensures.normal.limits.coefficients)

pub returns-clause-deficits : goal.returns-clause-deficits
returns-clause-deficits g c =
    let old = c.args.self.now in
    let s = c.args.trail.now in
    let l = c.literal-lit.result in
    let tables = c.tables-tables.result.now in
    let here = at_place s.vars s.trail (old.counted) l c.len-length.ensures.proper (omega arith) c.literal-lit.ensures.value in
    let P : Tracked → Type 0 = λ k. AreCounters g.C.Coefficient.limit k.form k.rows (take old.counted s.trail) old.paid old.by_row.items old.open_rows in
    let counters = subst P (sym c.tables-tables.ensures) c.requires.deficits.counters in
    let value = c.deref_mut.ensures.value in
    let long = ap (λ (xs : List ℕ). length xs) value in
    let count : length c.join.new.deficits ≡ length old.by_row.items = c.join.ensures.count ∙ long in
    let back : take old.by_row.len (c.join.new.deficits ++ drop (length c.join.new.deficits) old.by_row.items) ≡ c.join.new.deficits = changed_in_place old.by_row.len c.join.new.deficits old.by_row.items count (omega (arith, old.by_row.ok.0)) in
    let changed : (r : ℕ) → r < length old.by_row.items → get_or c.join.new.deficits r 0 + gain tables.form.objective l (row_at tables.rows r).terms ≡ get_or old.by_row.items r 0 + loss tables.form.objective (negation l) (row_at tables.rows r).terms = λ r h. (let read = ap (λ (xs : List ℕ). get_or xs r 0) value in omega (arith, c.join.ensures.changed r (omega arith))) in
    let next = counters-push tables.form tables.rows (take old.counted s.trail) old.paid (old.paid + c.cost.result) old.by_row.items c.join.new.deficits old.open_rows c.join.new.open_rows l counters here.0 (ap (λ (n : ℕ). old.paid + n) c.cost.ensures) count changed c.join.ensures.open_rows in
    let Q : List ℕ → Type 0 = λ xs. AreCounters g.C.Coefficient.limit tables.form tables.rows (take (old.counted + 1) s.trail) (old.paid + c.cost.result) xs c.join.new.open_rows in
    let R : List Literal → Type 0 = λ t. AreCounters g.C.Coefficient.limit tables.form tables.rows t (old.paid + c.cost.result) c.join.new.deficits c.join.new.open_rows in
    let S : Tracked → Type 0 = λ k. AreCounters g.C.Coefficient.limit k.form k.rows (take (old.counted + 1) s.trail) (old.paid + c.cost.result) (take old.by_row.len (c.join.new.deficits ++ drop (length c.join.new.deficits) old.by_row.items)) c.join.new.open_rows in
    record {
      within = omega arith;
      counters = rw c.add_assign.ensures.after (subst S c.tables-tables.ensures (subst Q (sym back) (subst R (sym here.1) next)));
    }
