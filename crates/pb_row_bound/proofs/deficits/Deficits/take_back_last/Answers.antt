use Rattle.std.proofs.Common.{◌≡◌, ℕ, ◌+◌, ◌-◌, ◌<◌, ◌++◌, ◌∷◌, [], List, length, get_or, take, drop, ap, sym, subst, ◌∙◌, arith}
use Rattle.pb_inst.specs.Literal.{Literal}
use Rattle.pb_rows.specs.Constraints.{row_at}
use Rattle.pb_row_bound.specs.DisjointRows.{gain, loss}
use Rattle.pb_row_bound.specs.Deficits.{AreCounters}
use Rattle.pb_trail.specs.Tracked.{Tracked}
use Rattle.pb_normal.specs.Literals.{negation, weight_of}
use Rattle.pb_rows.proofs.IndexLemmas.{changed_in_place}
use Rattle.pb_row_bound.proofs.CounterLemmas.{counters-pop, can_leave}
use Rattle.pb_trail.proofs.PlaceLemmas.{at_place}
use Rattle.pb_row_bound.proofs.SpareLemmas.{reached-push}
use Rattle.pb_row_bound.proofs.deficits.Deficits.take_back_last.Goals as goal

pub leave-requires-clause-enough : goal.leave-requires-clause-enough
leave-requires-clause-enough g c = λ r h.
    let old = c.args.self.now in
    let s = c.args.trail.now in
    let l = c.literal-lit.result in
    let tables = c.tables-tables.result.now in
    let here = at_place s.vars s.trail (old.counted - 1) l c.facts-2.ensures.proper (omega (arith, c.requires.some, c.requires.deficits.within)) c.literal-lit.ensures.value in
    let P : Tracked → Type 0 = λ k. AreCounters g.C.Coefficient.limit k.form k.rows (take old.counted s.trail) old.paid old.by_row.items old.open_rows in
    let front = take (old.counted - 1) s.trail in
    let whole : take old.counted s.trail ≡ front ++ l ∷ [] = ap (λ (n : ℕ). take n s.trail) (let back : old.counted ≡ old.counted - 1 + 1 = omega (arith, c.requires.some) in back) ∙ here.1 in
    let counters = subst (λ (t : List Literal). AreCounters g.C.Coefficient.limit tables.form tables.rows t old.paid old.by_row.items old.open_rows) whole (subst P (sym c.tables-tables.ensures) c.requires.deficits.counters) in
    (can_leave tables.form tables.rows front old.paid old.by_row.items c.deref_mut.result.now old.open_rows l counters here.0 c.facts.ensures.limits c.deref_mut.ensures.value r h).0

pub leave-requires-clause-fits : goal.leave-requires-clause-fits
leave-requires-clause-fits g c = λ r h.
    let old = c.args.self.now in
    let s = c.args.trail.now in
    let l = c.literal-lit.result in
    let tables = c.tables-tables.result.now in
    let here = at_place s.vars s.trail (old.counted - 1) l c.facts-2.ensures.proper (omega (arith, c.requires.some, c.requires.deficits.within)) c.literal-lit.ensures.value in
    let P : Tracked → Type 0 = λ k. AreCounters g.C.Coefficient.limit k.form k.rows (take old.counted s.trail) old.paid old.by_row.items old.open_rows in
    let front = take (old.counted - 1) s.trail in
    let whole : take old.counted s.trail ≡ front ++ l ∷ [] = ap (λ (n : ℕ). take n s.trail) (let back : old.counted ≡ old.counted - 1 + 1 = omega (arith, c.requires.some) in back) ∙ here.1 in
    let counters = subst (λ (t : List Literal). AreCounters g.C.Coefficient.limit tables.form tables.rows t old.paid old.by_row.items old.open_rows) whole (subst P (sym c.tables-tables.ensures) c.requires.deficits.counters) in
    (can_leave tables.form tables.rows front old.paid old.by_row.items c.deref_mut.result.now old.open_rows l counters here.0 c.facts.ensures.limits c.deref_mut.ensures.value r h).1

pub sub_assign-requires : goal.sub_assign-requires
sub_assign-requires g c =
    let old = c.args.self.now in
    let s = c.args.trail.now in
    let l = c.literal-lit.result in
    let tables = c.tables-tables.result.now in
    let here = at_place s.vars s.trail (old.counted - 1) l c.facts-2.ensures.proper (omega (arith, c.requires.some, c.requires.deficits.within)) c.literal-lit.ensures.value in
    let P : Tracked → Type 0 = λ k. AreCounters g.C.Coefficient.limit k.form k.rows (take old.counted s.trail) old.paid old.by_row.items old.open_rows in
    let front = take (old.counted - 1) s.trail in
    let whole : take old.counted s.trail ≡ front ++ l ∷ [] = ap (λ (n : ℕ). take n s.trail) (let back : old.counted ≡ old.counted - 1 + 1 = omega (arith, c.requires.some) in back) ∙ here.1 in
    let counters = subst (λ (t : List Literal). AreCounters g.C.Coefficient.limit tables.form tables.rows t old.paid old.by_row.items old.open_rows) whole (subst P (sym c.tables-tables.ensures) c.requires.deficits.counters) in
    omega (arith, counters.paid_is, c.cost.ensures, reached-push front l tables.form.objective here.0)

pub returns-clause-deficits : goal.returns-clause-deficits
returns-clause-deficits g c =
    let old = c.args.self.now in
    let s = c.args.trail.now in
    let l = c.literal-lit.result in
    let tables = c.tables-tables.result.now in
    let here = at_place s.vars s.trail (old.counted - 1) l c.facts-2.ensures.proper (omega (arith, c.requires.some, c.requires.deficits.within)) c.literal-lit.ensures.value in
    let P : Tracked → Type 0 = λ k. AreCounters g.C.Coefficient.limit k.form k.rows (take old.counted s.trail) old.paid old.by_row.items old.open_rows in
    let front = take (old.counted - 1) s.trail in
    let whole : take old.counted s.trail ≡ front ++ l ∷ [] = ap (λ (n : ℕ). take n s.trail) (let back : old.counted ≡ old.counted - 1 + 1 = omega (arith, c.requires.some) in back) ∙ here.1 in
    let counters = subst (λ (t : List Literal). AreCounters g.C.Coefficient.limit tables.form tables.rows t old.paid old.by_row.items old.open_rows) whole (subst P (sym c.tables-tables.ensures) c.requires.deficits.counters) in
    let value = c.deref_mut.ensures.value in
    let long = ap (λ (xs : List ℕ). length xs) value in
    let count : length c.leave.new.deficits ≡ length old.by_row.items = c.leave.ensures.count ∙ long in
    let back : take old.by_row.len (c.leave.new.deficits ++ drop (length c.leave.new.deficits) old.by_row.items) ≡ c.leave.new.deficits = changed_in_place old.by_row.len c.leave.new.deficits old.by_row.items count (omega (arith, old.by_row.ok.0)) in
    let changed : (r : ℕ) → r < length old.by_row.items → get_or c.leave.new.deficits r 0 + loss tables.form.objective (negation l) (row_at tables.rows r).terms ≡ get_or old.by_row.items r 0 + gain tables.form.objective l (row_at tables.rows r).terms = λ r h. (let read = ap (λ (xs : List ℕ). get_or xs r 0) value in omega (arith, c.leave.ensures.changed r (omega arith))) in
    let pays : old.paid - c.cost.result + weight_of l tables.form.objective ≡ old.paid = omega (arith, counters.paid_is, c.cost.ensures, reached-push front l tables.form.objective here.0) in
    let next = counters-pop tables.form tables.rows front old.paid (old.paid - c.cost.result) old.by_row.items c.leave.new.deficits old.open_rows c.leave.new.open_rows l counters here.0 pays count changed c.leave.ensures.open_rows in
    let Q : List ℕ → Type 0 = λ xs. AreCounters g.C.Coefficient.limit tables.form tables.rows front (old.paid - c.cost.result) xs c.leave.new.open_rows in
    let S : Tracked → Type 0 = λ k. AreCounters g.C.Coefficient.limit k.form k.rows front (old.paid - c.cost.result) (take old.by_row.len (c.leave.new.deficits ++ drop (length c.leave.new.deficits) old.by_row.items)) c.leave.new.open_rows in
    record {
      within = omega (arith, c.requires.deficits.within);
      counters = rw c.sub_assign.ensures.after (subst S c.tables-tables.ensures (subst Q (sym back) next));
    }
