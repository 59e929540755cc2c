use Rattle.std.proofs.Common.{◌≡◌, ◌<◌, ℕ, List, Bool, true, false, length, take, replicate, cond, refl, ap, subst, ◌∙◌, arith, sum_by}
use Rattle.std.proofs.lemmas.List.{take_all, length-replicate}
use Rattle.pb_inst.specs.Literal.{Literal}
use Rattle.pb_normal.specs.declared.terms.PositiveTerm.{PositiveTerm}
use Rattle.pb_rows.specs.Constraints.{row_at}
use Rattle.pb_row_bound.specs.DisjointRows.{row_contributions, marked_by, is_picked}
use Rattle.pb_row_bound.specs.Deficits.{AreCounters}
use Rattle.pb_bits.specs.RowSet.{HasNoneBetween}
use Rattle.pb_trail.specs.Tracked.{Tracked}
use Rattle.pb_row_bound.proofs.DisjointBound.{ArePickable, row_contributions_in_total}
use Rattle.pb_row_bound.proofs.DisjointLemmas.{length-marked_by}
use Rattle.pb_row_bound.proofs.ContributionLemmas.{row_contributions-next, row_contributions-step, row_contributions-end, none-needed, open_rows-count, pickable}
use Rattle.pb_row_bound.proofs.row_contributions.row_contributions.Goals as goal

pub loop-row-init : goal.loop-row-init
loop-row-init g c =
    let s = c.args.trail.now in
    let same : c.clear.new.self ≡ replicate s.vars false = c.clear.ensures ∙ ap (λ (n : ℕ). replicate n false) c.requires.marks in
    record {
      left = (let start = ap (λ (ms : List Bool). row_contributions s.form.objective s.trail ms s.rows) same in omega arith);
      count = ap (λ (ms : List Bool). length ms) same ∙ length-replicate s.vars false;
      within = omega arith;
    }

pub pick-requires-clause-row : goal.pick-requires-clause-row
pick-requires-clause-row g c =
    let s = c.args.trail.now in
    let objective = s.form.objective in
    let deficits = c.args.deficits.now in
    let full : take deficits.counted s.trail ≡ s.trail = take_all deficits.counted s.trail (omega (arith, c.requires.counted)) in
    let counters = subst (λ (t : List Literal). AreCounters g.C.Coefficient.limit s.form s.rows t deficits.paid deficits.by_row.items deficits.open_rows) full c.requires.deficits.counters in
    let count = open_rows-count s.form s.rows s.trail deficits.paid deficits.by_row.items deficits.open_rows counters in
    let there = c.in-Some.ensures.some c.in-Some.row refl in
    let row = c.in-Some.row in
    let marks = c.loop-row.marks in
    omega arith

pub add_assign-requires : goal.add_assign-requires
add_assign-requires g c =
    let s = c.args.trail.now in
    let objective = s.form.objective in
    let deficits = c.args.deficits.now in
    let full : take deficits.counted s.trail ≡ s.trail = take_all deficits.counted s.trail (omega (arith, c.requires.counted)) in
    let counters = subst (λ (t : List Literal). AreCounters g.C.Coefficient.limit s.form s.rows t deficits.paid deficits.by_row.items deficits.open_rows) full c.requires.deficits.counters in
    let count = open_rows-count s.form s.rows s.trail deficits.paid deficits.by_row.items deficits.open_rows counters in
    let there = c.in-Some.ensures.some c.in-Some.row refl in
    let row = c.in-Some.row in
    let marks = c.loop-row.marks in
    let passed = row_contributions-next objective s.trail marks s.rows c.loop-row.from row there.0 (omega arith) (none-needed s.form s.rows s.trail deficits.paid deficits.by_row.items deficits.open_rows c.loop-row.from row counters (omega arith) there.2) in
    let step = row_contributions-step objective s.trail marks c.pick.new.marks s.rows row c.pick.result (omega arith) c.pick.ensures.contribution c.pick.ensures.marks in
    let P : Tracked → Type 0 = λ k. ArePickable k.form k.rows × (k.vars ≡ k.form.vars) × (sum_by (λ (t : PositiveTerm). t.coef) k.form.objective < g.C.Coefficient.limit) in
    let tables = c.tables.result.now in
    let facts : P s = subst P c.tables.ensures (pickable tables.form tables.vars tables.rows c.facts.ensures.normal c.facts.ensures.form c.facts.ensures.rising c.facts.ensures.rows, c.facts.ensures.form, c.facts.ensures.objective) in
    let whole = ap (λ (n : ℕ). row_contributions objective s.trail (replicate n false) s.rows) facts.1 in
    omega (arith, c.loop-row.invariant.left, row_contributions_in_total s.form s.rows s.trail facts.0, facts.2)

pub overflow_add-from : goal.overflow_add-from
overflow_add-from g c =
    let s = c.args.trail.now in
    let objective = s.form.objective in
    let deficits = c.args.deficits.now in
    let full : take deficits.counted s.trail ≡ s.trail = take_all deficits.counted s.trail (omega (arith, c.requires.counted)) in
    let counters = subst (λ (t : List Literal). AreCounters g.C.Coefficient.limit s.form s.rows t deficits.paid deficits.by_row.items deficits.open_rows) full c.requires.deficits.counters in
    let count = open_rows-count s.form s.rows s.trail deficits.paid deficits.by_row.items deficits.open_rows counters in
    let there = c.in-Some.ensures.some c.in-Some.row refl in
    let row = c.in-Some.row in
    let marks = c.loop-row.marks in
    omega (arith, c.args.deficits.now.by_row.small, c.args.deficits.now.by_row.ok.0, counters.count)

pub loop-row-smaller : goal.loop-row-smaller
loop-row-smaller g c =
    let s = c.args.trail.now in
    let objective = s.form.objective in
    let deficits = c.args.deficits.now in
    let full : take deficits.counted s.trail ≡ s.trail = take_all deficits.counted s.trail (omega (arith, c.requires.counted)) in
    let counters = subst (λ (t : List Literal). AreCounters g.C.Coefficient.limit s.form s.rows t deficits.paid deficits.by_row.items deficits.open_rows) full c.requires.deficits.counters in
    let count = open_rows-count s.form s.rows s.trail deficits.paid deficits.by_row.items deficits.open_rows counters in
    let there = c.in-Some.ensures.some c.in-Some.row refl in
    let row = c.in-Some.row in
    let marks = c.loop-row.marks in
    omega arith

pub loop-row-preserved : goal.loop-row-preserved
loop-row-preserved g c =
    let s = c.args.trail.now in
    let objective = s.form.objective in
    let deficits = c.args.deficits.now in
    let full : take deficits.counted s.trail ≡ s.trail = take_all deficits.counted s.trail (omega (arith, c.requires.counted)) in
    let counters = subst (λ (t : List Literal). AreCounters g.C.Coefficient.limit s.form s.rows t deficits.paid deficits.by_row.items deficits.open_rows) full c.requires.deficits.counters in
    let count = open_rows-count s.form s.rows s.trail deficits.paid deficits.by_row.items deficits.open_rows counters in
    let there = c.in-Some.ensures.some c.in-Some.row refl in
    let row = c.in-Some.row in
    let marks = c.loop-row.marks in
    let passed = row_contributions-next objective s.trail marks s.rows c.loop-row.from row there.0 (omega arith) (none-needed s.form s.rows s.trail deficits.paid deficits.by_row.items deficits.open_rows c.loop-row.from row counters (omega arith) there.2) in
    let step = row_contributions-step objective s.trail marks c.pick.new.marks s.rows row c.pick.result (omega arith) c.pick.ensures.contribution c.pick.ensures.marks in
    let long : length c.pick.new.marks ≡ length marks = ap (λ (ms : List Bool). length ms) c.pick.ensures.marks ∙ by_case (is_picked objective s.trail marks (row_at s.rows row)) s.trail marks (row_at s.rows row).terms in
    record {
      left = omega (arith, c.loop-row.invariant.left);
      count = long ∙ c.loop-row.invariant.count;
      within = omega arith;
    }
  where
    by_case : (b : Bool) (trail : List Literal) (marks : List Bool) (terms : List PositiveTerm) → length (cond b (marked_by trail marks terms) marks) ≡ length marks
    by_case true trail marks terms = length-marked_by trail terms marks
    by_case false trail marks terms = refl

pub returns-clause-contributions : goal.returns-clause-contributions
returns-clause-contributions g c =
    let s = c.args.trail.now in
    let objective = s.form.objective in
    let deficits = c.args.deficits.now in
    let full : take deficits.counted s.trail ≡ s.trail = take_all deficits.counted s.trail (omega (arith, c.requires.counted)) in
    let counters = subst (λ (t : List Literal). AreCounters g.C.Coefficient.limit s.form s.rows t deficits.paid deficits.by_row.items deficits.open_rows) full c.requires.deficits.counters in
    let count = open_rows-count s.form s.rows s.trail deficits.paid deficits.by_row.items deficits.open_rows counters in
    let none = c.in_default.ensures.none refl in
    let passed = row_contributions-next objective s.trail c.loop-row.marks s.rows c.loop-row.from (length s.rows) c.loop-row.invariant.within (omega arith) (none-needed s.form s.rows s.trail deficits.paid deficits.by_row.items deficits.open_rows c.loop-row.from (length s.rows) counters (omega arith) (subst (λ (n : ℕ). HasNoneBetween deficits.open_rows c.loop-row.from n) count none)) in
    omega (arith, c.loop-row.invariant.left, row_contributions-end objective s.trail c.loop-row.marks s.rows)
