use Rattle.std.proofs.Common.{◌≡◌, ℕ, ◌+◌, ◌<◌, length, get_or, None, ap, sym, subst, arith}
use Rattle.pb_normal.specs.NormalForm.{PositiveRow}
use Rattle.pb_rows.specs.Clauses.{unit_term}
use Rattle.pb_rows.specs.Constraints.{row_at}
use Rattle.pb_trail.specs.Trail.{value_on}
use Rattle.pb_trail.specs.Tracked.{TrailState}
use Rattle.pb_rows.proofs.TablesLemmas.{clause_term, clause_width}
use Rattle.pb_trail.proofs.Looking.{IsLookedAt, looked_at_none, looked_at_stays, looked_at_push, looked_at_all, value_is_none, value_is_some}
use Rattle.pb_trail.proofs.propagation.add_last.Goals as goal
use Rattle.pb_trail.proofs.propagation.add_last.Goals.{then-is_none, else-is_none}

pub loop-lit-init : goal.loop-lit-init
loop-lit-init g c = looked_at_none c.args.tables.now c.args.trail.now c.args.row 0 c.requires.up_to_date

pub loop-lit-preserved : goal.loop-lit-preserved
loop-lit-preserved g c =
    let tables = c.args.tables.now in
    let before = c.args.trail.now in
    let now = c.loop-lit.trail in
    let i = c.loop-lit.lit-index in
    let lit = c.lit-item.result in
    let t = unit_term lit in
    let row = c.clause-lit-items.ensures.lits in
    let within : i < length (row_at tables.rows c.args.row).terms = omega (arith, clause_width (row_at tables.rows c.args.row) c.clause-lit-items.result.now row) in
    let read : t ≡ get_or (row_at tables.rows c.args.row).terms i t = clause_term (row_at tables.rows c.args.row) c.clause-lit-items.result.now i lit row (omega arith) c.lit-item.is in
    let degree : (row_at tables.rows c.args.row).degree ≡ 1 = ap (λ (p : PositiveRow). p.degree) row in
    let P : TrailState → Type 0 = λ k. IsLookedAt tables before k c.args.row 0 (i + 1) in
    elim c.if-is_none.branch [
      | then-is_none w ↦
          (let unset : value_on now.lits lit.var ≡ None = value_is_none now.lits lit.var c.var.result c.value.result c.is_none.result c.var.ensures.value c.value.ensures c.is_none.ensures w.if-is_none.true in
          subst P (sym w.trail-is) (looked_at_push tables before now w.push.new.self c.args.row 0 i t c.loop-lit.invariant w.push.ensures.up_to_date w.push.ensures.pushed read c.requires.exists within (omega (arith, c.requires.slack)) (omega arith) unset))
      | else-is_none w ↦
          subst P (sym w.trail-is) (looked_at_stays tables before now c.args.row 0 i t c.loop-lit.invariant read within (λ unset. absurd (value_is_some now.lits lit.var c.var.result c.value.result c.is_none.result c.var.ensures.value c.value.ensures c.is_none.ensures w.if-is_none.false unset)))
    ]

pub returns-clause-settled : goal.returns-clause-settled
returns-clause-settled g c = λ head low.
    let tables = c.args.tables.now in
    let row = row_at tables.rows c.args.row in
    let degree : row.degree ≡ 1 = ap (λ (p : PositiveRow). p.degree) c.clause-lit-items.ensures.lits in
    let all : c.loop-lit.lit-index ≡ length row.terms = omega (arith, clause_width row c.clause-lit-items.result.now c.clause-lit-items.ensures.lits) in
    looked_at_all tables c.args.trail.now c.loop-lit.trail c.args.row 0 (subst (λ (k : ℕ). IsLookedAt tables c.args.trail.now c.loop-lit.trail c.args.row 0 k) all c.loop-lit.invariant) (omega (arith, c.requires.slack)) head low
