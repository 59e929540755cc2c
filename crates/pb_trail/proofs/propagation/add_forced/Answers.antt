use Rattle.std.proofs.Common.{◌++◌, ◌∷◌, [], ◌≡◌, ℕ, ◌+◌, ◌<◌, List, length, get_or, None, ap, sym, subst, ◌∙◌, arith}
use Rattle.pb_inst.specs.Literal.{Literal}
use Rattle.pb_normal.specs.declared.terms.PositiveTerm.{PositiveTerm}
use Rattle.pb_rows.specs.Constraints.{row_at}
use Rattle.pb_trail.specs.Trail.{value_on}
use Rattle.pb_trail.specs.Tracked.{TrailState}
use Rattle.pb_trail.specs.Propagation.{nothing, IsSettledFrom}
use Rattle.pb_count.proofs.CounterLemmas.{is_below-true, is_below-false}
use Rattle.pb_trail.proofs.Looking.{IsLookedAt, looked_at_none, looked_at_stays, looked_at_push, looked_at_all, value_is_none, value_is_some}
use Rattle.pb_trail.proofs.propagation.add_forced.Goals as goal
use Rattle.pb_trail.proofs.propagation.add_forced.Goals.{then-is_below+then-is_none, else-is_below, else-is_below-via-then-is_below+else-is_none, else-is_below-via-else-is_below}

pub loop-term-init : goal.loop-term-init
loop-term-init g c = looked_at_none c.args.tables.now c.args.trail.now c.args.row c.args.slack c.requires.up_to_date

pub loop-term-preserved : goal.loop-term-preserved
loop-term-preserved g c =
    let tables = c.args.tables.now in
    let before = c.args.trail.now in
    let now = c.loop-term.trail in
    let t = c.term-item.result in
    let read : t ≡ get_or (row_at tables.rows c.args.row).terms c.loop-term.term-index t = c.term-item.is ∙ ap (λ (ts : List PositiveTerm). get_or ts c.loop-term.term-index t) c.form_terms-terms.ensures.terms in
    let count : length c.form_terms-terms.result.now ≡ length (row_at tables.rows c.args.row).terms = ap (λ (ts : List PositiveTerm). length ts) c.form_terms-terms.ensures.terms in
    let within : c.loop-term.term-index < length (row_at tables.rows c.args.row).terms = omega arith in
    let P : TrailState → Type 0 = λ k. IsLookedAt tables before k c.args.row c.args.slack (c.loop-term.term-index + 1) in
    elim c.if-is_below.branch [
      | then-is_below+then-is_none w ↦
          (let unset : value_on now.lits t.lit.var ≡ None = value_is_none now.lits t.lit.var w.var.result w.value.result w.is_none.result (w.var.ensures.value ∙ ap (λ (l : Literal). l.var) c.lit-lit.ensures) w.value.ensures w.is_none.ensures w.if-is_none.true in
          subst P (sym w.trail-is) (looked_at_push tables before now w.push.new.self c.args.row c.args.slack c.loop-term.term-index t c.loop-term.invariant w.push.ensures.up_to_date (w.push.ensures.pushed ∙ ap (λ (l : Literal). now.lits ++ l ∷ []) c.lit-lit.ensures) read c.requires.exists within c.requires.slack (omega (arith, is_below-true c.is_below.result c.args.slack c.coef.result c.is_below.ensures w.if-is_below.true, c.coef.ensures)) unset))
      | else-is_below w ↦ elim w.else-is_below.branch [
        | else-is_below-via-then-is_below+else-is_none w' ↦
            subst P (sym w.trail-is) (looked_at_stays tables before now c.args.row c.args.slack c.loop-term.term-index t c.loop-term.invariant read within (λ unset. absurd (value_is_some now.lits t.lit.var w'.var.result w'.value.result w'.is_none.result (w'.var.ensures.value ∙ ap (λ (l : Literal). l.var) c.lit-lit.ensures) w'.value.ensures w'.is_none.ensures w'.if-is_none.false unset)))
        | else-is_below-via-else-is_below w' ↦
            subst P (sym w.trail-is) (looked_at_stays tables before now c.args.row c.args.slack c.loop-term.term-index t c.loop-term.invariant read within (λ unset. omega (arith, is_below-false c.is_below.result c.args.slack c.coef.result c.is_below.ensures w'.if-is_below.false, c.coef.ensures)))
      ]
    ]

pub returns-then-knows-clause-forced : goal.returns-then-knows-clause-forced
returns-then-knows-clause-forced g c = nothing

pub returns-else-long-2-clause-settled : goal.returns-else-long-2-clause-settled
returns-else-long-2-clause-settled g c = λ head low. looked_at_all c.args.tables.now c.args.trail.now c.loop-term.trail c.args.row c.args.slack
    (let count : length c.form_terms-terms.result.now ≡ length (row_at c.args.tables.now.rows c.args.row).terms = ap (λ (ts : List PositiveTerm). length ts) c.form_terms-terms.ensures.terms in
    let all : c.loop-term.term-index ≡ length (row_at c.args.tables.now.rows c.args.row).terms = omega arith in
    subst (λ (k : ℕ). IsLookedAt c.args.tables.now c.args.trail.now c.loop-term.trail c.args.row c.args.slack k) all c.loop-term.invariant) c.requires.slack head low

pub returns-then-long-2-clause-settled : goal.returns-then-long-2-clause-settled
returns-then-long-2-clause-settled g c = λ head low. subst (λ (k : TrailState). IsSettledFrom head k.lits (row_at c.args.tables.now.rows c.args.row)) (sym c.note.ensures.rest) (looked_at_all c.args.tables.now c.args.trail.now c.loop-term.trail c.args.row c.args.slack
    (let count : length c.form_terms-terms.result.now ≡ length (row_at c.args.tables.now.rows c.args.row).terms = ap (λ (ts : List PositiveTerm). length ts) c.form_terms-terms.ensures.terms in
    let all : c.loop-term.term-index ≡ length (row_at c.args.tables.now.rows c.args.row).terms = omega arith in
    subst (λ (k : ℕ). IsLookedAt c.args.tables.now c.args.trail.now c.loop-term.trail c.args.row c.args.slack k) all c.loop-term.invariant) c.requires.slack head low)
