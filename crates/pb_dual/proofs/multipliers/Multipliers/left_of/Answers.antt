use Rattle.std.proofs.Common.{◌≡◌, ℕ, ◌+◌, ◌-◌, ◌<◌, ◌≤◌, Bool, cond, List, [], length, take, All, ap, sym, subst, ◌∙◌, arith}
use Rattle.std.specs.Prelude.{IsSomeAnd}
use Rattle.std.proofs.lemmas.Option.{slice_get-get_or}
use Rattle.std.proofs.lemmas.List.{take_all}
use Rattle.pb_inst.specs.Literal.{Literal}
use Rattle.pb_normal.specs.declared.terms.PositiveTerm.{PositiveTerm}
use Rattle.pb_normal.specs.NormalForm.{PositiveRow}
use Rattle.pb_rows.specs.Constraints.{row_at}
use Rattle.pb_trail.specs.Trail.{is_true, reached}
use Rattle.pb_dual.specs.Saturation.{left_of}
use Rattle.pb_dual.specs.Multipliers.{MultipliersState}
use Rattle.pb_dual.proofs.SaturationLemmas.{reached-none, reached-step}
use Rattle.pb_dual.proofs.multipliers.Multipliers.left_of.Goals.{then-is_true, else-is_true}
use Rattle.pb_dual.proofs.multipliers.Multipliers.left_of.Goals as goal

pub loop-term-init : goal.loop-term-init
loop-term-init g c = (let none = reached-none c.args.self.now.trail in omega arith)

pub is_true-requires : goal.is_true-requires
is_true-requires g c =
    let s = c.self.inside in
    let items = c.terms-term-items.result.now in
    let exists : c.args.row < length s.form.rows = subst (λ (m : MultipliersState). c.args.row < length m.form.rows) (sym c.self.view_is) c.requires in
    let d : PositiveRow = record { terms = []; degree = 0 } in
    let terms : (row_at s.form.rows c.args.row).terms ≡ items = subst (λ found. IsSomeAnd found (λ (r : PositiveRow). r.terms ≡ items)) (slice_get-get_or s.form.rows c.args.row d exists) c.terms-term-items.ensures in
    let P : PositiveTerm → Type 0 = λ t. (1 ≤ t.lit.var) × (t.lit.var ≤ s.form.vars) in
    let all : All P items = subst (λ (ts : List PositiveTerm). All P ts) terms (c.facts.ensures.normal.shape.rows c.args.row d exists).terms.variables in
    let within : P c.term-item.result = subst P (sym c.term-item.is) (all c.loop-term.term-index c.term-item.result c.loop-term-test.true) in
    let var = ap (λ (l : Literal). l.var) c.lit.ensures in
    (omega (arith, within.0, var), omega (arith, within.1, var, ap (λ (m : MultipliersState). m.form.vars) c.self.view_is))

pub loop-term-preserved : goal.loop-term-preserved
loop-term-preserved g c =
    let trail = c.args.self.now.trail in
    let items = c.terms-term-items.result.now in
    let t = c.term-item.result in
    let told : c.is_true.result ≡ is_true trail t.lit = c.is_true.ensures ∙ ap (is_true trail) c.lit.ensures in
    let next : reached trail (take (c.loop-term.term-index + 1) items) ≡ reached trail (take c.loop-term.term-index items) + cond c.is_true.result t.coef 0 = reached-step trail items c.loop-term.term-index t c.loop-term-test.true c.term-item.is ∙ ap (λ (b : Bool). reached trail (take c.loop-term.term-index items) + cond b t.coef 0) (sym told) in
    elim c.if-is_true.branch [
      | then-is_true w ↦ (let picked : cond c.is_true.result t.coef 0 ≡ t.coef = ap (λ (b : Bool). cond b t.coef 0) w.if-is_true.true in omega (arith, w.left-is, w.above-left.ensures, w.coef.ensures, c.loop-term.invariant))
      | else-is_true w ↦ (let picked : cond c.is_true.result t.coef 0 ≡ 0 = ap (λ (b : Bool). cond b t.coef 0) w.if-is_true.false in omega (arith, w.left-is, c.loop-term.invariant))
    ]

pub returns : goal.returns
returns g c =
    let s = c.self.inside in
    let trail = c.args.self.now.trail in
    let items = c.terms-term-items.result.now in
    let d : PositiveRow = record { terms = []; degree = 0 } in
    let exists : c.args.row < length s.form.rows = subst (λ (m : MultipliersState). c.args.row < length m.form.rows) (sym c.self.view_is) c.requires in
    let terms : (row_at s.form.rows c.args.row).terms ≡ items = subst (λ found. IsSomeAnd found (λ (r : PositiveRow). r.terms ≡ items)) (slice_get-get_or s.form.rows c.args.row d exists) c.terms-term-items.ensures in
    let degree : (row_at s.form.rows c.args.row).degree ≡ c.degree-left.result = subst (λ found. IsSomeAnd found (λ (r : PositiveRow). r.degree ≡ c.degree-left.result)) (slice_get-get_or s.form.rows c.args.row d exists) c.degree-left.ensures in
    let all : take c.loop-term.term-index items ≡ (row_at s.form.rows c.args.row).terms = take_all c.loop-term.term-index items (omega (arith, c.loop-term-test.false)) ∙ sym terms in
    let inner : c.loop-term.left ≡ left_of trail (row_at s.form.rows c.args.row) = c.loop-term.invariant ∙ (ap (λ (ts : List PositiveTerm). c.degree-left.result - reached trail ts) all ∙ ap (λ (n : ℕ). n - reached trail (row_at s.form.rows c.args.row).terms) (sym degree)) in
    subst (λ (m : MultipliersState). c.loop-term.left ≡ left_of trail (row_at m.form.rows c.args.row)) c.self.view_is inner
