use Rattle.std.proofs.Common.{◌≡◌, ◌+◌, ◌<◌, ◌≤◌, Bool, true, cond, List, [], length, take, min, All, ap, sym, subst, ◌∙◌, arith}
use Rattle.std.specs.Prelude.{IsSomeAnd}
use Rattle.std.proofs.lemmas.Option.{slice_get-get_or}
use Rattle.std.proofs.lemmas.List.{take_all}
use Rattle.pb_inst.specs.Literal.{Literal}
use Rattle.pb_normal.specs.declared.terms.PositiveTerm.{PositiveTerm}
use Rattle.pb_normal.specs.NormalForm.{PositiveRow}
use Rattle.pb_rows.specs.Constraints.{row_at}
use Rattle.pb_trail.specs.Trail.{is_true, reached}
use Rattle.pb_dual.specs.Saturation.{capped}
use Rattle.pb_dual.specs.Multipliers.{MultipliersState}
use Rattle.pb_dual.proofs.SaturationLemmas.{reached-none, reached-next, reached-most}
use Rattle.pb_dual.proofs.multipliers.Multipliers.degree_beside.Goals.{then-is_true, else-is_true}
use Rattle.pb_dual.proofs.multipliers.Multipliers.degree_beside.Goals as goal

pub loop-term-init : goal.loop-term-init
loop-term-init g c = (let none = reached-none c.args.self.now.trail in omega arith)

pub is_true-requires : goal.is_true-requires
is_true-requires g c =
    let s = c.self.inside in
    let items = c.terms-term-items.result.now in
    let exists : c.args.row < length s.form.rows = subst (λ (m : MultipliersState). c.args.row < length m.form.rows) (sym c.self.view_is) c.requires.row in
    let d : PositiveRow = record { terms = []; degree = 0 } in
    let terms : (row_at s.form.rows c.args.row).terms ≡ items = subst (λ found. IsSomeAnd found (λ (r : PositiveRow). r.terms ≡ items)) (slice_get-get_or s.form.rows c.args.row d exists) c.terms-term-items.ensures in
    let P : PositiveTerm → Type 0 = λ t. (1 ≤ t.lit.var) × (t.lit.var ≤ s.form.vars) in
    let all : All P items = subst (λ (ts : List PositiveTerm). All P ts) terms (c.facts.ensures.normal.shape.rows c.args.row d exists).terms.variables in
    let within : P c.term-item.result = subst P (sym c.term-item.is) (all c.loop-term.term-index c.term-item.result c.loop-term-test.true) in
    let var = ap (λ (l : Literal). l.var) c.lit.ensures in
    (omega (arith, within.0, var), omega (arith, within.1, var, ap (λ (m : MultipliersState). m.form.vars) c.self.view_is))

pub add-degree-requires : goal.add-degree-requires
add-degree-requires g c =
    let s = c.self.inside in
    let trail = c.args.self.now.trail in
    let items = c.terms-term-items.result.now in
    let t = c.term-item.result in
    let most = c.args.most in
    let d : PositiveRow = record { terms = []; degree = 0 } in
    let exists : c.args.row < length s.form.rows = subst (λ (m : MultipliersState). c.args.row < length m.form.rows) (sym c.self.view_is) c.requires.row in
    let terms : (row_at s.form.rows c.args.row).terms ≡ items = subst (λ found. IsSomeAnd found (λ (r : PositiveRow). r.terms ≡ items)) (slice_get-get_or s.form.rows c.args.row d exists) c.terms-term-items.ensures in
    let fits : most + reached trail (row_at s.form.rows c.args.row).terms ≤ (row_at s.form.rows c.args.row).degree = subst (λ (m : MultipliersState). most + reached trail (row_at m.form.rows c.args.row).terms ≤ (row_at m.form.rows c.args.row).degree) (sym c.self.view_is) c.requires.fits in
    let told : is_true trail t.lit ≡ true = ap (is_true trail) (sym c.lit.ensures) ∙ (sym c.is_true.ensures ∙ c.if-is_true.true) in
    let next : reached trail (capped most (take (c.loop-term.term-index + 1) items)) ≡ reached trail (capped most (take c.loop-term.term-index items)) + min t.coef most = reached-next trail most items c.loop-term.term-index t c.loop-term-test.true c.term-item.is ∙ ap (λ (b : Bool). reached trail (capped most (take c.loop-term.term-index items)) + cond b (min t.coef most) 0) told in
    let upto = reached-most trail most items (c.loop-term.term-index + 1) in
    let whole = ap (reached trail) terms in
    let small = (c.facts.ensures.fits.rows c.args.row d exists) in
    omega (arith, c.min.ensures, c.coef.ensures, c.loop-term.invariant, small.0)

pub loop-term-preserved : goal.loop-term-preserved
loop-term-preserved g c =
    let trail = c.args.self.now.trail in
    let items = c.terms-term-items.result.now in
    let t = c.term-item.result in
    let most = c.args.most in
    let told : c.is_true.result ≡ is_true trail t.lit = c.is_true.ensures ∙ ap (is_true trail) c.lit.ensures in
    let next : reached trail (capped most (take (c.loop-term.term-index + 1) items)) ≡ reached trail (capped most (take c.loop-term.term-index items)) + cond c.is_true.result (min t.coef most) 0 = reached-next trail most items c.loop-term.term-index t c.loop-term-test.true c.term-item.is ∙ ap (λ (b : Bool). reached trail (capped most (take c.loop-term.term-index items)) + cond b (min t.coef most) 0) (sym told) in
    elim c.if-is_true.branch [
      | then-is_true w ↦ (let picked : cond c.is_true.result (min t.coef most) 0 ≡ min t.coef most = ap (λ (b : Bool). cond b (min t.coef most) 0) w.if-is_true.true in omega (arith, w.degree-is, w.add-degree.ensures, w.min.ensures, w.coef.ensures, c.loop-term.invariant))
      | else-is_true w ↦ (let picked : cond c.is_true.result (min t.coef most) 0 ≡ 0 = ap (λ (b : Bool). cond b (min t.coef most) 0) w.if-is_true.false in omega (arith, w.degree-is, c.loop-term.invariant))
    ]

pub returns : goal.returns
returns g c =
    let s = c.self.inside in
    let trail = c.args.self.now.trail in
    let items = c.terms-term-items.result.now in
    let most = c.args.most in
    let d : PositiveRow = record { terms = []; degree = 0 } in
    let exists : c.args.row < length s.form.rows = subst (λ (m : MultipliersState). c.args.row < length m.form.rows) (sym c.self.view_is) c.requires.row in
    let terms : (row_at s.form.rows c.args.row).terms ≡ items = subst (λ found. IsSomeAnd found (λ (r : PositiveRow). r.terms ≡ items)) (slice_get-get_or s.form.rows c.args.row d exists) c.terms-term-items.ensures in
    let all : take c.loop-term.term-index items ≡ (row_at s.form.rows c.args.row).terms = take_all c.loop-term.term-index items (omega (arith, c.loop-term-test.false)) ∙ sym terms in
    let inner : c.loop-term.degree ≡ most + reached trail (capped most (row_at s.form.rows c.args.row).terms) = c.loop-term.invariant ∙ ap (λ (ts : List PositiveTerm). most + reached trail (capped most ts)) all in
    subst (λ (m : MultipliersState). c.loop-term.degree ≡ most + reached trail (capped most (row_at m.form.rows c.args.row).terms)) c.self.view_is inner
