use Rattle.std.proofs.Common.{◌≡◌, List, sym, subst, arith, inr}
use Rattle.std.specs.Prelude.{ℤ}
use Rattle.std.proofs.lemmas.Int.{ints, to_z-of_z}
use mir.Val.{to_z, of_z}
use Rattle.pb_inst.proofs.NumberWidth.{number_width}
use Rattle.pb_inst.specs.Literal.{Literal}
use Rattle.pb_normal.specs.NormalForm.{NormalForm}
use Rattle.pb_dual.specs.Multipliers.{MultipliersState, IsBelowCosts}
use Rattle.pb_lagrange.proofs.relaxation.Relaxation.raise.Goals as goal

pub returns-clause-bound : goal.returns-clause-bound
returns-clause-bound g c =
    let relaxed = c.bound-relaxed.result in
    let back : to_z number_width (of_z number_width relaxed) ≡ relaxed = to_z-of_z number_width relaxed (record { sfits = c.bound-relaxed.type_inv }) in
    let own : IsBelowCosts c.use_at-is_used.new.self.form c.use_at-is_used.new.self.trail relaxed = subst (λ (m : MultipliersState). IsBelowCosts m.form m.trail relaxed) c.self-2.view_is c.bound-relaxed.ensures.bound in
    let form : c.use_at-is_used.new.self.form ≡ c.args.trail.now.form = c.use_at-is_used.ensures.beside.form_is in
    let trail : c.use_at-is_used.new.self.trail ≡ c.args.trail.now.trail = c.use_at-is_used.ensures.followed c.if-not-is_used.false in
    let here : IsBelowCosts c.args.trail.now.form c.args.trail.now.trail relaxed = subst (λ (f : NormalForm). IsBelowCosts f c.args.trail.now.trail relaxed) form (subst (λ (t : List Literal). IsBelowCosts c.use_at-is_used.new.self.form t relaxed) trail own) in
    inr (omega (arith, ints, c.if-relaxed-bound.false), subst (λ (z : ℤ). IsBelowCosts c.args.trail.now.form c.args.trail.now.trail z) (sym back) here)
