use Rattle.std.proofs.Common.{◌≡◌, ◌∙◌, List, sym, subst}
use Rattle.std.specs.Prelude.{ℤ}
use Rattle.std.proofs.lemmas.Int.{to_z-of_z}
use mir.Val.{to_z, of_z}
use Rattle.pb_inst.proofs.NumberWidth.{number_width}
use Rattle.pb_inst.specs.Literal.{Literal}
use Rattle.pb_normal.specs.NormalForm.{NormalForm}
use Rattle.pb_dual.specs.Multipliers.{MultipliersState, IsBelowCosts}
use Rattle.pb_lagrange.proofs.relaxation.Relaxation.bound_at_hand.Goals as goal

pub returns-clause-bound : goal.returns-clause-bound
returns-clause-bound g c =
    let m = c.follow_to_end.new.self in let bound = c.bound.result in
    let back : to_z number_width (of_z number_width bound) ≡ bound = to_z-of_z number_width bound (record { sfits = c.bound.type_inv }) in
    let own : IsBelowCosts m.form m.trail bound = subst (λ (n : MultipliersState). IsBelowCosts n.form n.trail bound) c.self-2.view_is c.bound.ensures.bound in
    let form : m.form ≡ c.args.trail.now.form = c.follow_to_end.ensures.form ∙ c.requires.form_is in
    let here : IsBelowCosts c.args.trail.now.form c.args.trail.now.trail bound = subst (λ (f : NormalForm). IsBelowCosts f c.args.trail.now.trail bound) form (subst (λ (t : List Literal). IsBelowCosts m.form t bound) c.follow_to_end.ensures.trail own) in
    subst (λ (z : ℤ). IsBelowCosts c.args.trail.now.form c.args.trail.now.trail z) (sym back) here
