use Rattle.std.proofs.Common.{◌≡◌, ◌∙◌, List, subst}
use Rattle.pb_inst.specs.Literal.{Literal}
use Rattle.pb_normal.specs.NormalForm.{NormalForm}
use Rattle.pb_trail.specs.Completion.{HasNoCompletion}
use Rattle.pb_dual.specs.Multipliers.{MultipliersState}
use Rattle.pb_lagrange.proofs.relaxation.Relaxation.confirm.Goals as goal

pub returns-clause-no_completion : goal.returns-clause-no_completion
returns-clause-no_completion g c told =
    let own : HasNoCompletion c.catch_up.new.self.form.rows c.catch_up.new.self.trail = subst (λ (m : MultipliersState). HasNoCompletion m.form.rows m.trail) c.self.view_is (c.refutes.ensures.no_completion told) in
    let form : c.catch_up.new.self.form ≡ c.args.trail.now.form = c.catch_up.ensures.form ∙ c.requires.form_is in
    subst (λ (f : NormalForm). HasNoCompletion f.rows c.args.trail.now.trail) form (subst (λ (t : List Literal). HasNoCompletion c.catch_up.new.self.form.rows t) c.catch_up.ensures.trail own)
