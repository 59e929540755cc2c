use Rattle.std.proofs.Common.{◌≡◌, List, subst}
use Rattle.pb_inst.specs.Literal.{Literal}
use Rattle.pb_normal.specs.NormalForm.{NormalForm}
use Rattle.pb_trail.specs.Completion.{HasNoCompletion}
use Rattle.pb_dual.specs.Multipliers.{MultipliersState}
use Rattle.pb_lagrange.proofs.relaxation.Relaxation.improve_multipliers.Goals as goal

pub returns-clause-no_completion : goal.returns-clause-no_completion
returns-clause-no_completion g c told =
    let own : HasNoCompletion c.use_at-is_used.new.self.form.rows c.use_at-is_used.new.self.trail = subst (λ (m : MultipliersState). HasNoCompletion m.form.rows m.trail) c.self-2.view_is (c.refutes.ensures.no_completion c.if-not-refutes.false) in
    let form : c.use_at-is_used.new.self.form ≡ c.args.trail.now.form = c.use_at-is_used.ensures.beside.form_is in
    let trail : c.use_at-is_used.new.self.trail ≡ c.args.trail.now.trail = c.use_at-is_used.ensures.followed c.if-not-is_used.false in
    subst (λ (f : NormalForm). HasNoCompletion f.rows c.args.trail.now.trail) form (subst (λ (t : List Literal). HasNoCompletion c.use_at-is_used.new.self.form.rows t) trail own)
