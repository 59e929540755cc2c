use Rattle.std.proofs.Common.{◌≡◌, ◌∙◌, ◌≤◌, ℕ, ap, sym, subst}
use Rattle.std.specs.Prelude.{All}
use Rattle.pb_inst.specs.Literal.{Literal}
use Rattle.pb_inst.specs.Problem.{Problem}
use Rattle.pb_inst.specs.declared.limits.TheConstants.{MAX_VARS}
use Rattle.pb_search.specs.Form.{IsFormOf}
use Rattle.pb_questions.proofs.questions.Questions.search_for.Goals as goal

pub run-outcome-requires : goal.run-outcome-requires
run-outcome-requires c =
    let told : c.self.inside.instance.now ≡ c.recall.new.self = c.self.view_is ∙ c.first_best.ensures.unchanged in
    let unchanged : c.self.inside.instance.now ≡ c.args.self.now = told ∙ c.recall.ensures.unchanged in
    let same : c.self.inside.instance.now ≡ c.in_ok-best.best.problem = told ∙ sym c.in_ok-best.ensures.same_instance in
    let vars : c.self.inside.search.vars ≡ c.self.inside.instance.now.vars = c.self.invariant.0.vars in
    record {
      form_of = subst (λ (p : Problem). IsFormOf p c.self.inside.search) same c.self.invariant.0;
      few = subst (λ (n : ℕ). n ≤ MAX_VARS) (sym vars) c.vars.ensures.proper.variable_count;
      variables = subst (λ (n : ℕ). All (λ (l : Literal). l.var ≤ n) c.args.cube.now) (sym (vars ∙ ap (λ (p : Problem). p.vars) unchanged)) c.requires;
    }
