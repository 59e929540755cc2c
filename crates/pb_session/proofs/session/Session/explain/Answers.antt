use Rattle.std.proofs.Common.{◌∙◌, subst}
use Rattle.pb_inst.specs.Problem.{Problem}
use Rattle.pb_questions.specs.Explained.{IsExplained}
use Rattle.pb_session.proofs.session.Session.explain.Goals as goal

pub returns-clause-explained : goal.returns-clause-explained
returns-clause-explained c =
    subst (λ (p : Problem). IsExplained p c.args.assumptions.now c.in_ok-explanation.field-0) (c.asked-questions.ensures ∙ (c.instance.view_is ∙ c.in_ok-instance.ensures.ready)) c.in_ok-explanation.ensures.explained
