use Rattle.std.proofs.Common.{◌∙◌, sym, subst}
use Rattle.pb_questions.specs.declared.seeking.Sought.{Sought}
use Rattle.pb_questions.specs.Sought.{IsAnswerTo}
use Rattle.pb_questions.proofs.UnderLemmas.{found_within, none_within}
use Rattle.pb_questions.proofs.questions.Questions.seek.Goals as goal
use Rattle.pb_questions.proofs.questions.Questions.seek.Goals.{then-holds_within, else-holds_within, then-answer, else-answer}

pub returns-clause-answer : goal.returns-clause-answer
returns-clause-answer c =
    let answer = c.in_ok-answer.answer in
    elim c.if-holds_within.branch [
      | then-holds_within w ↦ subst (λ (s : Sought). IsAnswerTo c.args.self.now c.args.cube.now c.args.bound s) (sym w.result-is)
          (c.in_ok-answer.ensures.same_instance, found_within c.args.self.now c.args.cube.now c.args.bound answer.best.held c.in_ok-answer.ensures.under (c.holds_within.ensures.yes w.if-holds_within.true))
      | else-holds_within w ↦ elim w.if-answer.branch [
        | then-answer v ↦ subst (λ (s : Sought). IsAnswerTo c.args.self.now c.args.cube.now c.args.bound s) (sym (w.result-is ∙ v.result-is)) tt
        | else-answer v ↦ subst (λ (s : Sought). IsAnswerTo c.args.self.now c.args.cube.now c.args.bound s) (sym (w.result-is ∙ v.result-is))
            (none_within c.args.self.now c.args.cube.now c.args.bound answer.best.held (c.in_ok-answer.ensures.least v.if-answer.false) (c.holds_within.ensures.no w.if-holds_within.false))
      ]
    ]
