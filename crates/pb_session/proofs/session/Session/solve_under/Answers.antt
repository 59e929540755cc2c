use Rattle.std.proofs.Common.{◌≡◌, ◌∙◌, ap, sym}
use Rattle.std.specs.Option.{is_some}
use Rattle.pb_inst.specs.Problem.{Problem}
use Rattle.pb_session.specs.Told.{Told}
use Rattle.pb_session.proofs.EndLemmas.{found_told, status_is}
use Rattle.pb_session.proofs.session.Session.solve_under.Goals as goal

pub returns-clause-status : goal.returns-clause-status
returns-clause-status c =
    let p = c.args.self.now.problem in
    let same : c.search_under-searched.new.questions ≡ p = c.search_under-searched.ensures.unchanged ∙ (c.asked-questions.ensures ∙ (c.instance.view_is ∙ c.in_ok-instance.ensures.ready)) in
    status_is p c.in_ok-found.field-0.cut _ _ c.keep_found.new.self.found c.ended_as-status.result
    (c.has_objective-has_objective.ensures ∙ ap (λ (q : Problem). is_some q.objective) same)
    (c.is_some.ensures ∙ (found_told c.in_ok-found.field-0.found ∙ sym (ap (λ (t : Told). is_some t.found) c.keep_found.ensures)))
    c.ended_as-status.ensures.whole c.ended_as-status.ensures.cut
