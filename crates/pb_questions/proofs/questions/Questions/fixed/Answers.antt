use Rattle.std.proofs.Common.{◌≡◌, ◌≤◌, ◌∙◌, List, Option, ap, sym, subst, ℤ}
use Rattle.std.specs.Prelude.{All}
use Rattle.std.specs.Result.{IfOk}
use Rattle.pb_inst.specs.Literal.{Literal}
use Rattle.pb_inst.specs.Problem.{Problem}
use Rattle.pb_questions.specs.declared.fixing.Among.{Among}
use Rattle.pb_questions.specs.Fixed.{AreStatusesOf, AreUnknown, IsAskedAbout}
use Rattle.pb_questions.specs.Sought.{IsWithin}
use Rattle.pb_questions.specs.Under.{named_literals, HoldsLeastUnder}
use Rattle.pb_questions.proofs.FixedLemmas.{first_feasible, first_least, no_assignment, statuses_of_feasible, without_first_answer, statuses_of_cost}
use Rattle.pb_questions.proofs.UnderLemmas.{named_variables}
use Rattle.pb_questions.proofs.questions.Questions.fixed.Goals as goal
use Rattle.pb_questions.proofs.questions.Questions.fixed.Goals.{in-Feasible, in-Least-2}

pub search_for-requires : goal.search_for-requires
search_for-requires c =
    subst (λ (x : List Literal). All (λ l. l.var ≤ c.args.self.now.vars) x) (sym (c.deref.ensures.value ∙ c.in_ok-named.ensures)) (named_variables c.args.self.now.vars c.args.assumptions.now)

pub returns-in_default-clause-answer : goal.returns-in_default-clause-answer
returns-in_default-clause-answer c =
    let p = c.args.self.now in let assumed = c.args.assumptions.now in let held = c.in_ok-answer.answer.best.held in
    let same = c.deref.ensures.value ∙ c.in_ok-named.ensures in
    without_first_answer p assumed c.args.among held c.in_ok-answer.answer.cut c.without_first.result
    (λ uncut. subst (λ (l : List Literal). HoldsLeastUnder p l held) same (c.in_ok-answer.ensures.least uncut))
    (no_assignment held (sym c.in_default.ensures.value))
    (λ cut. subst (λ (q : Problem). IfOk c.without_first.result (AreUnknown q.vars)) c.search_for.ensures.unchanged (c.without_first.ensures.cut cut))
    c.without_first.ensures.whole

pub statuses-requires-clause-variables : goal.statuses-requires-clause-variables
statuses-requires-clause-variables c =
    subst (λ (q : Problem). All (λ l. l.var ≤ q.vars) c.in_ok-named.named.items) (sym c.search_for.ensures.unchanged)
    (subst (λ (x : List Literal). All (λ l. l.var ≤ c.args.self.now.vars) x) (sym c.in_ok-named.ensures) (named_variables c.args.self.now.vars c.args.assumptions.now))

pub statuses-requires-clause-first : goal.statuses-requires-clause-first
statuses-requires-clause-first c =
    let p = c.args.self.now in let cube = c.deref.result.now in let held = c.in_ok-answer.answer.best.held in let first = c.in-Some.first.now in
    subst (λ (q : Problem). IsWithin q c.in_ok-named.named.items c.match-among.bound first) (sym c.search_for.ensures.unchanged)
    (subst (λ (l : List Literal). IsWithin p l c.match-among.bound first) c.deref.ensures.value
    (elim c.match-among.branch [
      | in-Feasible w ↦ subst (λ (b : Option ℤ). IsWithin p cube b first) (sym w.bound-is) (first_feasible p cube held first c.in_ok-answer.ensures.under c.in-Some.ensures.value)
      | in-Least-2 w ↦ subst (λ (b : Option ℤ). IsWithin p cube b first) (sym (w.bound-is ∙ w.cost-bound.ensures.value)) (first_least p cube held first c.in_ok-answer.ensures.under c.in-Some.ensures.value)
    ]))

pub returns-clause-answer : goal.returns-clause-answer
returns-clause-answer c =
    let p = c.args.self.now in let assumed = c.args.assumptions.now in let held = c.in_ok-answer.answer.best.held in let items = c.in_ok-statuses.statuses.items in
    let first = c.in-Some.first.now in
    let same : c.deref.result.now ≡ named_literals p.vars assumed = c.deref.ensures.value ∙ c.in_ok-named.ensures in
    let found : AreStatusesOf (IsWithin p (named_literals p.vars assumed) c.match-among.bound) items =
    subst (λ (l : List Literal). AreStatusesOf (IsWithin p l c.match-among.bound) items) c.in_ok-named.ensures
    (subst (λ (q : Problem). AreStatusesOf (IsWithin q c.in_ok-named.named.items c.match-among.bound) items) c.search_for.ensures.unchanged c.in_ok-statuses.ensures.statuses) in (
      c.in_ok-statuses.ensures.count ∙ ap (λ (q : Problem). q.vars) c.search_for.ensures.unchanged,
      elim c.match-among.branch [
        | in-Feasible w ↦ subst (λ (x : Among). AreStatusesOf (IsAskedAbout p assumed x) items) (sym w.in-Feasible.is)
            (statuses_of_feasible p assumed items (subst (λ (b : Option ℤ). AreStatusesOf (IsWithin p (named_literals p.vars assumed) b) items) w.bound-is found))
        | in-Least-2 w ↦ subst (λ (x : Among). AreStatusesOf (IsAskedAbout p assumed x) items) (sym w.in-Least.is)
            (statuses_of_cost p assumed held first items (subst (λ (l : List Literal). HoldsLeastUnder p l held) same (c.in_ok-answer.ensures.least w.if-answer.false)) c.in-Some.ensures.value
            (subst (λ (b : Option ℤ). AreStatusesOf (IsWithin p (named_literals p.vars assumed) b) items) (w.bound-is ∙ w.cost-bound.ensures.value) found))
      ],
    )
