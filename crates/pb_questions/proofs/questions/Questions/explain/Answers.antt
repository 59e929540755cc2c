use Rattle.std.proofs.Common.{◌≡◌, ◌≤◌, ◌∙◌, List, None, sym, subst}
use Rattle.std.specs.Prelude.{All}
use Rattle.pb_inst.specs.Literal.{Literal}
use Rattle.pb_inst.specs.Problem.{Problem}
use Rattle.pb_questions.specs.declared.explaining.Explanation.{Explanation}
use Rattle.pb_questions.specs.declared.seeking.Sought.{Sought}
use Rattle.pb_questions.specs.Explained.{IsCore, IsExplained}
use Rattle.pb_questions.specs.Sought.{IsAnswerTo}
use Rattle.pb_questions.specs.Under.{named_literals, IsFeasibleUnder, IsInfeasibleUnder}
use Rattle.pb_questions.proofs.ExplainLemmas.{core_of_all, none_feasible, some_feasible}
use Rattle.pb_questions.proofs.UnderLemmas.{named_variables, under_named}
use Rattle.pb_questions.proofs.questions.Questions.explain.Goals as goal
use Rattle.pb_questions.proofs.questions.Questions.explain.Goals.{in-Found, in-Nothing+in_ok-shrink-in-Nothing, in-Cut}

pub seek-requires : goal.seek-requires
seek-requires c =
    subst (λ (x : List Literal). All (λ l. l.var ≤ c.args.self.now.vars) x) (sym (c.deref.ensures.value ∙ c.in_ok-named.ensures)) (named_variables c.args.self.now.vars c.args.assumptions.now)

pub shrink-requires-clause-variables : goal.shrink-requires-clause-variables
shrink-requires-clause-variables c =
    subst (λ (q : Problem). All (λ l. l.var ≤ q.vars) c.in_ok-named.named.items) (sym c.seek.ensures.unchanged)
    (subst (λ (x : List Literal). All (λ l. l.var ≤ c.args.self.now.vars) x) (sym c.in_ok-named.ensures) (named_variables c.args.self.now.vars c.args.assumptions.now))

pub shrink-requires-clause-infeasible : goal.shrink-requires-clause-infeasible
shrink-requires-clause-infeasible c =
    subst (λ (q : Problem). IsInfeasibleUnder q c.in_ok-named.named.items) (sym c.seek.ensures.unchanged)
    (subst (λ (x : List Literal). IsInfeasibleUnder c.args.self.now x) c.deref.ensures.value
    (none_feasible c.args.self.now c.deref.result.now (subst (λ (s : Sought). IsAnswerTo c.args.self.now c.deref.result.now None s) c.in-Nothing.is c.in_ok-seek.ensures.answer)))

pub returns-clause-explained : goal.returns-clause-explained
returns-clause-explained c =
    let p = c.args.self.now in let assumed = c.args.assumptions.now in let cube = c.deref.result.now in
    let same : cube ≡ named_literals p.vars assumed = c.deref.ensures.value ∙ c.in_ok-named.ensures in
    elim c.match-branch-3.branch [
      | in-Found w ↦ subst (λ (e : Explanation). IsExplained p assumed e) (sym w.result-is)
          (let found = some_feasible p cube w.in-Found.field-0 (subst (λ (s : Sought). IsAnswerTo p cube None s) w.in-Found.is c.in_ok-seek.ensures.answer) in
          (found.0, under_named p assumed found.0 (subst (λ (l : List Literal). IsFeasibleUnder p l found.0) same found.1)))
      | in-Nothing+in_ok-shrink-in-Nothing w ↦ subst (λ (e : Explanation). IsExplained p assumed e) (sym w.result-is)
          (core_of_all p assumed w.in_ok-shrink-in-Nothing.field-0
          (subst (λ (l : List Literal). IsCore p l w.in_ok-shrink-in-Nothing.field-0) c.in_ok-named.ensures
          (subst (λ (q : Problem). IsCore q c.in_ok-named.named.items w.in_ok-shrink-in-Nothing.field-0) c.seek.ensures.unchanged w.in_ok-shrink-in-Nothing.ensures.core)))
      | in-Cut w ↦ subst (λ (e : Explanation). IsExplained p assumed e) (sym w.result-is) tt
    ]
