use Rattle.std.proofs.Common.{◌≡◌, ◌≤◌, ◌∙◌, List, false, sym, subst}
use Rattle.std.specs.Prelude.{All}
use Rattle.pb_inst.specs.Literal.{Literal}
use Rattle.pb_questions.specs.declared.questions.Answer.{Answer}
use Rattle.pb_questions.specs.Under.{named_literals, HoldsLeastUnder, HoldsUnder}
use Rattle.pb_questions.proofs.UnderLemmas.{holds_named, least_named, named_variables, ok_weaker}
use Rattle.pb_questions.proofs.questions.Questions.solve_under.Goals as goal

pub search_under-requires-2 : goal.search_under-requires-2
search_under-requires-2 c =
    subst (λ (x : List Literal). All (λ l. l.var ≤ c.args.self.now.vars) x) (sym (c.deref.ensures.value ∙ c.in_ok-named.ensures)) (named_variables c.args.self.now.vars c.args.assumptions.now)

pub returns-clause-least : goal.returns-clause-least
returns-clause-least c =
    let p = c.args.self.now in let assumed = c.args.assumptions.now in let cube = c.deref.result.now in
    let same : cube ≡ named_literals p.vars assumed = c.deref.ensures.value ∙ c.in_ok-named.ensures in
    ok_weaker (λ (x : Answer). x.cut ≡ false → HoldsLeastUnder p cube x.best.held) (λ x. x.cut ≡ false → HoldsLeastUnder p assumed x.best.held)
    (λ x h uncut. least_named p assumed x.best.held (subst (λ (l : List Literal). HoldsLeastUnder p l x.best.held) same (h uncut))) c.search_under-2.result c.search_under-2.ensures.least

pub returns-clause-under : goal.returns-clause-under
returns-clause-under c =
    let p = c.args.self.now in let assumed = c.args.assumptions.now in let cube = c.deref.result.now in
    let same : cube ≡ named_literals p.vars assumed = c.deref.ensures.value ∙ c.in_ok-named.ensures in
    ok_weaker (λ (x : Answer). HoldsUnder p cube x.best.held) (λ x. HoldsUnder p assumed x.best.held)
    (λ x h. holds_named p assumed x.best.held (subst (λ (l : List Literal). HoldsUnder p l x.best.held) same h)) c.search_under-2.result c.search_under-2.ensures.under
