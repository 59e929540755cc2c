use Rattle.std.proofs.Common.{◌≡◌, ◌+◌, ◌≤◌, ◌∙◌, List, ap, arith, sym, subst}
use Rattle.std.specs.Prelude.{All}
use Rattle.std.proofs.lemmas.List.Elements.{All-push}
use Rattle.pb_inst.specs.Literal.{Literal}
use Rattle.pb_questions.specs.Sought.{IsAnswerTo}
use Rattle.pb_questions.proofs.FixedLemmas.{other_answer}
use Rattle.pb_questions.proofs.questions.Questions.seek_other.Goals as goal

pub unreachable-requires : goal.unreachable-requires
unreachable-requires c = c.in_default.ensures.in_range (omega arith, omega arith)

pub seek-requires : goal.seek-requires
seek-requires c =
    let var : c.in-Ok.other.var ≡ c.args.place + 1 = ap (λ (l : Literal). l.var) c.in-Ok.ensures.in_range.1 in
    subst (λ (x : List Literal). All (λ l. l.var ≤ c.args.self.now.vars) x) (sym (c.deref.ensures.value ∙ c.in_ok-push.ensures.items))
    (All-push (λ l. l.var ≤ c.args.self.now.vars) c.args.cube.now.items c.in-Ok.other c.requires.variables (omega (arith, var)))

pub returns-clause-other : goal.returns-clause-other
returns-clause-other c =
    other_answer c.args.self.now c.args.cube.now.items c.args.bound c.args.place c.args.value c.in-Ok.other c.in_ok-sought.sought c.requires.place c.in-Ok.ensures.in_range.1
    (subst (λ (x : List Literal). IsAnswerTo c.args.self.now x c.args.bound c.in_ok-sought.sought) (c.deref.ensures.value ∙ c.in_ok-push.ensures.items) c.in_ok-sought.ensures.answer)
