use Rattle.std.proofs.Common.{◌≡◌, ◌+◌, ◌<◌, ◌≤◌, ◌∷◌, ◌∙◌, List, None, Bool, false, length, ap, arith, refl, rules, sym, subst, Global, Vec}
use Rattle.std.specs.Prelude.{All}
use Rattle.std.proofs.lemmas.List.Elements.{All-rest}
use Rattle.pb_inst.specs.Literal.{Literal}
use Rattle.pb_inst.specs.Problem.{Problem}
use Rattle.pb_questions.specs.declared.seeking.Sought.{Sought}
use Rattle.pb_questions.specs.Sought.{IsAnswerTo}
use Rattle.pb_questions.proofs.ExplainLemmas.{all_tried, head_and_rest, none_tried, one_left_out, one_needed, one_open, still_unbounded, IsShrunk}
use Rattle.pb_questions.proofs.questions.Questions.shrink.Goals as goal
use Rattle.pb_questions.proofs.questions.Questions.shrink.Goals.{in-Nothing, in-Found+in_ok-push-in-Found, in-Cut+in_ok-push-in-Cut}

pub loop-tried-init : goal.loop-tried-init
loop-tried-init c = record {
  same_instance = refl;
  shrunk = none_tried c.args.self.now c.args.literals.items c.requires.variables c.requires.infeasible;
  no_budget = search rules;
}

pub remove-first-requires : goal.remove-first-requires
remove-first-requires c = omega (arith, c.loop-tried.invariant.shrunk.count)

pub seek-requires : goal.seek-requires
seek-requires c =
    let now = c.loop-tried.literals.items in let x = c.remove-first.result in let inv = c.loop-tried.invariant in
    let some : 0 < length now = omega (arith, inv.shrunk.count) in
    let is : now ≡ x ∷ c.deref.result.now = head_and_rest now x some c.remove-first.ensures.value ∙ ap (λ (l : List Literal). x ∷ l) (sym (c.deref.ensures.value ∙ c.remove-first.ensures.items)) in
    subst (λ (q : Problem). All (λ l. l.var ≤ q.vars) c.deref.result.now) (sym inv.same_instance)
    (All-rest (λ l. l.var ≤ c.args.self.now.vars) x c.deref.result.now now is inv.shrunk.variables)

pub loop-tried-preserved : goal.loop-tried-preserved
loop-tried-preserved c =
    let p = c.args.self.now in let old = c.args.literals.items in let now = c.loop-tried.literals.items in
    let x = c.remove-first.result in let rest = c.remove-first.new.self.items in
    let inv = c.loop-tried.invariant in let n = length c.args.literals.items in let tried = c.loop-tried.tried in
    let minimal = c.loop-tried.is_minimal in let sought = c.in_ok-seek.field-0 in let ended = c.match-branch-2 in
    let some : 0 < length now = omega (arith, inv.shrunk.count) in
    let is : now ≡ x ∷ rest = head_and_rest now x some c.remove-first.ensures.value ∙ ap (λ (l : List Literal). x ∷ l) (sym c.remove-first.ensures.items) in
    let answer : IsAnswerTo p rest None sought = subst (λ (l : List Literal). IsAnswerTo p l None sought) c.deref.ensures.value (subst (λ (q : Problem). IsAnswerTo q c.deref.result.now None sought) inv.same_instance c.in_ok-seek.ensures.answer) in
    let same = c.seek.ensures.unchanged ∙ inv.same_instance in
    elim c.match-branch-2.branch [
      | in-Nothing w ↦ record {
        same_instance = same;
        shrunk = subst (λ (v : Vec Literal Global). IsShrunk p old v.items n (tried + 1) ended.is_minimal) (sym w.literals-is) (subst (λ (b : Bool). IsShrunk p old rest n (tried + 1) b) (sym w.is_minimal-is)
            (one_left_out p old now rest x n tried minimal is inv.shrunk (subst (λ (s : Sought). IsAnswerTo p rest None s) w.in-Nothing.is answer)));
        no_budget = still_unbounded c.args.left.now c.loop-tried.left c.seek.new.left minimal ended.is_minimal sought inv.no_budget c.in_ok-seek.ensures.no_budget (λ whole known. w.is_minimal-is ∙ known);
      }
      | in-Found+in_ok-push-in-Found w ↦ record {
        same_instance = same;
        shrunk = subst (λ (v : Vec Literal Global). IsShrunk p old v.items n (tried + 1) ended.is_minimal) (sym w.literals-is) (subst (λ (b : Bool). IsShrunk p old w.push.new.self.items n (tried + 1) b) (sym w.is_minimal-is)
            (subst (λ (l : List Literal). IsShrunk p old l n (tried + 1) minimal) (sym w.in_ok-push-in-Found.ensures.items)
            (one_needed p old now rest x n tried minimal w.in-Found.field-0 is inv.shrunk (subst (λ (s : Sought). IsAnswerTo p rest None s) w.in-Found.is answer))));
        no_budget = still_unbounded c.args.left.now c.loop-tried.left c.seek.new.left minimal ended.is_minimal sought inv.no_budget c.in_ok-seek.ensures.no_budget (λ whole known. w.is_minimal-is ∙ known);
      }
      | in-Cut+in_ok-push-in-Cut w ↦ record {
        same_instance = same;
        shrunk = subst (λ (v : Vec Literal Global). IsShrunk p old v.items n (tried + 1) ended.is_minimal) (sym w.literals-is) (subst (λ (b : Bool). IsShrunk p old w.push-in-Cut.new.self.items n (tried + 1) b) (sym w.is_minimal-is)
            (subst (λ (l : List Literal). IsShrunk p old l n (tried + 1) false) (sym w.in_ok-push-in-Cut.ensures.items) (one_open p old now rest x n tried minimal is inv.shrunk)));
        no_budget = still_unbounded c.args.left.now c.loop-tried.left c.seek.new.left minimal ended.is_minimal sought inv.no_budget c.in_ok-seek.ensures.no_budget (λ whole known. absurd (whole w.in-Cut.is));
      }
    ]

pub returns-clause-core : goal.returns-clause-core
returns-clause-core c = all_tried c.args.self.now c.args.literals.items (record { literals = c.loop-tried.literals; is_minimal = c.loop-tried.is_minimal }) (length c.args.literals.items) c.loop-tried.tried (omega arith) c.loop-tried.invariant.shrunk
