use Rattle.std.proofs.Common.{◌∙◌, [], ◌∷◌, ◌++◌, List, ℕ, ap, sym, refl, subst, append_assoc}
use Rattle.std.proofs.lemmas.Bool.{false≢true}
use Rattle.pb_report.specs.Values.{CompleteWords}
use Rattle.pb_report.proofs.values.Values.take_words.Goals as goal

pub loop-word-preserved : goal.loop-word-preserved
loop-word-preserved c = record {
  same_length = c.take.ensures.same_length;
  same_format = c.take.ensures.same_format ∙ c.loop-word.invariant.same_format;
  so_far = λ vars taken h.
      let at = c.loop-word.invariant.so_far vars taken h in (
        at.0 ++ c.in-Some.word.now ∷ [],
        append_assoc at.0 (c.in-Some.word.now ∷ []) c.next.new.self ∙ ap (λ l. at.0 ++ l) (sym c.in-Some.ensures.steps) ∙ at.1,
        c.in_ok-take.ensures.taken vars at.0 at.2,
      );
  accepted = λ more h.
      (c.in_ok-take.ensures.accepted (c.next.new.self ++ more) (subst (λ (ws : List (List ℕ)). CompleteWords (ws ++ more) c.loop-word.self) c.in-Some.ensures.steps (c.loop-word.invariant.accepted more h))).1;
}

pub returns-in_err-take-clause-accepted : goal.returns-in_err-take-clause-accepted
returns-in_err-take-clause-accepted c = λ more h.
    absurd (false≢true (c.in_err-take.ensures.accepted (c.next.new.self ++ more) (subst (λ (ws : List (List ℕ)). CompleteWords (ws ++ more) c.loop-word.self) c.in-Some.ensures.steps (c.loop-word.invariant.accepted more h))).0)

pub returns-clause-accepted : goal.returns-clause-accepted
returns-clause-accepted c = λ more h.
    (refl, subst (λ (ws : List (List ℕ)). CompleteWords (ws ++ more) c.loop-word.self) c.in-None.ensures.steps.0 (c.loop-word.invariant.accepted more h))
