use Rattle.std.proofs.Common.{◌∙◌, [], ◌∷◌, ◌++◌, ap, arith, length, map, sym, append_assoc}
use Rattle.pb_report.specs.Lines.{words}
use Rattle.std.proofs.Common.{◌<◌, ◌^◌, List, ℕ, rules, subst}
use Rattle.std.proofs.lemmas.Bool.{false≢true}
use Rattle.pb_report.specs.Claims.{status_of}
use Rattle.pb_report.specs.Draft.{Follow}
use Rattle.pb_report.proofs.Accepting.{follows, no_fault}
use Rattle.pb_report.proofs.reading.read_report.Goals as goal

pub loop-line-preserved : goal.loop-line-preserved
loop-line-preserved c =
    let at = c.loop-line.invariant.so_far in
    record {
      counted = omega (arith, ap length c.in-Some.ensures.steps, c.loop-line.invariant.counted);
      same_length = c.take_line.ensures.same_length;
      same_format = c.take_line.ensures.same_format ∙ c.loop-line.invariant.same_format;
      so_far = (
        at.0 ++ words c.in-Some.line.now ∷ [],
        append_assoc at.0 (words c.in-Some.line.now ∷ []) (map words c.next.new.self) ∙ ap (λ l. at.0 ++ map words l) (sym c.in-Some.ensures.steps) ∙ at.1,
        c.in_default-take_line.ensures.drafted c.args.vars at.0 at.2,
      );
      accepted = λ status h.
          (c.in_default-take_line.ensures.accepted status (map words c.next.new.self)
          (subst (λ (ls : List (List ℕ)). Follow status (map words ls) c.loop-line.draft) c.in-Some.ensures.steps (c.loop-line.invariant.accepted status h))).1;
    }

pub returns-in-Err-clause-accepted : goal.returns-in-Err-clause-accepted
returns-in-Err-clause-accepted c = λ claim h narrow.
    let counted : c.args.vars < 2 ^ 32 = search rules in
    absurd (false≢true (c.in-Err.ensures.accepted (status_of claim) (map words c.next.new.self)
    (subst (λ (ls : List (List ℕ)). Follow (status_of claim) (map words ls) c.loop-line.draft) c.in-Some.ensures.steps
    (c.loop-line.invariant.accepted (status_of claim) (follows c.args.format c.args.vars c.args.text.now claim counted h narrow)))).0)

pub returns-clause-accepted : goal.returns-clause-accepted
returns-clause-accepted c = λ claim h narrow.
    let counted : c.args.vars < 2 ^ 32 = search rules in
    no_fault _ c.finish.result (c.finish.ensures.accepted (status_of claim)
    (subst (λ (ls : List (List ℕ)). Follow (status_of claim) (map words ls) c.loop-line.draft) c.in-None.ensures.steps.0
    (c.loop-line.invariant.accepted (status_of claim) (follows c.args.format c.args.vars c.args.text.now claim counted h narrow))))
