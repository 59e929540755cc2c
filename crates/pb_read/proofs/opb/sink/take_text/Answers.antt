use Rattle.std.proofs.Common.{◌≡◌, ◌∙◌, ◌+◌, List, ℕ, arith, ap, sym, length, []}
use Rattle.std.specs.List.{flat_map}
use Rattle.std.proofs.lemmas.Result.{err_from_is_err_and}
use Rattle.pb_read.specs.Text.{numbered, lines}
use Rattle.pb_read.specs.Opb as opb
use Rattle.pb_read.specs.Opb.{tokens}
use Rattle.pb_read.proofs.Lines.{same_lines}
use Rattle.pb_read.proofs.Taking.{line_passed, line_taken, text_fails, text_taken}
use Rattle.pb_read.proofs.opb.sink.take_text.Goals as goal
use Rattle.pb_read.proofs.opb.sink.take_text.Goals.{then-not-is_marked+in_ok-take_line, else-not-is_marked}

pub loop-line-init : goal.loop-line-init
unfolding tokens
loop-line-init g c =
    let same : c.into_iter-line-iterator.result ≡ lines c.args.text.now = c.into_iter-line-iterator.ensures.into_iter_gives ∙ c.lines_with_terminator-line-items.ensures.value ∙ same_lines c.args.text.now in
    record {
      counted = omega (arith, ap length c.into_iter-line-iterator.ensures.into_iter_gives, c.lines_with_terminator-line-items.ensures.len);
      so_far = λ h. ([], ap (λ (ls : List (List ℕ)). flat_map opb.on_line (numbered 1 ls)) same, h);
    }

pub returns-in_err-take_line-clause-err : goal.returns-in_err-take_line-clause-err
returns-in_err-take_line-clause-err g c = λ h.
    let p = err_from_is_err_and c.from_residual.result c.from_residual.ensures.1 in
    let at = c.loop-line.invariant.so_far h in
    rw (p.1, p.2) (text_fails at.0 (opb.tokens c.args.text.now) (c.loop-line.before + 1) c.loop-line.line-iterator c.next.new.self c.in-Some.line.now c.in_err-take_line.field-0.0
    c.in-Some.ensures.steps at.1 (sym c.is_marked.ensures ∙ c.if-not-is_marked.true) (c.in_err-take_line.ensures.err at.0 at.2))

pub loop-line-preserved : goal.loop-line-preserved
loop-line-preserved g c = record {
  counted = omega (arith, ap length c.in-Some.ensures.steps, c.loop-line.invariant.counted);
  so_far = λ h.
      let at = c.loop-line.invariant.so_far h in
      elim c.if-not-is_marked.branch [
        | then-not-is_marked+in_ok-take_line w ↦
            rw w.sink-is (line_taken (g.S.TokenSink.has_taken w.take_line.new.sink) at.0 (opb.tokens c.args.text.now) (c.loop-line.before + 1) c.loop-line.line-iterator c.next.new.self c.in-Some.line.now
            c.in-Some.ensures.steps at.1 (sym c.is_marked.ensures ∙ w.if-not-is_marked.true) (w.in_ok-take_line.ensures.ok at.0 at.2))
        | else-not-is_marked w ↦
            rw w.sink-is (line_passed (g.S.TokenSink.has_taken c.loop-line.sink) at.0 (opb.tokens c.args.text.now) (c.loop-line.before + 1) c.loop-line.line-iterator c.next.new.self c.in-Some.line.now
            c.in-Some.ensures.steps at.1 (sym c.is_marked.ensures ∙ w.if-not-is_marked.false) at.2)
      ];
}

pub returns-clause-ok : goal.returns-clause-ok
returns-clause-ok g c = λ h.
    let at = c.loop-line.invariant.so_far h in
    text_taken (g.S.TokenSink.has_taken c.loop-line.sink) at.0 (opb.tokens c.args.text.now) (c.loop-line.before + 1) c.loop-line.line-iterator c.in-None.ensures.steps.0 at.1 at.2
