use Rattle.std.proofs.Common.{◌∙◌, ◌+◌, List, ℕ, ap, sym, length, arith}
use Rattle.pb_read.specs.ClauseReading.{content_from, lines_from}
use Rattle.pb_read.proofs.ContentLines.{line_kept, passes_over, takes_in}
use Rattle.pb_read.proofs.dimacs.content_lines.ContentLines.next.Goals as goal

pub returns-then-has_content-clause-next : goal.returns-then-has_content-clause-next
returns-then-has_content-clause-next c =
    sym c.loop-line.invariant.content
    ∙ ap (λ (ls : List (List ℕ)). content_from (c.loop-line.self.before + 1) ls) c.in-Some.ensures.steps
    ∙ takes_in (c.loop-line.self.before + 1) c.in-Some.line.now c.next.new.self (sym c.is_marked.ensures ∙ c.if-is_marked.false) (sym c.has_content.ensures ∙ c.if-has_content.true)

pub loop-line-preserved : goal.loop-line-preserved
loop-line-preserved c =
    let goes = sym c.is_marked.ensures ∙ c.if-is_marked.false in
    let kept = ap length (ap (λ (ls : List (List ℕ)). lines_from (c.loop-line.self.before + 1) ls) c.in-Some.ensures.steps ∙ line_kept (c.loop-line.self.before + 1) c.in-Some.line.now c.next.new.self goes) in
    record {
      counted = omega (arith, c.loop-line.invariant.counted, ap length c.in-Some.ensures.steps);
      content = sym (ap (λ (ls : List (List ℕ)). content_from (c.loop-line.self.before + 1) ls) c.in-Some.ensures.steps
          ∙ passes_over (c.loop-line.self.before + 1) c.in-Some.line.now c.next.new.self goes (sym c.has_content.ensures ∙ c.if-has_content.false))
          ∙ c.loop-line.invariant.content;
      lines = omega (arith, kept, c.loop-line.invariant.lines);
    }
