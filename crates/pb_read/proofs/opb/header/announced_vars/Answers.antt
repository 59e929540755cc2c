use Rattle.std.proofs.Common.{◌≡◌, ◌∙◌, ap, sym, List, ℕ}
use Rattle.std.specs.Prelude.{unwrap_or}
use Rattle.pb_read.specs.Opb.{header_of}
use Rattle.pb_read.specs.Capped.{cap_count}
use Rattle.pb_read.proofs.Headers.{or_zero, first_of, first_none}
use Rattle.pb_read.proofs.Lines.{same_lines}
use Rattle.pb_read.specs.Text.{lines}
use Rattle.pb_read.proofs.opb.header.announced_vars.Goals as goal

pub returns-in-Some : goal.returns-in-Some
returns-in-Some c =
    let same : lines c.args.text.now ≡ c.lines_with_terminator.result = sym (c.lines_with_terminator.ensures.value ∙ same_lines c.args.text.now) in
    let first = first_of (lines c.args.text.now) c.in-Some.line.now c.next.new.self (same ∙ c.in-Some.ensures.steps) in
    c.unwrap_or.ensures ∙ ap (λ o. unwrap_or o 0) c.header_of.ensures ∙ or_zero (header_of c.in-Some.line.now) ∙ ap (λ (l : List ℕ). cap_count (unwrap_or (header_of l) 0)) (sym first)

pub returns-in-None : goal.returns-in-None
returns-in-None c =
    let same : lines c.args.text.now ≡ c.lines_with_terminator.result = sym (c.lines_with_terminator.ensures.value ∙ same_lines c.args.text.now) in
    sym (first_none (lines c.args.text.now) (same ∙ c.in-None.ensures.steps.0))
