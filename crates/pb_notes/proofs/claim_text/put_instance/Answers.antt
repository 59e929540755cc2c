use Rattle.std.proofs.Common.{ap, ◌++◌, ◌∙◌}
use Rattle.pb_notes.proofs.NoteLemmas.{line_added}
use Rattle.pb_notes.proofs.claim_text.put_instance.Goals as goal

pub returns-clause-written : goal.returns-clause-written
returns-clause-written c =
    line_added _ _ _ _ _ _ _ c.put.ensures.written (c.put-2.ensures.written ∙ ap (λ d. c.put.new.text.items ++ d) c.digits_of-digits.ensures) c.put-3.ensures.written
