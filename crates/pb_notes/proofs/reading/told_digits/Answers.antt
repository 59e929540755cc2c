use Rattle.std.proofs.Common.{codes, refl}
use Rattle.pb_notes.proofs.NoteLemmas.{values_taken}
use Rattle.pb_notes.proofs.reading.told_digits.Goals as goal

pub returns-then-are_digits-clause-told : goal.returns-then-are_digits-clause-told
returns-then-are_digits-clause-told c =
    values_taken c.args.text.now (codes "values ") c.in_ok-digits.digits.now (codes "\n") c.in_ok-line.line.now
    c.in_ok-line.ensures c.in_ok-digits.ensures (c.if-are_digits.ensures refl)
