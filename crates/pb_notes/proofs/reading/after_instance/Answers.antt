use Rattle.std.proofs.Common.{codes}
use Rattle.hex.specs.Hex.{encode_lower}
use Rattle.pb_notes.proofs.NoteLemmas.{line_taken}
use Rattle.pb_notes.proofs.reading.after_instance.Goals as goal

pub returns : goal.returns
returns c =
    line_taken c.args.text.now (codes "pbcube note of instance ") (encode_lower c.args.digest.now) c.digits_of-digits.result (codes "\n") c.in_ok-rest.rest.now c.in_ok-rest-2.rest.now c.after-3.result
    c.in_ok-rest.ensures c.in_ok-rest-2.ensures c.digits_of-digits.ensures c.after-3.ensures
