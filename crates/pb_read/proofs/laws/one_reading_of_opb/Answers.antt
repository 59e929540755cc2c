use Rattle.pb_read.proofs.OpbLaws.{spells, not_refused, one_instance}
use Rattle.pb_read.proofs.laws.one_reading_of_opb.Goals as goal

pub returns : goal.returns
returns c = record { spells = spells; not_both = not_refused; one = one_instance }
