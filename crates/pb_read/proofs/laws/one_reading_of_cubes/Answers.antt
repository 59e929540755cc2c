use Rattle.pb_read.proofs.CubeLaws.{spells, not_refused, one}
use Rattle.pb_read.proofs.laws.one_reading_of_cubes.Goals as goal

pub returns : goal.returns
returns c = record { spells = spells; not_both = not_refused; one = one }
