use Rattle.pb_parts.proofs.Rising.{found}
use Rattle.pb_parts.proofs.fitting.is_among.Goals as goal

pub returns : goal.returns
returns c = rw c.is_ok.ensures.value (found c.args.numbers.now c.args.number c.binary_search.result c.requires c.binary_search.ensures.position)
