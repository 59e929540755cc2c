use Rattle.pb_rows.proofs.LiteralListLemmas.{no_lists}
use Rattle.pb_rows.proofs.literal_lists.LiteralLists.new.Goals as goal

pub returns : goal.returns
returns c = no_lists c.new.result.items c.new-2.result.items c.new-2.ensures.items
