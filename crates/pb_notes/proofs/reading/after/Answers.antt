use Rattle.std.proofs.lemmas.Bool.Decides.{Decides-eqb}
use Rattle.std.proofs.lemmas.Slice.Eq.{strip_prefix_is}
use Rattle.pb_notes.proofs.NoteLemmas.{rest_after}
use Rattle.pb_notes.proofs.reading.after.Goals as goal

pub returns : goal.returns
returns c =
    rest_after c.args.text.now c.args.start.now c.strip_prefix.result
    (strip_prefix_is Decides-eqb c.args.text.now c.args.start.now c.strip_prefix.result c.strip_prefix.ensures.cases)
