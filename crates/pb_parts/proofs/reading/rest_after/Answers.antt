use Rattle.std.proofs.lemmas.Bool.Decides.{Decides-eqb}
use Rattle.std.proofs.lemmas.Slice.Eq.{strip_prefix_is}
use Rattle.pb_parts.proofs.Stripping.{ok_of}
use Rattle.pb_parts.proofs.reading.rest_after.Goals as goal

pub returns : goal.returns
returns c = ok_of _ _ _ _ _ (strip_prefix_is Decides-eqb c.args.text.now c.args.line.now _ c.strip_prefix.ensures.cases) c.ok_or.ensures.value
