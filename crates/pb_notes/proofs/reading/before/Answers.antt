use Rattle.std.proofs.lemmas.Bool.Decides.{Decides-eqb}
use Rattle.std.proofs.lemmas.Slice.Eq.{strip_suffix_is}
use Rattle.pb_notes.proofs.NoteLemmas.{rest_before}
use Rattle.pb_notes.proofs.reading.before.Goals as goal

pub returns : goal.returns
returns c =
    rest_before c.args.text.now c.args.end.now c.strip_suffix.result
    (strip_suffix_is Decides-eqb c.args.text.now c.args.end.now c.strip_suffix.result c.strip_suffix.ensures.cases)
