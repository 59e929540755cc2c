use Rattle.std.proofs.Common.{codes}
use Rattle.std.proofs.lemmas.Str.Pattern.{ends_text}
use Rattle.pb_files.proofs.listing.is_index.Goals as goal

pub returns : goal.returns
returns c = ends_text _ (codes "/index") c.args.name.now c.ends_with.ensures.cases
