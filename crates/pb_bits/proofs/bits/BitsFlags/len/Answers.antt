use Rattle.std.proofs.Common.{List, Bool, length, ap, sym, ◌∙◌}
use Rattle.pb_bits.proofs.BitLemmas.{length-bits_of}
use Rattle.pb_bits.proofs.bits.BitsFlags.len.Goals as goal

pub returns-clause-value : goal.returns-clause-value
returns-clause-value c = sym (length-bits_of c.self.inside.words.items c.self.inside.count) ∙ ap (λ (fs : List Bool). length fs) c.self.view_is
