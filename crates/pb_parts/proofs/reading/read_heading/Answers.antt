use Rattle.std.proofs.Common.{refl, rules}
use Rattle.pb_parts.specs.Parts.{AreApart}
use Rattle.pb_parts.proofs.reading.read_heading.Goals as goal

pub returns-clause-fit : goal.returns-clause-fit
returns-clause-fit c =
    let apart : AreApart c.deref.result.now c.deref-2.result.now = c.if-not-are_apart.ensures.0 refl in
    record {
      task = search rules;
      done = search rules;
      cut = search rules;
      apart = rw (c.deref.ensures.value, c.deref-2.ensures.value) at apart;
    }
