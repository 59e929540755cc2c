-- A reader's fault where the text spells something.
use Rattle.std.proofs.Common.{◌≡◌, ◌∙◌, sym, inl, inr, Option, Some, None}
use Rattle.std.specs.Prelude.{◌⊎◌}
use Rattle.pb_read.specs.declared.fault.ReadFault.{ReadFault}
use Rattle.pb_read.specs.Reading.{IsMemory}

-- a text with no refusal is refused only where memory runs out
pub only_memory : (o : Option ReadFault) (f : ReadFault) → o ≡ None → IsMemory f ⊎ (o ≡ Some f) → IsMemory f
only_memory o f e (inl m) = m
only_memory o f e (inr s) = absurd (none_some (sym e ∙ s))
  where
    none_some : {f : ReadFault} → None ≡ Some f → ⊥
    none_some e = cc
