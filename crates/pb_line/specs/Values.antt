-- What a number among the words is.
use Rattle.std.specs.Prelude.{ℕ, Option, Some, None, ⊤, Ok}
use Rattle.std.specs.Str.Parse.{ParsesUnsigned}
use Rattle.std.specs.declared.num.ParseIntError.{ParseIntError}
use Rattle.clap.specs.Words.{Text}

-- the text spells the number, which has `bits` bits
abbrev pub Spells : ℕ → Text → ℕ → Type 0
Spells bits text n = ParsesUnsigned {E = ParseIntError} bits 10 text (Ok n)

-- there is a number just where there is a text, which spells it, and the number has `bits` bits
abbrev pub SpellsIfGiven : ℕ → Option Text → Option ℕ → Type 0
SpellsIfGiven bits None None = ⊤
SpellsIfGiven bits (Some text) (Some n) = Spells bits text n
SpellsIfGiven bits None (Some n) = ⊥
SpellsIfGiven bits (Some text) None = ⊥
