-- What a value of the matches spells, and what it means that none was got.
use Rattle.std.proofs.Common.{◌≡◌, ◌∙◌, ℕ, Option, None, Some, ap, false, refl, sym, true}
use Rattle.std.specs.Prelude.{IfSome, IsNone, IsSomeAnd, Err, Ok, Result}
use Rattle.std.specs.Result.{result_ok}
use Rattle.std.specs.Str.Parse.{ExplainsUnsignedError, HasUnsignedDigitsIfOk, ParsesUnsigned}
use Rattle.std.specs.declared.num.ParseIntError.{ParseIntError}
use Rattle.clap.specs.Matches.{ReadsOne, TriesOne}
use Rattle.clap.specs.Words.{Text}
use Rattle.pb_line.specs.Values.{Spells, SpellsIfGiven}

-- what `parse` makes of a text at an unsigned type of `bits` bits
abbrev Reads : ℕ → Text → Result ℕ ParseIntError → Type 0
Reads bits text r = ParsesUnsigned bits 10 text r × ExplainsUnsignedError 10 text r × HasUnsignedDigitsIfOk text r

module _ (bits : ℕ) where
  -- a number that was got is spelled by a text
  pub spelled : (text : Option Text) (got : Option ℕ) → (text ≡ None → got ≡ None) → ((t : Text) → text ≡ Some t → ReadsOne (Reads bits) t got)
      → IfSome got (λ n. IsSomeAnd text (λ t. Spells bits t n))
  spelled text None none some = tt
  spelled None (Some n) none some =
      let bad : Some n ≡ None = none refl in
      cc
  spelled (Some t) (Some n) none some = (some t refl).0

  -- a number that a text spells was got
  pub got_if_spelled : (text : Option Text) (got : Option ℕ) → (text ≡ None → got ≡ None) → ((t : Text) → text ≡ Some t → ReadsOne (Reads bits) t got)
      → (n : ℕ) → IsSomeAnd text (λ t. Spells bits t n) → got ≡ Some n
  got_if_spelled None got none some n spells = absurd spells
  got_if_spelled (Some t) None none some n spells =
      let read = some t refl in
      absurd (read.1.0 spells.0)
  got_if_spelled (Some t) (Some m) none some n spells = ap Some ((some t refl).0.1 ∙ sym spells.1)

  -- what was tried is a number that a text spells, or there is no text
  pub spelled_if_given : (text : Option Text) (tried : Result (Option ℕ) ParseIntError) → (text ≡ None → tried ≡ Ok None) → ((t : Text) → text ≡ Some t → TriesOne (Reads bits) t tried)
      → IfSome (result_ok tried) (SpellsIfGiven bits text)
  spelled_if_given text (Err e) none value = tt
  spelled_if_given None (Ok None) none value = tt
  spelled_if_given None (Ok (Some m)) none value =
      let bad : Ok (Some m) ≡ Ok None = none refl in
      cc
  spelled_if_given (Some t) (Ok None) none value = absurd (value t refl)
  spelled_if_given (Some t) (Ok (Some m)) none value = (value t refl).0

  -- where the text that was tried is no number, it spells none
  pub unspelled_if_given : (text : Option Text) (tried : Result (Option ℕ) ParseIntError) (n : Option ℕ) → (text ≡ None → tried ≡ Ok None) → ((t : Text) → text ≡ Some t → TriesOne (Reads bits) t tried)
      → IsNone (result_ok tried) → SpellsIfGiven bits text n → ⊥
  unspelled_if_given text (Ok got) n none value is spells =
      let bad : true ≡ false = is in
      cc
  unspelled_if_given None (Err e) n none value is spells =
      let bad : Err e ≡ Ok None = none refl in
      cc
  unspelled_if_given (Some t) (Err e) None none value is spells = spells
  unspelled_if_given (Some t) (Err e) (Some n) none value is spells = (value t refl).0 spells.0
