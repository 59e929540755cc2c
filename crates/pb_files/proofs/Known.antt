-- What is known of the number of pieces after some indexes.
use Rattle.std.proofs.Common.{◌≡◌, ◌≤◌, ◌∙◌, ℕ, List, [], ◌∷◌, ◌++◌, Option, None, Some, false, true, refl, subst, sym}
use Rattle.std.specs.Prelude.{◌≢◌, IfSome, IsNone}
use Rattle.hex.specs.Hex.{encode_lower}
use Rattle.pb_files.specs.Reading.{CountsPieces, ReadsSame}
use Rattle.pb_files.proofs.Each.{ReadsSame-push}
use Rattle.pb_files.specs.Texts.{Text}
use Rattle.pb_files.specs.Writing.{index_lines}
use Rattle.pb_read.specs.declared.format.Format.{Format}

one_is_some : (n : ℕ) → IsNone (Some n) → ⊥
one_is_some n none =
    let bad : true ≡ false = none in
    cc

-- a list with one more element is not empty
pushed_nonempty : (names : List Text) (name : Text) → names ++ name ∷ [] ≢ []
pushed_nonempty [] name e = cc
pushed_nonempty (n ∷ names) name e = cc

module _ {F : Type 0} (reads : F → Text → List ℕ → F → Type 0) (format : Format) (vars : ℕ) (digest : List ℕ) where
  -- nothing is known where no number was asked for and there was no index; else what was asked for and told
  abbrev pub IsKnown : Option ℕ → Option ℕ → List Text → F → F → Type 0
  IsKnown asked None names old new = (asked ≡ None) × (names ≡ []) × (new ≡ old)
  IsKnown asked (Some n) names old new = (1 ≤ n) × CountsPieces reads format vars digest asked names n old new

  pub known_at_first : (asked : Option ℕ) (files : F) → IfSome asked (λ n. 1 ≤ n) → IsKnown asked asked [] files files
  known_at_first None files low = (refl, refl, refl)
  known_at_first (Some n) files low = (low, record { asked_for = refl; told = λ none e. one_is_some n none; read = refl })

  -- where this is asked for, and only this was told, it is what is told again
  asked_again : (asked : Option ℕ) (n told : ℕ) → IfSome asked (λ m. n ≡ m) → told ≡ n → IfSome asked (λ m. told ≡ m)
  asked_again None n told is same = tt
  asked_again (Some m) n told is same = same ∙ is

  pub known_more : (asked known : Option ℕ) (told : ℕ) (names : List Text) (name : Text) (old mid new : F)
      → IsKnown asked known names old mid → IfSome known (λ n. told ≡ n) → 1 ≤ told → reads mid name (index_lines format told vars (encode_lower digest)) new
      → IsKnown asked (Some told) (names ++ name ∷ []) old new
  known_more asked None told names name old mid new known same low read = (
    low,
    record {
      asked_for = subst (λ a. IfSome a (λ m. told ≡ m)) (sym known.0) tt;
      told = λ none. pushed_nonempty names name;
      read = ReadsSame-push reads _ names old mid new name (subst (λ l. ReadsSame reads (index_lines format told vars (encode_lower digest)) l old mid) (sym known.1) known.2) read;
    },
  )
  known_more asked (Some n) told names name old mid new known same low read = (
    low,
    record {
      asked_for = asked_again asked n told known.1.asked_for same;
      told = λ none. pushed_nonempty names name;
      read = ReadsSame-push reads _ names old mid new name (subst (λ (m : ℕ). ReadsSame reads (index_lines format m vars (encode_lower digest)) names old mid) (sym same) known.1.read) read;
    },
  )
