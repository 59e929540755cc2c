-- Files that are read one after the other.
use Rattle.std.proofs.Common.{◌∙◌, ℕ, List, [], ◌∷◌, ◌++◌, Option, ap, append-nil, append_assoc, refl, subst, sym}
use Rattle.std.specs.Prelude.{option_to_list}
use Rattle.pb_files.specs.Reading.{HasIfAny, ReadsEach, ReadsSame}
use Rattle.pb_files.specs.Texts.{Text}

-- one more file
pub ReadsEach-push : {F : Type 0} {R : Type 0} (reads : F → Text → List ℕ → F → Type 0) (Has : Text → Text → R → Type 0) (names : List Text) (reports : List R) (old mid new : F) (name text : Text) (found : Option R)
    → ReadsEach reads Has names reports old mid → reads mid name text new → HasIfAny (Has name) text found
    → ReadsEach reads Has (names ++ name ∷ []) (reports ++ option_to_list found) old new
ReadsEach-push {F} {R} reads Has [] reports old mid new name text found done read has =
    (text, found, [], new, subst (λ s. reads s name text new) done.1 read, has, ap (λ (l : List R). l ++ option_to_list found) done.0 ∙ sym (append-nil (option_to_list found)), (refl, refl))
ReadsEach-push {F} {R} reads Has (n ∷ names) reports old mid new name text found done read has = (
  done.0,
  done.1,
  done.2 ++ option_to_list found,
  done.3,
  done.4,
  done.5,
  ap (λ (l : List R). l ++ option_to_list found) done.6 ∙ append_assoc (option_to_list done.1) done.2 (option_to_list found),
  ReadsEach-push reads Has names done.2 done.3 mid new name text found done.7 read has,
)

-- one more file with the same text
pub ReadsSame-push : {F : Type 0} (reads : F → Text → List ℕ → F → Type 0) (text : Text) (names : List Text) (old mid new : F) (name : Text)
    → ReadsSame reads text names old mid → reads mid name text new → ReadsSame reads text (names ++ name ∷ []) old new
ReadsSame-push reads text [] old mid new name done read = (new, subst (λ s. reads s name text new) done read, refl)
ReadsSame-push reads text (n ∷ names) old mid new name done read = (done.0, done.1, ReadsSame-push reads text names done.0 mid new name done.2 read)
