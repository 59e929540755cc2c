-- Counts of the literals and of the clauses or cubes of a text, as a reader keeps them.
use Rattle.std.proofs.Common.{◌≡◌, ℕ, ◌+◌, ◌-◌, ◌^◌, min, refl, sym, ap, ◌∙◌, List, [], ◌∷◌, ◌++◌, Bool, true, false, not, cond, ◌||◌, map, length, arith, Some, None, ltb}
use Rattle.std.specs.Prelude.{count_by}
use Rattle.std.proofs.lemmas.Bool.{lt-ltb, ltb-true, false≢true}
use Rattle.std.proofs.lemmas.List.Sums.{sum_by-append, sum_by-cons}
use Rattle.pb_inst.specs.Literal.{Literal}
use Rattle.pb_inst.specs.declared.limits.TheConstants.{MAX_TERMS}
use Rattle.pb_read.specs.declared.fault.ReadKind.TheVariants.{Unfinished, Syntax, BadVariable, TooMany}
use Rattle.pb_read.specs.Refusal.{first_kind}
use Rattle.pb_read.specs.Clauses.{Word, is_literal, whole_words, literals_in, literal_count, word_faults}
use Rattle.pb_read.specs.ClauseReading.{Scanned}
use Rattle.pb_read.proofs.ClausesSpelled.{same_count, literals_whole}
use Rattle.pb_read.proofs.Scanning.{first_of_words, literals_seen}

agree : (ended broken over a b : Bool) → (ended ≡ true → broken ≡ false → over ≡ false → a ≡ b)
    → cond (not ended) (Some Unfinished) (cond broken (Some Syntax) (cond over (Some BadVariable) (cond a (Some TooMany) None))) ≡ cond (not ended) (Some Unfinished) (cond broken (Some Syntax) (cond over (Some BadVariable) (cond b (Some TooMany) None)))
agree false broken over a b h = refl
agree true true over a b h = refl
agree true false true a b h = refl
agree true false false a b h = ap (λ (x : Bool). cond x (Some TooMany) None) (h refl refl refl)

pub bool_same : (a b : Bool) → (a ≡ true → b ≡ true) → (b ≡ true → a ≡ true) → a ≡ b
bool_same true true f g = refl
bool_same true false f g = sym (f refl)
bool_same false true f g = g refl
bool_same false false f g = refl

clear_flags : (ended broken over b : Bool) → cond (not ended) (Some Unfinished) (cond broken (Some Syntax) (cond over (Some BadVariable) (cond b (Some TooMany) None))) ≡ None → (ended ≡ true) × (broken ≡ false) × (over ≡ false)
clear_flags false broken over b e = absurd cc
clear_flags true true over b e = absurd cc
clear_flags true false true b e = absurd cc
clear_flags true false false b e = (refl, refl, refl)

whole_at : (n : ℕ) (ls : List Literal) (seen : List Word) (ended broken over : Bool) → Scanned n ls ended broken over seen → ended ≡ true → broken ≡ false → over ≡ false → seen ≡ whole_words ls
whole_at n ls seen true false false h a b c = literals_seen n ls seen h
whole_at n ls seen true false true h a b c = absurd (false≢true (sym c))
whole_at n ls seen true true over h a b c = absurd (false≢true (sym b))
whole_at n ls seen false broken over h a b c = absurd (false≢true a)

pub whole_without_fault : (n : ℕ) (ls : List Literal) (ended broken over : Bool) (seen : List Word) → Scanned n ls ended broken over seen → (too_many : Bool) → first_kind (word_faults n seen too_many) ≡ None → seen ≡ whole_words ls
whole_without_fault n ls ended broken over seen h too_many clear =
    let flags = clear_flags ended broken over too_many (sym (first_of_words n ls ended broken over too_many seen h) ∙ clear) in
    whole_at n ls seen ended broken over h flags.0 flags.1 flags.2

module _ {X : Type 0} (words_of : X → List Word) (earlier : List X) (x : X) (cs : List (List Literal)) (spelled : map words_of earlier ≡ map whole_words cs) where
  pub total_count : (ls : List Literal) (count : ℕ) → count ≡ literal_count cs → words_of x ≡ whole_words ls → literals_in words_of (earlier ++ x ∷ []) ≡ count + length ls
  total_count ls count counted w =
      let f : X → ℕ = λ s. count_by is_literal (words_of s) in
      omega (arith, sum_by-append f earlier (x ∷ []), sum_by-cons f x [], ap (count_by is_literal) w, literals_whole ls, same_count words_of earlier cs spelled, counted)

  module _ (n : ℕ) (ls : List Literal) (ended broken over : Bool) (h : Scanned n ls ended broken over (words_of x)) (count total : ℕ) (counted : count ≡ literal_count cs) (total_is : total ≡ min (count + length ls) (2 ^ 64 - 1)) where
    same_total : words_of x ≡ whole_words ls → ltb MAX_TERMS total ≡ ltb MAX_TERMS (literals_in words_of (earlier ++ x ∷ []))
    same_total w =
        let c = total_count ls count counted w in
        bool_same _ _
        (λ t. lt-ltb MAX_TERMS _ (let y = ltb-true MAX_TERMS total t in omega (arith, y, total_is, c)))
        (λ t. lt-ltb MAX_TERMS _ (let y = ltb-true MAX_TERMS _ t in omega (arith, y, total_is, c)))

    -- what the reader finds is the first fault of the words, whose last is a count or the literals together
    pub same_faults : (a b : Bool) → a ≡ b → first_kind (word_faults n (words_of x) (a || ltb MAX_TERMS total)) ≡ first_kind (word_faults n (words_of x) (b || ltb MAX_TERMS (literals_in words_of (earlier ++ x ∷ []))))
    same_faults a b same =
        let many : Bool = ltb MAX_TERMS (literals_in words_of (earlier ++ x ∷ [])) in
        first_of_words n ls ended broken over (a || ltb MAX_TERMS total) (words_of x) h
        ∙ agree ended broken over (a || ltb MAX_TERMS total) (b || many)
        (λ e f g. ap (λ (t : Bool). t || ltb MAX_TERMS total) same ∙ ap (λ (t : Bool). b || t) (same_total (whole_at n ls (words_of x) ended broken over h e f g)))
        ∙ sym (first_of_words n ls ended broken over (b || many) (words_of x) h)
