-- One more word of a clause or a cube.
use Rattle.std.proofs.Common.{◌≡◌, ℕ, ◌≤◌, ◌<◌, refl, sym, ap, ◌∙◌, List, [], ◌∷◌, ◌++◌, Bool, true, false, not, cond, ◌||◌, map, arith, Some, None, Option, append_assoc, leb, inl, inr}
use Rattle.std.specs.List.{list_any}
use Rattle.std.proofs.lemmas.Bool.{le-ltb, lt-ltb, false≢true, cases_Bool, leb-true, leb-false}
use Rattle.std.proofs.lemmas.List.{append-nil, map-append}
use Rattle.std.proofs.lemmas.List.Folds.{list_any-append}
use Rattle.pb_inst.specs.Literal.{Literal}
use Rattle.pb_read.specs.declared.fault.ReadKind.TheVariants.{Unfinished, Syntax, BadVariable, TooMany}
use Rattle.pb_read.specs.Refusal.{first_kind}
use Rattle.pb_read.specs.declared.dimacs.word.Word.TheVariants as variants
use Rattle.pb_inst.specs.declared.limits.TheConstants.{MAX_VARS}
use Rattle.pb_read.specs.Clauses.{Word, word_of, Lit, Zero, Bad, is_zero, is_over, is_whole, word_faults, whole_words}
use Rattle.pb_read.specs.Capped.{cap_count}
use Rattle.pb_read.specs.ClauseReading.{capped, IsBroken, Scanned, ending}

abbrev record_of : ℕ → Bool → Literal
record_of v p = record { var = v; positive = p }

-- one more of the words that are left
pub one_more_word : (seen before : List Word) (word : List ℕ) (rest after all : List (List ℕ)) → rest ≡ word ∷ after → seen ++ map word_of rest ≡ before ++ map word_of all → (seen ++ word_of word ∷ []) ++ map word_of after ≡ before ++ map word_of all
one_more_word seen before word rest after all first whole =
    append_assoc seen (word_of word ∷ []) (map word_of after) ∙ ap (λ (ws : List (List ℕ)). seen ++ map word_of ws) (sym first) ∙ whole

bad_breaks : (seen more : List Word) → is_whole (seen ++ Bad ∷ more) ≡ false
bad_breaks [] more = refl
bad_breaks (Lit l ∷ seen) more = bad_breaks seen more
bad_breaks (Zero ∷ []) more = refl
bad_breaks (Zero ∷ x ∷ seen) more = refl
bad_breaks (Bad ∷ seen) more = refl

end_breaks : (ls : List Literal) (w : Word) (more : List Word) → is_whole (map Lit ls ++ Zero ∷ w ∷ more) ≡ false
end_breaks [] w more = refl
end_breaks (l ∷ ls) w more = end_breaks ls w more

stays_broken : (seen : List Word) (w : Word) → IsBroken seen → IsBroken (seen ++ w ∷ [])
stays_broken seen w h more = ap is_whole (append_assoc seen (w ∷ []) more) ∙ h (w ∷ more)

broken_by_bad : (seen : List Word) → IsBroken (seen ++ Bad ∷ [])
broken_by_bad seen more = ap is_whole (append_assoc seen (Bad ∷ []) more) ∙ bad_breaks seen more

any_more : (test : Word → Bool) (b : Bool) (seen : List Word) (w : Word) → b ≡ list_any test seen → (b || test w) ≡ list_any test (seen ++ w ∷ [])
any_more test b seen w h = rw (h, list_any-append test seen (w ∷ [])) (last (list_any test seen) (test w))
  where
    last : (a b : Bool) → (a || b) ≡ (a || (b || false))
    last true b = refl
    last false true = refl
    last false false = refl

or_false : (b : Bool) → (b || false) ≡ b
or_false true = refl
or_false false = refl

or_true : (b : Bool) → (b || true) ≡ true
or_true true = refl
or_true false = refl

module _ (n : ℕ) (literals : List Literal) (over : Bool) (seen : List Word) where
  -- a word after the end word, or after words that no clause begins with
  breaks : (ended broken : Bool) (w : Word) → Scanned n literals ended broken over seen → (broken || ended) ≡ true → IsBroken (seen ++ w ∷ [])
  breaks ended true w h e = stays_broken seen w (h.broken_is refl)
  breaks true false w h e =
      let b = h.begun refl in
      λ more. ap (λ (x : List Word). is_whole ((x ++ w ∷ []) ++ more)) b.same ∙ ap is_whole (append_assoc (map Lit b.all ++ Zero ∷ []) (w ∷ []) more ∙ append_assoc (map Lit b.all) (Zero ∷ []) (w ∷ more)) ∙ end_breaks b.all w more
  breaks false false w h e = absurd (false≢true e)

  open_so_far : (ended broken : Bool) → Scanned n literals ended broken over seen → (broken || ended) ≡ false → (ended ≡ false) × (broken ≡ false)
  open_so_far true true h e = absurd cc
  open_so_far true false h e = absurd cc
  open_so_far false true h e = absurd cc
  open_so_far false false h e = (refl, refl)

  begun_open : (ended broken : Bool) → Scanned n literals ended broken over seen → (broken || ended) ≡ false → (all : List Literal) × (seen ≡ map Lit all) × (over ≡ false → literals ≡ all)
  begun_open true true h e = absurd cc
  begun_open true false h e = absurd cc
  begun_open false true h e = absurd cc
  begun_open false false h e = let b = h.begun refl in (b.all, b.same ∙ append-nil (map Lit b.all), b.kept)

  pub take_end : (ended broken : Bool) → Scanned n literals ended broken over seen → Scanned n literals true (broken || ended) over (seen ++ Zero ∷ [])
  take_end ended broken h = record {
    end_is = sym (or_true ended) ∙ any_more is_zero ended seen Zero h.end_is;
    over_is = sym (or_false over) ∙ any_more (is_over n) over seen Zero h.over_is;
    broken_is = λ e. breaks ended broken Zero h e;
    begun = λ e. let b = begun_open ended broken h e in record { all = b.0; same = ap (λ (x : List Word). x ++ Zero ∷ []) b.1; kept = b.2 };
  }

  pub take_bad : (ended broken : Bool) → Scanned n literals ended broken over seen → Scanned n literals ended true over (seen ++ Bad ∷ [])
  take_bad ended broken h = record {
    end_is = sym (or_false ended) ∙ any_more is_zero ended seen Bad h.end_is;
    over_is = sym (or_false over) ∙ any_more (is_over n) over seen Bad h.over_is;
    broken_is = λ e. broken_by_bad seen;
    begun = λ e. absurd (false≢true (sym e));
  }

  pub take_over : (ended broken : Bool) (l : Literal) → n < l.var → Scanned n literals ended broken over seen → Scanned n literals ended (broken || ended) true (seen ++ Lit l ∷ [])
  take_over ended broken l lt h =
      let o : is_over n (Lit l) ≡ true = lt-ltb n l.var lt in
      record {
        end_is = sym (or_false ended) ∙ any_more is_zero ended seen (Lit l) h.end_is;
        over_is = sym (or_true over) ∙ ap (λ b. over || b) (sym o) ∙ any_more (is_over n) over seen (Lit l) h.over_is;
        broken_is = λ e. breaks ended broken (Lit l) h e;
        begun = λ e. let b = begun_open ended broken h e in let p = open_so_far ended broken h e in record {
          all = b.0 ++ l ∷ [];
          same = ap (λ (x : List Word). x ++ Lit l ∷ []) b.1 ∙ sym (map-append Lit b.0 (l ∷ [])) ∙ sym (append-nil (map Lit (b.0 ++ l ∷ []))) ∙ ap (λ (x : Bool). map Lit (b.0 ++ l ∷ []) ++ ending x) (sym p.0);
          kept = λ f. absurd (false≢true (sym f));
        };
      }

  pub take_literal : (ended broken : Bool) (l : Literal) → l.var ≤ n → Scanned n literals ended broken over seen → Scanned n (literals ++ l ∷ []) ended (broken || ended) over (seen ++ Lit l ∷ [])
  take_literal ended broken l le h =
      let o : is_over n (Lit l) ≡ false = le-ltb n l.var le in
      record {
        end_is = sym (or_false ended) ∙ any_more is_zero ended seen (Lit l) h.end_is;
        over_is = sym (or_false over) ∙ ap (λ b. over || b) (sym o) ∙ any_more (is_over n) over seen (Lit l) h.over_is;
        broken_is = λ e. breaks ended broken (Lit l) h e;
        begun = λ e. let b = begun_open ended broken h e in let p = open_so_far ended broken h e in record {
          all = b.0 ++ l ∷ [];
          same = ap (λ (x : List Word). x ++ Lit l ∷ []) b.1 ∙ sym (map-append Lit b.0 (l ∷ [])) ∙ sym (append-nil (map Lit (b.0 ++ l ∷ []))) ∙ ap (λ (x : Bool). map Lit (b.0 ++ l ∷ []) ++ ending x) (sym p.0);
          kept = λ f. ap (λ (x : List Literal). x ++ l ∷ []) (b.2 f);
        };
      }

-- nothing was seen
pub none_seen : (n : ℕ) → Scanned n [] false false false []
none_seen n = record { end_is = refl; over_is = refl; broken_is = λ e. absurd (false≢true e); begun = λ e. record { all = []; same = refl; kept = λ f. refl } }

is_whole_begun : (ls : List Literal) → is_whole (whole_words ls) ≡ true
is_whole_begun [] = refl
is_whole_begun (l ∷ ls) = is_whole_begun ls

whole_seen : (n : ℕ) (literals : List Literal) (over : Bool) (seen : List Word) → Scanned n literals true false over seen → is_whole seen ≡ true
whole_seen n literals over seen h = let b = h.begun refl in ap is_whole b.same ∙ is_whole_begun b.all

broken_seen : (n : ℕ) (literals : List Literal) (ended over : Bool) (seen : List Word) → Scanned n literals ended true over seen → is_whole seen ≡ false
broken_seen n literals ended over seen h = ap is_whole (sym (append-nil seen)) ∙ h.broken_is refl []

-- the first fault of the words
pub first_of_words : (n : ℕ) (literals : List Literal) (ended broken over too_many : Bool) (seen : List Word) → Scanned n literals ended broken over seen
    → first_kind (word_faults n seen too_many) ≡ cond (not ended) (Some Unfinished) (cond broken (Some Syntax) (cond over (Some BadVariable) (cond too_many (Some TooMany) None)))
first_of_words n literals false broken over too_many seen h = rw (sym h.end_is) refl
first_of_words n literals true true over too_many seen h = rw (sym h.end_is, broken_seen n literals true over seen h) refl
first_of_words n literals true false over too_many seen h = rw (sym h.end_is, whole_seen n literals over seen h, sym h.over_is) refl

-- the literals of words with no fault
pub literals_seen : (n : ℕ) (literals : List Literal) (seen : List Word) → Scanned n literals true false false seen → seen ≡ whole_words literals
literals_seen n literals seen h = let b = h.begun refl in b.same ∙ ap whole_words (sym (b.kept refl))

-- ---- by the code's words

pub took_zero : (n : ℕ) (ls : List Literal) (ended broken over : Bool) (seen : List Word) (t : Word) → variants.Zero ≡ capped t → Scanned n ls ended broken over seen → Scanned n ls true (broken || ended) over (seen ++ t ∷ [])
took_zero n ls ended broken over seen Zero e h = take_end n ls over seen ended broken h
took_zero n ls ended broken over seen Bad e h = absurd cc
took_zero n ls ended broken over seen (Lit l) e h = absurd cc

pub took_bad : (n : ℕ) (ls : List Literal) (ended broken over : Bool) (seen : List Word) (t : Word) → variants.Bad ≡ capped t → Scanned n ls ended broken over seen → Scanned n ls ended true over (seen ++ t ∷ [])
took_bad n ls ended broken over seen Zero e h = absurd cc
took_bad n ls ended broken over seen Bad e h = take_bad n ls over seen ended broken h
took_bad n ls ended broken over seen (Lit l) e h = absurd cc

module _ (n : ℕ) (limit : n ≤ MAX_VARS) (ls : List Literal) (ended broken over : Bool) (seen : List Word) (positive : Bool) (var : ℕ) (r : Option Literal) where
  within_some : (l : Literal) → r ≡ cond (leb var n) (Some (record { var = var; positive = positive })) None → r ≡ Some l → (l ≡ record { var = var; positive = positive }) × (var ≤ n)
  within_some l e is = elim (cases_Bool (leb var n)) [
    | inl t ↦ let x : cond (leb var n) (Some (record { var = var; positive = positive })) None ≡ Some (record { var = var; positive = positive }) = rw t refl in (some_same (sym is ∙ e ∙ x), leb-true var n t)
    | inr f ↦ let x : cond (leb var n) (Some (record { var = var; positive = positive })) None ≡ None = rw f refl in absurd (some_none (sym is ∙ e ∙ x))
  ]
    where
      some_same : {a b : Literal} → Some a ≡ Some b → a ≡ b
      some_same e = cc

      some_none : {a : Literal} → Some a ≡ None → ⊥
      some_none e = cc

  within_none : r ≡ cond (leb var n) (Some (record { var = var; positive = positive })) None → r ≡ None → n < var
  within_none e is = elim (cases_Bool (leb var n)) [
    | inl t ↦ let x : cond (leb var n) (Some (record { var = var; positive = positive })) None ≡ Some (record { var = var; positive = positive }) = rw t refl in absurd (none_some (sym is ∙ e ∙ x))
    | inr f ↦ let x = leb-false var n f in omega (arith, x)
  ]
    where
      none_some : {a : Literal} → None ≡ Some a → ⊥
      none_some e = cc

  pub took_literal : (t : Word) (l : Literal) (pushed : List Literal) → variants.Literal positive var ≡ capped t → r ≡ cond (leb var n) (Some (record { var = var; positive = positive })) None → r ≡ Some l → pushed ≡ ls ++ l ∷ []
      → Scanned n ls ended broken over seen → Scanned n pushed ended (broken || ended) over (seen ++ t ∷ [])
  took_literal Zero l pushed w e is p h = absurd cc
  took_literal Bad l pushed w e is p h = absurd cc
  took_literal (Lit m) l pushed w e is p h =
      let in_limit = within_some l e is in
      let v : var ≡ cap_count m.var = cc in
      let s : positive ≡ m.positive = cc in
      let small : var ≡ m.var = omega (arith, v, in_limit.1, limit) in
      let same : l ≡ m = in_limit.0 ∙ made small s in
      rw (p, same) (take_literal n ls over seen ended broken m (omega (arith, small, in_limit.1)) h)
    where
      made : {a b : ℕ} {x y : Bool} → a ≡ b → x ≡ y → record_of a x ≡ record_of b y
      made e f = cc

  pub took_over : (t : Word) → variants.Literal positive var ≡ capped t → r ≡ cond (leb var n) (Some (record { var = var; positive = positive })) None → r ≡ None
      → Scanned n ls ended broken over seen → Scanned n ls ended (broken || ended) true (seen ++ t ∷ [])
  took_over Zero w e is h = absurd cc
  took_over Bad w e is h = absurd cc
  took_over (Lit m) w e is h =
      let v : var ≡ cap_count m.var = cc in
      take_over n ls over seen ended broken m (omega (arith, v, within_none e is, limit)) h
