-- How one more word of the `v` lines is taken.
use Rattle.std.proofs.Common.{◌≡◌, ◌≢◌, ℕ, ◌-◌, ◌<◌, ◌≤◌, Bool, true, false, cond, List, [], ◌∷◌, ◌++◌, length, map, get_or, refl, sym, ◌∙◌, ap, subst, arith, length-append}
use Rattle.std.specs.Prelude.{slice_set}
use Rattle.std.specs.List.{AllZip}
use Rattle.std.proofs.lemmas.Bool.{false≢true}
use Rattle.std.proofs.lemmas.List.{append-nil, get_or-set_other, get_or-set_same, length-set, map-append}
use Rattle.std.proofs.lemmas.List.Elements.{All-push}
use Rattle.std.proofs.lemmas.List.Quantifiers.{all_pairs_push}
use Rattle.pb_inst.specs.Literal.{Literal}
use Rattle.pb_inst.specs.Meaning.{literal_value}
use Rattle.pb_report.specs.declared.values.Values.{Values}
use Rattle.pb_report.specs.declared.words.ValueWord.{ValueWord}
use Rattle.pb_report.specs.declared.words.ValueWord.TheVariants as value
use Rattle.pb_report.specs.Values.{AreTaken, IsValueWord, written}

abbrev pub spelling : Literal → ValueWord
spelling l = value.Literal l.positive l.var

zip_push : (R : List ℕ → ValueWord → Type 0) (xs : List (List ℕ)) (ys : List ValueWord) (x : List ℕ) (y : ValueWord) → AllZip R xs ys → R x y → AllZip R (xs ++ x ∷ []) (ys ++ y ∷ [])
zip_push R [] [] x y h r = (r, tt)
zip_push R [] (z ∷ ys) x y h r = absurd h
zip_push R (w ∷ xs) [] x y h r = absurd h
zip_push R (w ∷ xs) (z ∷ ys) x y h r = (h.0, zip_push R xs ys x y h.1 r)

-- one literal more, before an end
written_more : (lits : List Literal) (l : Literal) (ended : Bool) → ended ≡ false → written (lits ++ l ∷ []) ended ≡ written lits ended ++ spelling l ∷ []
written_more lits l true before = absurd (false≢true (sym before))
written_more lits l false before = append-nil (map spelling (lits ++ l ∷ [])) ∙ map-append spelling lits (l ∷ []) ∙ ap (λ ws. ws ++ spelling l ∷ []) (sym (append-nil (map spelling lits)))

-- the end
written_end : (lits : List Literal) (ended : Bool) → ended ≡ false → written lits true ≡ written lits ended ++ value.End ∷ []
written_end lits true before = absurd (false≢true (sym before))
written_end lits false before = ap (λ ws. ws ++ value.End ∷ []) (sym (append-nil (map spelling lits)))

-- the value of a literal is by that of its variable
abbrev pub by_value : Bool → Bool → ℕ
by_value sign b = cond sign (cond b 1 0) (1 - cond b 1 0)

pub same_sign : (sign : Bool) → by_value sign sign ≡ 1
same_sign true = refl
same_sign false = refl

-- a variable that is seen differs from one that is not
differs : (seen : List Bool) (v w : ℕ) → get_or seen (v - 1) false ≡ true → get_or seen (w - 1) false ≡ false → v ≢ w
differs seen v w is isnt e = false≢true (sym isnt ∙ ap (λ n. get_or seen (n - 1) false) (sym e) ∙ is)

pub other_place : (v w : ℕ) → 1 ≤ v → 1 ≤ w → v ≢ w → (v - 1) ≢ (w - 1)
other_place v w low low' ne = λ e. ne (omega (arith, e))

-- a value that is given leaves those of other variables
still_true : (given : List Bool) (m : Literal) (var : ℕ) (b : Bool) → (m.var - 1) ≢ (var - 1) → literal_value given m ≡ 1 → literal_value (slice_set given (var - 1) b) m ≡ 1
still_true given m var b ne is = ap (by_value m.positive) (get_or-set_other given (var - 1) (m.var - 1) b false ne) ∙ is

pub given_one : (n : ℕ) (taken : List (List ℕ)) (word : List ℕ) (v : Values) (positive : Bool) (var : ℕ) → AreTaken n taken v → v.ended ≡ false → IsValueWord v.format word (value.Literal positive var) → 1 ≤ var → var ≤ length v.given → 1 ≤ v.left → get_or v.seen (var - 1) false ≡ false
    → AreTaken n (taken ++ word ∷ []) (record { format = v.format; given = slice_set v.given (var - 1) positive; seen = slice_set v.seen (var - 1) true; left = v.left - 1; ended = v.ended })
given_one n taken word v positive var h before spelled low high some unseen =
    let l : Literal = record { var = var; positive = positive } in
    let given_count : length v.given ≡ n = h.are_of.for_all_variables in
    let seen_count : length v.seen ≡ n = h.seen_count in
    let in_given : var - 1 < length v.given = omega arith in
    let in_seen : var - 1 < length v.seen = omega arith in
    let apart : (k : ℕ) (d : Literal) → k < length h.lits → (get_or h.lits k d).var ≢ var = λ k d lt. differs v.seen (get_or h.lits k d).var var (h.seen k d lt) unseen in
    let places : (k : ℕ) (d : Literal) → k < length h.lits → ((get_or h.lits k d).var - 1) ≢ (var - 1) = λ k d lt. other_place (get_or h.lits k d).var var (h.are_of.in_range k d lt).0 low (apart k d lt) in
    record {
      lits = h.lits ++ l ∷ [];
      spelled = subst (AllZip (IsValueWord v.format) (taken ++ word ∷ [])) (sym (written_more h.lits l v.ended before)) (zip_push (IsValueWord v.format) taken (written h.lits v.ended) word (spelling l) h.spelled spelled);
      count = omega (arith, length-append h.lits (l ∷ []), h.count);
      are_of = record {
        for_all_variables = length-set v.given (var - 1) positive ∙ given_count;
        in_range = All-push (λ m. (1 ≤ m.var) × (m.var ≤ n)) h.lits l h.are_of.in_range (low, omega arith);
        once = all_pairs_push (λ m o. m.var ≢ o.var) h.lits l h.are_of.once apart;
        true_literals = All-push (λ m. literal_value (slice_set v.given (var - 1) positive) m ≡ 1) h.lits l
            (λ k d lt. still_true v.given (get_or h.lits k d) var positive (places k d lt) (h.are_of.true_literals k d lt))
            (ap (by_value positive) (get_or-set_same v.given (var - 1) positive false in_given) ∙ same_sign positive);
      };
      seen_count = length-set v.seen (var - 1) true ∙ seen_count;
      seen = All-push (λ m. get_or (slice_set v.seen (var - 1) true) (m.var - 1) false ≡ true) h.lits l
          (λ k d lt. get_or-set_other v.seen (var - 1) ((get_or h.lits k d).var - 1) true false (places k d lt) ∙ h.seen k d lt)
          (get_or-set_same v.seen (var - 1) true false in_seen);
    }

pub ended_one : (n : ℕ) (taken : List (List ℕ)) (word : List ℕ) (v : Values) → AreTaken n taken v → v.ended ≡ false → IsValueWord v.format word value.End
    → AreTaken n (taken ++ word ∷ []) (record { format = v.format; given = v.given; seen = v.seen; left = v.left; ended = true })
ended_one n taken word v h before spelled = record {
  lits = h.lits;
  spelled = subst (AllZip (IsValueWord v.format) (taken ++ word ∷ [])) (sym (written_end h.lits v.ended before)) (zip_push (IsValueWord v.format) taken (written h.lits v.ended) word value.End h.spelled spelled);
  count = h.count;
  are_of = h.are_of;
  seen_count = h.seen_count;
  seen = h.seen;
}
