-- Why a report that was written claims what it was written of, and nothing else.
use Rattle.std.proofs.Common.{◌≡◌, ◌≢◌, ℕ, ℤ, zero, suc, ◌+◌, ◌-◌, ◌^◌, ◌<◌, ◌≤◌, Bool, true, false, cond, List, [], ◌∷◌, ◌++◌, length, map, get_or, Option, None, Some, codes, decimal, refl, sym, ◌∙◌, ap, ap₂, subst, arith, append-nil, inl, inr, ⊎_elim, ext_get_or}
use Rattle.std.specs.Prelude.{All}
use Rattle.std.specs.List.{AllZip, flat_map}
use Rattle.std.specs.Option.{IfSome}
use Rattle.std.specs.Str.Parse.{AllDigits, digits_value, signed_digits_value}
use Rattle.std.proofs.lemmas.List.Elements.{All-cons, All-nil}
use Rattle.pb_inst.specs.Literal.{Literal}
use Rattle.pb_inst.specs.Meaning.{literal_value}
use Rattle.pb_inst.specs.Cubes.{MakesTrue}
use Rattle.pb_read.specs.declared.format.Format.{Format}
use Rattle.pb_read.specs.declared.format.Format.TheVariants.{Opb, Cnf, Icnf}
use Rattle.pb_read.specs.Text.{is_text}
use Rattle.pb_report.specs.declared.claims.Claim.{Claim}
use Rattle.pb_report.specs.declared.claims.Claim.TheVariants.{Optimum, Satisfiable, Unsatisfiable, Unknown, Unsupported}
use Rattle.pb_report.specs.declared.claims.Witness.{Witness}
use Rattle.pb_report.specs.declared.statuses.Status.{Status}
use Rattle.pb_report.specs.declared.statuses.Status.TheVariants as status
use Rattle.pb_report.specs.declared.words.ValueWord.{ValueWord}
use Rattle.pb_report.specs.declared.words.ValueWord.TheVariants as value
use Rattle.pb_report.specs.Claims.{status_of, status_words, witness_of}
use Rattle.pb_report.specs.Laws.{IsReadAs}
use Rattle.pb_report.specs.Lines.{rows, said, is_cost, is_status, is_values, IsKnown}
use Rattle.pb_report.specs.Numbers.{Fits128, IsCount, IsNumber}
use Rattle.pb_report.specs.Report.{AreValuesOf, Claims, IsCost, IsLastCost}
use Rattle.pb_report.specs.Values.{AreOf, AreSpelled, IsDimacsWord, IsOpbWord, IsValueWord, has_end, written}
use Rattle.pb_report.proofs.Lines.{no_push}
use Rattle.pb_report.proofs.Taking.{by_value, same_sign, spelling}
use Rattle.pb_report.proofs.WrittenWords.{bare_sign, count_of, end_words, has_few_digits, value_words}

-- ---- the words of the values spell them

-- the literals that the values make true, the first of them of the variable n
abbrev literals_of : ℕ → List Bool → List Literal
literals_of n [] = []
literals_of n (first ∷ values) = record { var = n; positive = first } ∷ literals_of (n + 1) values

literals_count : (n : ℕ) (values : List Bool) → length (literals_of n values) ≡ length values
literals_count n [] = refl
literals_count n (first ∷ values) = ap suc (literals_count (n + 1) values)

literal_at : (n : ℕ) (values : List Bool) (k : ℕ) (d : Literal) → k < length values → get_or (literals_of n values) k d ≡ record { var = n + k; positive = get_or values k false }
literal_at n [] k d within = absurd (omega arith)
literal_at n (first ∷ values) zero d within = ap (λ (v : ℕ). let l : Literal = record { var = v; positive = first } in l) (let e : n ≡ n + 0 = omega arith in e)
literal_at n (first ∷ values) (suc k) d within =
    literal_at (n + 1) values k d (omega arith)
    ∙ ap (λ (v : ℕ). let l : Literal = record { var = v; positive = get_or values k false } in l) (let e : n + 1 + k ≡ n + suc k = omega arith in e)

word_spells : (format : Format) (positive : Bool) (n : ℕ) → n < 10 ^ 64 → IsValueWord format (bare_sign format positive ++ decimal n) (value.Literal positive n)
word_spells Opb true n small = (decimal n, refl, count_of n small)
word_spells Opb false n small = (decimal n, inl refl, count_of n small)
word_spells Cnf true n small = count_of n small
word_spells Cnf false n small = (decimal n, refl, count_of n small)
word_spells Icnf true n small = count_of n small
word_spells Icnf false n small = (decimal n, refl, count_of n small)

words_spell : (format : Format) (n : ℕ) (values : List Bool) → n + length values ≤ 2 ^ 32 → AllZip (IsValueWord format) (value_words format n values ++ end_words format) (written (literals_of n values) (has_end format))
words_spell Opb n [] small = tt
words_spell Cnf n [] small = (refl, tt)
words_spell Icnf n [] small = (refl, tt)
words_spell format n (positive ∷ values) small = (word_spells format positive n (has_few_digits n (omega arith)), words_spell format (n + 1) values (omega arith))

are_of : (values : List Bool) → AreOf (length values) (literals_of 1 values) values
are_of values = record {
  for_all_variables = refl;
  in_range = λ k d within.
      let here : k < length values = let count = literals_count 1 values in omega arith in
      subst (λ (l : Literal). (1 ≤ l.var) × (l.var ≤ length values)) (sym (literal_at 1 values k d here)) (omega arith, omega arith);
  once = λ i j d before within.
      let here : j < length values = let count = literals_count 1 values in omega arith in
      let first = literal_at 1 values i d (omega arith) in
      let second = literal_at 1 values j d here in
      λ e. let same : 1 + i ≡ 1 + j = sym (ap (λ (l : Literal). l.var) first) ∙ e ∙ ap (λ (l : Literal). l.var) second in absurd (omega arith);
  true_literals = λ k d within.
      let here : k < length values = let count = literals_count 1 values in omega arith in
      subst (λ (l : Literal). literal_value values l ≡ 1) (sym (literal_at 1 values k d here))
      (ap (λ n. by_value (get_or values k false) (get_or values n false)) (let e : 1 + k - 1 ≡ k = omega arith in e) ∙ same_sign (get_or values k false));
}

spell : (format : Format) (values : List Bool) → length values < 2 ^ 32 → AreSpelled format (length values) (value_words format 1 values ++ end_words format) values
spell format values small = record {
  lits = literals_of 1 values;
  spelled = words_spell format 1 values (omega arith);
  count = literals_count 1 values;
  are_of = are_of values;
}

-- ---- and no others

head_is : (a b : ℕ) (xs ys : List ℕ) → a ∷ xs ≡ b ∷ ys → a ≡ b
head_is a b xs ys e = cc

same_count : (n var : ℕ) (digits : List ℕ) → n < 10 ^ 64 → digits ≡ decimal n → IsCount digits var → var ≡ n
same_count n var digits small e h = sym h.1 ∙ ap (digits_value 10) e ∙ (count_of n small).1

-- digits don't begin with `-` (45)
unsigned : (digits : List ℕ) → AllDigits 10 (45 ∷ digits) → ⊥
unsigned digits h = let small : 36 < 10 = h.0 in omega arith

opb_read : (sign positive : Bool) (n var : ℕ) → n < 10 ^ 64 → IsOpbWord (bare_sign Opb sign ++ decimal n) (value.Literal positive var) → (var ≡ n) × (positive ≡ sign)
opb_read true true n var small (digits, is, count) = let same : digits ≡ decimal n = cc in (same_count n var digits small same count, refl)
opb_read true false n var small (digits, is, count) = absurd (⊎_elim
    (λ e. let no = head_is 120 45 (decimal n) (120 ∷ digits) e in omega (arith, no))
    (λ e. let no = head_is 120 126 (decimal n) (120 ∷ digits) e in omega (arith, no)) is)
opb_read false true n var small (digits, is, count) = absurd (let no = head_is 45 120 (120 ∷ decimal n) digits is in omega (arith, no))
opb_read false false n var small (digits, inl is, count) = let same : digits ≡ decimal n = cc in (same_count n var digits small same count, refl)
opb_read false false n var small (digits, inr is, count) = absurd (let no = head_is 45 126 (120 ∷ decimal n) (120 ∷ digits) is in omega (arith, no))

dimacs_read : (sign positive : Bool) (n var : ℕ) → n < 10 ^ 64 → IsDimacsWord (bare_sign Cnf sign ++ decimal n) (value.Literal positive var) → (var ≡ n) × (positive ≡ sign)
dimacs_read true true n var small count = (same_count n var (decimal n) small refl count, refl)
dimacs_read true false n var small (digits, is, count) = absurd (unsigned digits (subst (AllDigits 10) is (count_of n small).0.1))
dimacs_read false true n var small count = absurd (unsigned (decimal n) count.0.1)
dimacs_read false false n var small (digits, is, count) = let same : digits ≡ decimal n = cc in (same_count n var digits small same count, refl)

word_read : (format : Format) (sign positive : Bool) (n var : ℕ) → n < 10 ^ 64 → IsValueWord format (bare_sign format sign ++ decimal n) (value.Literal positive var) → (var ≡ n) × (positive ≡ sign)
word_read Opb sign positive n var small h = opb_read sign positive n var small h
word_read Cnf sign positive n var small h = dimacs_read sign positive n var small h
word_read Icnf true positive n var small h = dimacs_read true positive n var small h
word_read Icnf false positive n var small h = dimacs_read false positive n var small h

same_literal : (l : Literal) (n : ℕ) (sign : Bool) → l.var ≡ n → l.positive ≡ sign → l ≡ record { var = n; positive = sign }
same_literal l n sign var positive = ap₂ (λ (v : ℕ) (b : Bool). let m : Literal = record { var = v; positive = b } in m) var positive

words_read : (format : Format) (n : ℕ) (values : List Bool) (lits : List Literal) (ends : List (List ℕ)) (after : List ValueWord) → n + length values ≤ 2 ^ 32 → length lits ≡ length values → AllZip (IsValueWord format) (value_words format n values ++ ends) (map spelling lits ++ after) → lits ≡ literals_of n values
words_read format n [] [] ends after small count h = refl
words_read format n [] (l ∷ lits) ends after small count h = absurd (omega arith)
words_read format n (positive ∷ values) [] ends after small count h = absurd (omega arith)
words_read format n (positive ∷ values) (l ∷ lits) ends after small count h =
    let one = word_read format positive l.positive n l.var (has_few_digits n (omega arith)) h.0 in
    ap₂ (λ (m : Literal) (ms : List Literal). m ∷ ms) (same_literal l n positive one.0 one.1) (words_read format (n + 1) values lits ends after (omega arith) (omega arith) h.1)

value_is : (sign b : Bool) → by_value sign b ≡ 1 → b ≡ sign
value_is true true h = refl
value_is true false h = absurd (omega arith)
value_is false true h = absurd (omega arith)
value_is false false h = refl

values_read : (format : Format) (values read : List Bool) → length values < 2 ^ 32 → AreSpelled format (length values) (value_words format 1 values ++ end_words format) read → read ≡ values
values_read format values read small h =
    let same : h.lits ≡ literals_of 1 values = words_read format 1 values h.lits (end_words format) _ (omega arith) h.count h.spelled in
    let trues : MakesTrue read (literals_of 1 values) = subst (MakesTrue read) same h.are_of.true_literals in
    ext_get_or false read values h.are_of.for_all_variables (λ k within.
    let here : k < length values = let count = h.are_of.for_all_variables in omega arith in
    let d : Literal = record { var = 0; positive = false } in
    let one : literal_value read (record { var = 1 + k; positive = get_or values k false }) ≡ 1 =
    subst (λ (l : Literal). literal_value read l ≡ 1) (literal_at 1 values k d here) (trues k d (let count = literals_count 1 values in omega arith)) in
    value_is (get_or values k false) (get_or read k false)
    (ap (λ n. by_value (get_or values k false) (get_or read n false)) (let e : k ≡ 1 + k - 1 = omega arith in e) ∙ one))

-- ---- the status

abbrev first_word : List (List ℕ) → List ℕ
first_word [] = []
first_word (word ∷ words) = word

-- the status that begins with the word
abbrev status_by : List (List ℕ) → Status
status_by words =
    cond (is_text (codes "OPTIMUM") (first_word words)) status.Optimum
    (cond (is_text (codes "SATISFIABLE") (first_word words)) status.Satisfiable
    (cond (is_text (codes "UNSATISFIABLE") (first_word words)) status.Unsatisfiable
    (cond (is_text (codes "UNKNOWN") (first_word words)) status.Unknown status.Unsupported)))

status_by_words : (s : Status) → status_by (status_words s) ≡ s
status_by_words status.Optimum = refl
status_by_words status.Satisfiable = refl
status_by_words status.Unsatisfiable = refl
status_by_words status.Unknown = refl
status_by_words status.Unsupported = refl

abbrev first_line : List (List (List ℕ)) → List (List ℕ)
first_line [] = []
first_line (line ∷ lines) = line

same_status : (s t : Status) → status_words s ∷ [] ≡ status_words t ∷ [] → s ≡ t
same_status s t e = sym (status_by_words s) ∙ ap (λ lines. status_by (first_line lines)) e ∙ status_by_words t

-- ---- the cost

only_last : {X : Type 0} (x last : X) (earlier : List X) → x ∷ [] ≡ earlier ++ last ∷ [] → last ≡ x
only_last x last [] e = cc
only_last x last (y ∷ earlier) e = absurd (no_push earlier last (let rest : earlier ++ last ∷ [] ≡ [] = cc in rest))

no_cost : (o : Option ℤ) → IsLastCost [] o → o ≡ None
no_cost None h = refl
no_cost (Some z) (earlier, last, is, all, costs) = absurd (no_push earlier last (sym is))

one_cost : (word : List ℕ) (z : ℤ) (o : Option ℤ) → IsNumber word z → IsLastCost ((word ∷ []) ∷ []) o → o ≡ Some z
one_cost word z None number h = cc
one_cost word z (Some y) number (earlier, last, is, all, (other, only, costs)) =
    let same_line : last ≡ word ∷ [] = only_last (word ∷ []) last earlier is in
    let same : other ≡ word = cc in
    ap Some (sym costs.1 ∙ ap (signed_digits_value 10) same ∙ number.1)

-- ---- what lines say is what they claim

-- what the lines of a text say, by their kinds
pub record Says (text : List ℕ) (said_status : Status) (costs values : List (List (List ℕ))) : Type 0 where
  pub known : All IsKnown (rows text)
  pub status_is : said is_status (rows text) ≡ status_words said_status ∷ []
  pub costs_are : said is_cost (rows text) ≡ costs
  pub values_are : said is_values (rows text) ≡ values

-- each number of the words has 128 bits
abbrev IsNarrow : List (List ℕ) → Type 0
IsNarrow words = (z : ℤ) → IsCost words z → Fits128 z

-- the last cost of such lines is this and no other, and each has 128 bits
abbrev pub IsOnlyCost : List (List (List ℕ)) → Option ℤ → Type 0
IsOnlyCost costs cost = IsLastCost costs cost × ((o : Option ℤ) → IsLastCost costs o → o ≡ cost) × All IsNarrow costs

pub without_cost : IsOnlyCost [] None
without_cost = (refl, no_cost, All-nil IsNarrow)

same_number : (word other : List ℕ) (y z : ℤ) → other ≡ word → IsNumber other y → IsNumber word z → z ≡ y
same_number word other y z same number is = sym is.1 ∙ ap (signed_digits_value 10) (sym same) ∙ number.1

narrow_word : (word : List ℕ) (z : ℤ) → Fits128 z → IsNumber word z → IsNarrow (word ∷ [])
narrow_word word z fits number y (other, only, is) = let same : other ≡ word = cc in subst Fits128 (same_number word other y z same is number) fits

pub with_cost : (word : List ℕ) (z : ℤ) → Fits128 z → IsNumber word z → IsOnlyCost ((word ∷ []) ∷ []) (Some z)
with_cost word z fits number = (
  ([], word ∷ [], refl, All-nil (λ words. (y : ℤ) × IsCost words y), (word, refl, number)),
  λ o h. one_cost word z o number h,
  All-cons IsNarrow (word ∷ []) [] (narrow_word word z fits number) (All-nil IsNarrow),
)

status_read : (format : Format) (n : ℕ) (text : List ℕ) (s : Status) (costs values : List (List (List ℕ))) (other : Claim) → Says text s costs values → Claims format n text other → status_of other ≡ s
status_read format n text s costs values other says h = same_status (status_of other) s (sym h.status ∙ says.status_is)

-- one line of the values' words
abbrev pub value_lines : Format → List Bool → List (List (List ℕ))
value_lines format values = (value_words format 1 values ++ end_words format) ∷ []

witness_read : (format : Format) (text : List ℕ) (s : Status) (costs : List (List (List ℕ))) (cost : Option ℤ) (values : List Bool) (other : Claim) (w : Witness) → length values < 2 ^ 32 → Says text s costs (value_lines format values) → IsOnlyCost costs cost → Claims format (length values) text other → witness_of other ≡ Some w
    → w ≡ record { cost = cost; values = values }
witness_read format text s costs cost values other w small says only h is =
    let told : w.cost ≡ h.cost = subst (λ (o : Option Witness). IfSome o (λ v. v.cost ≡ h.cost)) is h.cost_is in
    let last : h.cost ≡ cost = only.1 h.cost (subst (λ lines. IsLastCost lines h.cost) says.costs_are h.last_cost) in
    let spelled : AreSpelled format (length values) (flat_map (λ words. words) (said is_values (rows text))) w.values = (subst (AreValuesOf format (length values) (said is_values (rows text))) is h.values).1 in
    let read : w.values ≡ values = values_read format values w.values small
    (subst (λ words. AreSpelled format (length values) words w.values) (ap (flat_map (λ words. words)) says.values_are ∙ append-nil (value_words format 1 values ++ end_words format)) spelled) in
    ap₂ (λ (c : Option ℤ) (vs : List Bool). let v : Witness = record { cost = c; values = vs } in v) (told ∙ last) read

-- the claim of an assignment
claims_values : (format : Format) (text : List ℕ) (costs : List (List (List ℕ))) (cost : Option ℤ) (values : List Bool) (claim : Claim) → length values < 2 ^ 32 → Says text (status_of claim) costs (value_lines format values) → IsOnlyCost costs cost → witness_of claim ≡ Some (record { cost = cost; values = values })
    → Claims format (length values) text claim
claims_values format text costs cost values claim small says only is = record {
  known = says.known;
  status = says.status_is;
  cost = cost;
  last_cost = subst (λ lines. IsLastCost lines cost) (sym says.costs_are) only.0;
  cost_is = subst (λ (o : Option Witness). IfSome o (λ w. w.cost ≡ cost)) (sym is) refl;
  values = subst (AreValuesOf format (length values) (said is_values (rows text))) (sym is) (
    subst (λ lines. lines ≢ []) (sym says.values_are) (λ e. cc),
    subst (λ words. AreSpelled format (length values) words values) (sym (ap (flat_map (λ words. words)) says.values_are ∙ append-nil (value_words format 1 values ++ end_words format))) (spell format values small),
  );
}

pub read_optimum : (format : Format) (text : List ℕ) (costs : List (List (List ℕ))) (cost : Option ℤ) (values : List Bool) → length values < 2 ^ 32 → Says text status.Optimum costs (value_lines format values) → IsOnlyCost costs cost
    → IsReadAs format (length values) text (Optimum (record { cost = cost; values = values }))
read_optimum format text costs cost values small says only = record {
  claims = claims_values format text costs cost values (Optimum (record { cost = cost; values = values })) small says only refl;
  narrow = subst (All IsNarrow) (sym says.costs_are) only.2;
  nothing_else = λ other h. by_claim other h (status_read format (length values) text status.Optimum costs (value_lines format values) other says h);
}
  where
    by_claim : (other : Claim) → Claims format (length values) text other → status_of other ≡ status.Optimum → other ≡ Optimum (record { cost = cost; values = values })
    by_claim (Optimum w) h e = ap Optimum (witness_read format text status.Optimum costs cost values (Optimum w) w small says only h refl)
    by_claim (Satisfiable w) h e = cc
    by_claim Unsatisfiable h e = cc
    by_claim Unknown h e = cc
    by_claim Unsupported h e = cc

pub read_satisfiable : (format : Format) (text : List ℕ) (costs : List (List (List ℕ))) (cost : Option ℤ) (values : List Bool) → length values < 2 ^ 32 → Says text status.Satisfiable costs (value_lines format values) → IsOnlyCost costs cost
    → IsReadAs format (length values) text (Satisfiable (record { cost = cost; values = values }))
read_satisfiable format text costs cost values small says only = record {
  claims = claims_values format text costs cost values (Satisfiable (record { cost = cost; values = values })) small says only refl;
  narrow = subst (All IsNarrow) (sym says.costs_are) only.2;
  nothing_else = λ other h. by_claim other h (status_read format (length values) text status.Satisfiable costs (value_lines format values) other says h);
}
  where
    by_claim : (other : Claim) → Claims format (length values) text other → status_of other ≡ status.Satisfiable → other ≡ Satisfiable (record { cost = cost; values = values })
    by_claim (Optimum w) h e = cc
    by_claim (Satisfiable w) h e = ap Satisfiable (witness_read format text status.Satisfiable costs cost values (Satisfiable w) w small says only h refl)
    by_claim Unsatisfiable h e = cc
    by_claim Unknown h e = cc
    by_claim Unsupported h e = cc

-- the claim of no assignment
claims_none : (format : Format) (n : ℕ) (text : List ℕ) (claim : Claim) → Says text (status_of claim) [] [] → witness_of claim ≡ None → Claims format n text claim
claims_none format n text claim says is = record {
  known = says.known;
  status = says.status_is;
  cost = None;
  last_cost = says.costs_are;
  cost_is = subst (λ (o : Option Witness). IfSome o (λ w. w.cost ≡ None)) (sym is) tt;
  values = subst (AreValuesOf format n (said is_values (rows text))) (sym is) says.values_are;
}

unsatisfiable_alone : (other : Claim) → status_of other ≡ status.Unsatisfiable → other ≡ Unsatisfiable
unsatisfiable_alone (Optimum w) e = cc
unsatisfiable_alone (Satisfiable w) e = cc
unsatisfiable_alone Unsatisfiable e = refl
unsatisfiable_alone Unknown e = cc
unsatisfiable_alone Unsupported e = cc

unknown_alone : (other : Claim) → status_of other ≡ status.Unknown → other ≡ Unknown
unknown_alone (Optimum w) e = cc
unknown_alone (Satisfiable w) e = cc
unknown_alone Unsatisfiable e = cc
unknown_alone Unknown e = refl
unknown_alone Unsupported e = cc

unsupported_alone : (other : Claim) → status_of other ≡ status.Unsupported → other ≡ Unsupported
unsupported_alone (Optimum w) e = cc
unsupported_alone (Satisfiable w) e = cc
unsupported_alone Unsatisfiable e = cc
unsupported_alone Unknown e = cc
unsupported_alone Unsupported e = refl

pub read_unsatisfiable : (format : Format) (n : ℕ) (text : List ℕ) → Says text status.Unsatisfiable [] [] → IsReadAs format n text Unsatisfiable
read_unsatisfiable format n text says = record {
  claims = claims_none format n text Unsatisfiable says refl;
  narrow = subst (All IsNarrow) (sym says.costs_are) (All-nil IsNarrow);
  nothing_else = λ other h. unsatisfiable_alone other (status_read format n text status.Unsatisfiable [] [] other says h);
}

pub read_unknown : (format : Format) (n : ℕ) (text : List ℕ) → Says text status.Unknown [] [] → IsReadAs format n text Unknown
read_unknown format n text says = record {
  claims = claims_none format n text Unknown says refl;
  narrow = subst (All IsNarrow) (sym says.costs_are) (All-nil IsNarrow);
  nothing_else = λ other h. unknown_alone other (status_read format n text status.Unknown [] [] other says h);
}

pub read_unsupported : (format : Format) (n : ℕ) (text : List ℕ) → Says text status.Unsupported [] [] → IsReadAs format n text Unsupported
read_unsupported format n text says = record {
  claims = claims_none format n text Unsupported says refl;
  narrow = subst (All IsNarrow) (sym says.costs_are) (All-nil IsNarrow);
  nothing_else = λ other h. unsupported_alone other (status_read format n text status.Unsupported [] [] other says h);
}
