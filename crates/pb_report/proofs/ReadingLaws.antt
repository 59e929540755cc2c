-- Each report that is written is read as what it was written of.
use Rattle.std.proofs.Common.{◌≡◌, ℕ, ℤ, pos, negsuc, ◌^◌, ◌<◌, Bool, List, [], ◌∷◌, ◌++◌, length, None, Some, codes, decimal, unsigned_abs, refl, sym, ◌∙◌, ap, subst, arith, append_assoc, append-nil}
use Rattle.std.specs.Prelude.{All}
use Rattle.std.specs.Fmt.{signed_decimal}
use Rattle.std.proofs.lemmas.List.Elements.{All-nil, All-cons}
use Rattle.pb_read.specs.declared.fault.ReadFault.{ReadFault}
use Rattle.pb_read.specs.declared.fault.ReadKind.{ReadKind}
use Rattle.pb_read.specs.declared.fault.ReadKind.TheVariants as kind
use Rattle.pb_read.specs.declared.format.Format.{Format}
use Rattle.pb_report.specs.declared.ends.Refusal.{Refusal}
use Rattle.pb_report.specs.declared.ends.Refusal.TheVariants.{Input, Cubes, Split, TooManyCubes}
use Rattle.pb_report.specs.declared.statuses.Status.{Status}
use Rattle.pb_report.specs.declared.statuses.Status.TheVariants as status
use Rattle.pb_report.specs.Claims.{status_words}
use Rattle.pb_report.specs.Laws.{AttainedIsReadBack, InfeasibleIsReadBack, MemoryIsReadBack, OptimumIsReadBack, RefusalIsReadBack, SatisfiableIsReadBack, UnknownIsReadBack, line_of}
use Rattle.pb_report.specs.Lines.{rows, said, is_cost, is_status, is_values, IsKnown}
use Rattle.pb_report.specs.Numbers.{Fits128}
use Rattle.pb_report.specs.Written.{attained_report, cost_line, fault_text, infeasible_report, kind_name, line, memory_report, optimum_report, refusal_report, refusal_text, satisfiable_report, unknown_report, value_line}
use Rattle.pb_report.proofs.PlainWords.{ArePlain, ink_plain, no_rows, row_of, words_from}
use Rattle.pb_report.proofs.ReadBack.{Says, read_optimum, read_satisfiable, read_unknown, read_unsatisfiable, read_unsupported, value_lines, with_cost, without_cost}
use Rattle.pb_report.proofs.WrittenWords.{cost_row, decimal_ink, end_words, number_of, plain_both, value_row, value_words}

-- what rows say that a text has
says_by : (text : List ℕ) (lines : List (List (List ℕ))) (s : Status) (costs values : List (List (List ℕ))) → rows text ≡ lines → All IsKnown lines → said is_status lines ≡ status_words s ∷ [] → said is_cost lines ≡ costs → said is_values lines ≡ values → Says text s costs values
says_by text lines s costs values are known status_is costs_are values_are = record {
  known = subst (All IsKnown) (sym are) known;
  status_is = ap (said is_status) are ∙ status_is;
  costs_are = ap (said is_cost) are ∙ costs_are;
  values_are = ap (said is_values) are ∙ values_are;
}

known_status : (words : List (List ℕ)) → IsKnown (codes "s" ∷ words)
known_status words = λ e. cc

known_cost : (words : List (List ℕ)) → IsKnown (codes "o" ∷ words)
known_cost words = λ e. cc

known_values : (words : List (List ℕ)) → IsKnown (codes "v" ∷ words)
known_values words = λ e. cc

known_comment : (words : List (List ℕ)) → IsKnown (codes "c" ∷ words)
known_comment words = λ e. cc

-- ---- an assignment and its cost

costly_rows : (format : Format) (cost : ℤ) (said : List ℕ) (values : List Bool) → length values < 2 ^ 32 → unsigned_abs cost < 10 ^ 64 → ArePlain said
    → rows ((cost_line cost ++ line said) ++ value_line format values) ≡ (codes "o" ∷ signed_decimal cost ∷ []) ∷ words_from None said ∷ (codes "v" ∷ (value_words format 1 values ++ end_words format)) ∷ []
costly_rows format cost said values small few plain =
    ap rows (append_assoc (cost_line cost) (line said) (value_line format values))
    ∙ cost_row cost (line said ++ value_line format values) few
    ∙ ap (λ rs. (codes "o" ∷ signed_decimal cost ∷ []) ∷ rs) (row_of said (value_line format values) plain
    ∙ ap (λ rs. words_from None said ∷ rs) (ap rows (sym (append-nil (value_line format values))) ∙ value_row format values [] small
    ∙ ap (λ rs. (codes "v" ∷ (value_words format 1 values ++ end_words format)) ∷ rs) no_rows))

costly_says : (format : Format) (cost : ℤ) (text : List ℕ) (values : List Bool) (s : Status) → rows text ≡ (codes "o" ∷ signed_decimal cost ∷ []) ∷ (codes "s" ∷ status_words s) ∷ (codes "v" ∷ (value_words format 1 values ++ end_words format)) ∷ []
    → Says text s ((signed_decimal cost ∷ []) ∷ []) (value_lines format values)
costly_says format cost text values s are =
    let status_line = codes "s" ∷ status_words s in
    let values_line = codes "v" ∷ (value_words format 1 values ++ end_words format) in
    says_by text ((codes "o" ∷ signed_decimal cost ∷ []) ∷ status_line ∷ values_line ∷ []) s ((signed_decimal cost ∷ []) ∷ []) (value_lines format values) are
    (All-cons IsKnown (codes "o" ∷ signed_decimal cost ∷ []) (status_line ∷ values_line ∷ []) (known_cost (signed_decimal cost ∷ []))
    (All-cons IsKnown status_line (values_line ∷ []) (known_status (status_words s))
    (All-cons IsKnown values_line [] (known_values (value_words format 1 values ++ end_words format)) (All-nil IsKnown))))
    refl refl refl

wide : (z : ℤ) → Fits128 z → unsigned_abs z < 10 ^ 64
wide (pos n) fits = omega (arith, fits)
wide (negsuc n) fits = omega (arith, fits)

pub optimum_is_read_back : OptimumIsReadBack
optimum_is_read_back format cost values range =
    read_optimum format (optimum_report format cost values) ((signed_decimal cost ∷ []) ∷ []) (Some cost) values range.0
    (costly_says format cost (optimum_report format cost values) values status.Optimum (costly_rows format cost (codes "s OPTIMUM FOUND") values range.0 (wide cost range.1) refl))
    (with_cost (signed_decimal cost) cost range.1 (number_of cost (wide cost range.1)))

pub attained_is_read_back : AttainedIsReadBack
attained_is_read_back format cost values range =
    read_satisfiable format (attained_report format cost values) ((signed_decimal cost ∷ []) ∷ []) (Some cost) values range.0
    (costly_says format cost (attained_report format cost values) values status.Satisfiable (costly_rows format cost (codes "s SATISFIABLE") values range.0 (wide cost range.1) refl))
    (with_cost (signed_decimal cost) cost range.1 (number_of cost (wide cost range.1)))

pub satisfiable_is_read_back : SatisfiableIsReadBack
satisfiable_is_read_back format values small =
    let status_line = codes "s" ∷ status_words status.Satisfiable in
    let values_line = codes "v" ∷ (value_words format 1 values ++ end_words format) in
    let are : rows (satisfiable_report format values) ≡ status_line ∷ values_line ∷ [] =
    row_of (codes "s SATISFIABLE") (value_line format values) refl
    ∙ ap (λ rs. status_line ∷ rs) (ap rows (sym (append-nil (value_line format values))) ∙ value_row format values [] small ∙ ap (λ rs. values_line ∷ rs) no_rows) in
    read_satisfiable format (satisfiable_report format values) [] None values small
    (says_by (satisfiable_report format values) (status_line ∷ values_line ∷ []) status.Satisfiable [] (value_lines format values) are
    (All-cons IsKnown status_line (values_line ∷ []) (known_status (status_words status.Satisfiable))
    (All-cons IsKnown values_line [] (known_values (value_words format 1 values ++ end_words format)) (All-nil IsKnown)))
    refl refl refl)
    without_cost

-- ---- no assignment

-- a line of a status alone
status_alone : (text : List ℕ) (s : Status) → ArePlain text → words_from None text ≡ codes "s" ∷ status_words s → Says (line text) s [] []
status_alone text s plain is =
    says_by (line text) ((codes "s" ∷ status_words s) ∷ []) s [] []
    (ap rows (sym (append-nil (line text))) ∙ row_of text [] plain ∙ ap (λ rs. words_from None text ∷ rs) no_rows ∙ ap (λ ws. ws ∷ []) is)
    (All-cons IsKnown (codes "s" ∷ status_words s) [] (known_status (status_words s)) (All-nil IsKnown))
    refl refl refl

-- the same after a comment
status_noted : (note text : List ℕ) (words : List (List ℕ)) (s : Status) → ArePlain note → words_from None note ≡ codes "c" ∷ words → ArePlain text → words_from None text ≡ codes "s" ∷ status_words s → Says (line note ++ line text) s [] []
status_noted note text words s noted note_is plain is =
    let comment = codes "c" ∷ words in
    says_by (line note ++ line text) (comment ∷ (codes "s" ∷ status_words s) ∷ []) s [] []
    (row_of note (line text) noted
    ∙ ap (λ ws. ws ∷ rows (line text)) note_is
    ∙ ap (λ rs. comment ∷ rs) (ap rows (sym (append-nil (line text))) ∙ row_of text [] plain ∙ ap (λ rs. words_from None text ∷ rs) no_rows ∙ ap (λ ws. ws ∷ []) is))
    (All-cons IsKnown comment ((codes "s" ∷ status_words s) ∷ []) (known_comment words)
    (All-cons IsKnown (codes "s" ∷ status_words s) [] (known_status (status_words s)) (All-nil IsKnown)))
    refl refl refl

pub infeasible_is_read_back : InfeasibleIsReadBack
infeasible_is_read_back format n = read_unsatisfiable format n infeasible_report (status_alone (codes "s UNSATISFIABLE") status.Unsatisfiable refl refl)

pub unknown_is_read_back : UnknownIsReadBack
unknown_is_read_back format n = read_unknown format n unknown_report (status_alone (codes "s UNKNOWN") status.Unknown refl refl)

pub memory_is_read_back : MemoryIsReadBack
memory_is_read_back format n =
    read_unknown format n memory_report
    (status_noted (codes "c refused: Memory") (codes "s UNKNOWN") (codes "refused:" ∷ codes "Memory" ∷ []) status.Unknown refl refl refl refl)

kind_plain : (k : ReadKind) → ArePlain (kind_name k)
kind_plain kind.Unfinished = refl
kind_plain kind.Syntax = refl
kind_plain kind.NonLinear = refl
kind_plain kind.LateObjective = refl
kind_plain kind.BadVariable = refl
kind_plain kind.TooLarge = refl
kind_plain kind.TooMany = refl
kind_plain kind.BadHeader = refl
kind_plain kind.TooFewClauses = refl
kind_plain kind.TooManyClauses = refl
kind_plain kind.ClauseAfterCube = refl
kind_plain kind.Memory = refl

fault_plain : (fault : ReadFault) → fault.line < 2 ^ 64 → ArePlain (fault_text fault)
fault_plain fault small =
    plain_both (kind_name fault.kind ++ codes " at line ") (decimal fault.line)
    (plain_both (kind_name fault.kind) (codes " at line ") (kind_plain fault.kind) refl)
    (ink_plain (decimal fault.line) (decimal_ink fault.line (omega arith)).0)

refusal_plain : (why : Refusal) → line_of why < 2 ^ 64 → ArePlain (refusal_text why)
refusal_plain (Input fault) small = plain_both (codes "c refused: ") (fault_text fault) refl (fault_plain fault small)
refusal_plain (Cubes fault) small = plain_both (codes "c refused cubes: ") (fault_text fault) refl (fault_plain fault small)
refusal_plain Split small = refl
refusal_plain TooManyCubes small = refl

-- the words after the `c`
abbrev noted_words : Refusal → List (List ℕ)
noted_words (Input fault) = words_from None (codes "refused: " ++ fault_text fault)
noted_words (Cubes fault) = words_from None (codes "refused cubes: " ++ fault_text fault)
noted_words Split = words_from None (codes "refused split: BadSplit")
noted_words TooManyCubes = words_from None (codes "refused cubes: TooMany")

refusal_noted : (why : Refusal) → words_from None (refusal_text why) ≡ codes "c" ∷ noted_words why
refusal_noted (Input fault) = refl
refusal_noted (Cubes fault) = refl
refusal_noted Split = refl
refusal_noted TooManyCubes = refl

pub refusal_is_read_back : RefusalIsReadBack
refusal_is_read_back format n why small =
    read_unsupported format n (refusal_report why)
    (status_noted (refusal_text why) (codes "s UNSUPPORTED") (noted_words why) status.Unsupported (refusal_plain why small) (refusal_noted why) refl refl)
