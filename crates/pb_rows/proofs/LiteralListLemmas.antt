-- Lists kept as spans: how the lists that contracts see follow the spans.
use Rattle.std.proofs.Common.{◌≡◌, ℕ, ◌+◌, ◌-◌, ◌<◌, ◌≤◌, List, [], ◌∷◌, ◌++◌, length, get_or, map, take, drop, refl, sym, ◌∙◌, ap, subst, arith, All, slice_range, length-drop, length-append}
use Rattle.std.proofs.lemmas.List.{length-map, length-take, get_or-map, take_all, drop_at, take-append-le, drop-append-le, map_push}
use Rattle.std.proofs.lemmas.List.Elements.{All-head, All-map, All-tail, All-push, All-weaker}
use Rattle.pb_inst.specs.Literal.{Literal}
use Rattle.pb_rows.specs.declared.literal_lists.LiteralSpan.{LiteralSpan}
use Rattle.pb_rows.specs.LiteralLists.{lists_of_spans, AreLiteralSpans}

abbrev IsSpanOf : List Literal → LiteralSpan → Type 0
IsSpanOf lits span = (span.start ≤ span.end) × (span.end ≤ length lits)

abbrev list_of : List Literal → LiteralSpan → List Literal
list_of lits span = slice_range lits span.start span.end

pub no_lists : (lits : List Literal) (spans : List LiteralSpan) → spans ≡ [] → lists_of_spans lits spans ≡ []
unfolding lists_of_spans
no_lists lits spans e = ap (map (list_of lits)) e

pub list_count : (lits : List Literal) (spans : List LiteralSpan) (xs : List (List Literal)) → lists_of_spans lits spans ≡ xs → length xs ≡ length spans
unfolding lists_of_spans
list_count lits spans xs view = ap (λ (ls : List (List Literal)). length ls) (sym view) ∙ length-map spans (list_of lits)

-- the list of a span that the code has read
pub read_list : (lits : List Literal) (spans : List LiteralSpan) (xs : List (List Literal)) (i : ℕ) (span : LiteralSpan) → lists_of_spans lits spans ≡ xs → i < length spans → span ≡ get_or spans i span → get_or xs i [] ≡ list_of lits span
unfolding lists_of_spans
read_list lits spans xs i span view h e =
    ap (λ (ls : List (List Literal)). get_or ls i []) (sym view) ∙ (get_or-map (list_of lits) spans i span [] h ∙ ap (list_of lits) (sym e))

pub span_in_range : (lits : List Literal) (spans : List LiteralSpan) (i : ℕ) (span : LiteralSpan) → AreLiteralSpans lits spans → i < length spans → span ≡ get_or spans i span → (span.start ≤ span.end) × (span.end ≤ length lits)
span_in_range lits spans i span are h e = subst (λ (s : LiteralSpan). IsSpanOf lits s) (sym e) (are i span h)

part_stays : (lits more : List Literal) (a b : ℕ) → a ≤ b → b ≤ length lits → slice_range (lits ++ more) a b ≡ slice_range lits a b
part_stays lits more a b low high =
    ap (λ xs. take (b - a) xs) (drop-append-le a lits more (omega arith)) ∙ take-append-le (b - a) (drop a lits) more (omega (arith, length-drop a lits))

lists_stay : (lits more : List Literal) (spans : List LiteralSpan) → AreLiteralSpans lits spans → map (list_of (lits ++ more)) spans ≡ map (list_of lits) spans
lists_stay lits more [] all = refl
lists_stay lits more (span ∷ spans) all =
    let here : IsSpanOf lits span = All-head (IsSpanOf lits) span spans all in
    let same : list_of (lits ++ more) span ≡ list_of lits span = part_stays lits more span.start span.end here.0 here.1 in
    let rest = lists_stay lits more spans (All-tail (IsSpanOf lits) span spans all) in
    cc

new_part : (lits more : List Literal) (a b : ℕ) → a ≡ length lits → b ≡ length lits + length more → slice_range (lits ++ more) a b ≡ more
new_part lits more a b start end =
    ap (λ xs. take (b - a) xs) (drop_at lits more a (sym start)) ∙ take_all (b - a) more (omega arith)

-- a span for literals that are added at the end adds one list at the end
pub push_list : (lits more new_lits : List Literal) (spans new_spans : List LiteralSpan) (xs : List (List Literal)) (span : LiteralSpan) → lists_of_spans lits spans ≡ xs → AreLiteralSpans lits spans → new_lits ≡ lits ++ more → new_spans ≡ spans ++ span ∷ [] → span.start ≡ length lits → span.end ≡ length lits + length more → lists_of_spans new_lits new_spans ≡ xs ++ more ∷ []
unfolding lists_of_spans
push_list lits more new_lits spans new_spans xs span view are new_lits_are new_spans_are start end =
    rw (new_lits_are, new_spans_are, ← view)
    (map_push (list_of (lits ++ more)) spans span ∙ (ap (λ (ls : List (List Literal)). ls ++ list_of (lits ++ more) span ∷ []) (lists_stay lits more spans are) ∙ ap (λ (l : List Literal). map (list_of lits) spans ++ l ∷ []) (new_part lits more span.start span.end start end)))

pub AreLiteralSpans-push : (lits more new_lits : List Literal) (spans new_spans : List LiteralSpan) (span : LiteralSpan) → AreLiteralSpans lits spans → new_lits ≡ lits ++ more → new_spans ≡ spans ++ span ∷ [] → span.start ≡ length lits → span.end ≡ length lits + length more → AreLiteralSpans new_lits new_spans
AreLiteralSpans-push lits more new_lits spans new_spans span are new_lits_are new_spans_are start end =
    let len = length-append lits more in
    let kept : All (IsSpanOf (lits ++ more)) spans = All-weaker (IsSpanOf lits) (IsSpanOf (lits ++ more)) (λ s h. (h.0, omega (arith, h.1))) spans are in
    rw (new_lits_are, new_spans_are) (All-push (IsSpanOf (lits ++ more)) spans span kept (omega arith, omega arith))

-- no list is longer than all literals together
pub short_lists : (lits : List Literal) (spans : List LiteralSpan) (xs : List (List Literal)) → lists_of_spans lits spans ≡ xs → All (λ (ls : List Literal). length ls ≤ length lits) xs
unfolding lists_of_spans
short_lists lits spans xs view =
    subst (λ (ls : List (List Literal)). All (λ (l : List Literal). length l ≤ length lits) ls) view
    (All-map (λ (ls : List Literal). length ls ≤ length lits) (list_of lits) spans (λ k d h. omega (arith, length-take ((get_or spans k d).end - (get_or spans k d).start) (drop (get_or spans k d).start lits), length-drop (get_or spans k d).start lits)))
