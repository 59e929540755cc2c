-- The text of OPB that is written spells the instance.
use Rattle.std.proofs.Common.{◌≡◌, ℕ, ◌+◌, ◌<◌, ◌≤◌, ◌^◌, List, [], ◌∷◌, ◌++◌, Bool, true, false, not, cond, map, length, codes, decimal, append_assoc, refl, sym, ap, ◌∙◌, arith, one-add, unsigned_abs, Option, None, Some, max}
use Rattle.std.specs.Prelude.{flat_map, fold, take_while, unwrap_or, option_map, IfSome}
use Rattle.std.specs.List.{list_all, AllByRecursion}
use Rattle.std.proofs.lemmas.Bool.{and_parts, and_from, not-true, false≢true}
use Rattle.std.proofs.lemmas.List.{map-append}
use Rattle.pb_inst.specs.declared.constraints.Term.{Term}
use Rattle.pb_inst.specs.declared.limits.TheConstants.{MAX_VARS, SUM_BOUND}
use Rattle.pb_inst.specs.Limits.{total_magnitude, constraint_magnitude, IsProper}
use Rattle.pb_inst.specs.Problem.{LinearConstraint, Problem}
use Rattle.pb_read.specs.declared.format.Format.TheVariants.{Opb}
use Rattle.pb_read.specs.Runs.{first_is, skip_while}
use Rattle.pb_read.specs.Terms.{all_terms, greatest_index}
use Rattle.pb_read.specs.Text.{Placed, is_digit, value, numbered, lines}
use Rattle.pb_read.specs.Opb.{Token, on_line, placed, line_tokens, is_comment, tokens, is_gap, leading_number, header_of, header, first_line, objective_tokens, constraint_tokens, OpbText}
use Rattle.pb_read.proofs.Limits.{limits_from_proper, all_front, all_back, all_map}
use Rattle.pb_write.specs.Text.{constraint_line, objective_line, objective_text, header_text}
use Rattle.pb_write.proofs.Cutting.{is_line, all_lines, lines_joined, line_after}
use Rattle.pb_write.proofs.Numerals.{decimal_numeral, digit_passes, first_append}
use Rattle.pb_write.proofs.OpbWords.{digits_unfed}
use Rattle.pb_write.proofs.OpbLines.{unfed_both, IsLineOf, HasDigits, vars_have_digits, terms_have_digits, constraint_is_line, objective_is_line}

-- ---- the tokens of lines, without their numbers

abbrev bare_tokens : List ℕ → List Token
bare_tokens l = cond (is_comment l) [] (line_tokens l)

items_placed : (n : ℕ) (ts : List Token) → map (λ (t : Placed Token). t.item) (placed n ts) ≡ ts
items_placed n [] = refl
items_placed n (t ∷ ts) = ap (λ (x : List Token). t ∷ x) (items_placed n ts)

items_on_line : (n : ℕ) (l : List ℕ) (b : Bool) → map (λ (t : Placed Token). t.item) (cond b [] (placed n (line_tokens l))) ≡ cond b [] (line_tokens l)
items_on_line n l true = refl
items_on_line n l false = items_placed n (line_tokens l)

items_lines : (n : ℕ) (ls : List (List ℕ)) → map (λ (t : Placed Token). t.item) (flat_map on_line (numbered n ls)) ≡ flat_map bare_tokens ls
items_lines n [] = refl
items_lines n (l ∷ ls) =
    map-append (λ (t : Placed Token). t.item) (on_line (record { item = l; line = n })) (flat_map on_line (numbered (n + 1) ls))
    ∙ ap (λ (x : List Token). x ++ map (λ (t : Placed Token). t.item) (flat_map on_line (numbered (n + 1) ls))) (items_on_line n l (is_comment l))
    ∙ ap (λ (x : List Token). bare_tokens l ++ x) (items_lines (n + 1) ls)

text_items : (text : List ℕ) (ls : List (List ℕ)) → lines text ≡ ls → map (λ (t : Placed Token). t.item) (tokens text) ≡ flat_map bare_tokens ls
unfolding tokens
text_items text ls e = items_lines 1 (lines text) ∙ ap (flat_map bare_tokens) e

line_items : (l : List ℕ) (ts : List Token) → IsLineOf l ts → bare_tokens l ≡ ts
line_items l ts h = rw h.bare h.tokens

-- ---- the lines

-- the objective's line, where there is one
abbrev opb_header : ℕ → ℕ → List ℕ
opb_header n m = header_text Opb n m

abbrev objective_lines : Option (List Term) → List (List ℕ)
objective_lines None = []
objective_lines (Some ts) = objective_line ts ∷ []

abbrev opb_lines : Problem → List (List ℕ)
opb_lines p = opb_header p.vars (length p.constraints) ∷ objective_lines p.objective ++ map constraint_line p.constraints

-- the text of an instance
abbrev pub opb_text : Problem → List ℕ
opb_text p = opb_header p.vars (length p.constraints) ++ objective_text p.objective ++ flat_map constraint_line p.constraints

joined_constraints : (cs : List LinearConstraint) → flat_map (λ (l : List ℕ). l) (map constraint_line cs) ≡ flat_map constraint_line cs
joined_constraints [] = refl
joined_constraints (c ∷ cs) = ap (λ (x : List ℕ). constraint_line c ++ x) (joined_constraints cs)

joined_statements : (o : Option (List Term)) (cs : List LinearConstraint) → flat_map (λ (l : List ℕ). l) (objective_lines o ++ map constraint_line cs) ≡ objective_text o ++ flat_map constraint_line cs
joined_statements None cs = joined_constraints cs
joined_statements (Some ts) cs = ap (λ (x : List ℕ). objective_line ts ++ x) (joined_constraints cs)

joined_lines : (p : Problem) → flat_map (λ (l : List ℕ). l) (opb_lines p) ≡ opb_text p
joined_lines p =
    ap (λ (x : List ℕ). opb_header p.vars (length p.constraints) ++ x) (joined_statements p.objective p.constraints)
    ∙ sym (append_assoc (opb_header p.vars (length p.constraints)) (objective_text p.objective) (flat_map constraint_line p.constraints))

-- the numbers of a constraint have digits
record IsShort (c : LinearConstraint) : Type 0 where
  pub digits : AllByRecursion HasDigits c.terms
  pub magnitude : constraint_magnitude c ≤ SUM_BOUND

abbrev HasShortObjective : Option (List Term) → Type 0
HasShortObjective o = IfSome o (λ ts. AllByRecursion HasDigits ts)

header_is_line : (n m : ℕ) → n < 10 ^ 64 → m < 10 ^ 64 → is_line (opb_header n m) ≡ true
header_is_line n m small few =
    let vars = decimal_numeral n small in
    let constraints = decimal_numeral m few in
    line_after (((codes "* #variable= " ++ decimal n) ++ codes " #constraint= ") ++ decimal m) (codes "\n")
    (unfed_both ((codes "* #variable= " ++ decimal n) ++ codes " #constraint= ") (decimal m)
    (unfed_both (codes "* #variable= " ++ decimal n) (codes " #constraint= ") (unfed_both (codes "* #variable= ") (decimal n) refl (digits_unfed (decimal n) vars.each)) refl) (digits_unfed (decimal m) constraints.each)) refl

constraints_are_lines : (cs : List LinearConstraint) → AllByRecursion IsShort cs → all_lines (map constraint_line cs) ≡ true
constraints_are_lines [] h = refl
constraints_are_lines (c ∷ cs) h =
    let one = constraint_is_line c h.0.digits h.0.magnitude in
    and_from (is_line (constraint_line c)) (all_lines (map constraint_line cs)) one.line (constraints_are_lines cs h.1)

statements_are_lines : (o : Option (List Term)) (cs : List LinearConstraint) → HasShortObjective o → AllByRecursion IsShort cs → all_lines (objective_lines o ++ map constraint_line cs) ≡ true
statements_are_lines None cs short h = constraints_are_lines cs h
statements_are_lines (Some ts) cs short h =
    let one = objective_is_line ts short in
    and_from (is_line (objective_line ts)) (all_lines (map constraint_line cs)) one.line (constraints_are_lines cs h)

-- ---- the tokens

constraint_items : (cs : List LinearConstraint) → AllByRecursion IsShort cs → flat_map bare_tokens (map constraint_line cs) ≡ flat_map constraint_tokens cs
constraint_items [] h = refl
constraint_items (c ∷ cs) h =
    ap (λ (x : List Token). x ++ flat_map bare_tokens (map constraint_line cs)) (line_items (constraint_line c) (constraint_tokens c) (constraint_is_line c h.0.digits h.0.magnitude))
    ∙ ap (λ (x : List Token). constraint_tokens c ++ x) (constraint_items cs h.1)

statement_items : (o : Option (List Term)) (cs : List LinearConstraint) → HasShortObjective o → AllByRecursion IsShort cs
    → flat_map bare_tokens (objective_lines o ++ map constraint_line cs) ≡ unwrap_or (option_map objective_tokens o) [] ++ flat_map constraint_tokens cs
statement_items None cs short h = constraint_items cs h
statement_items (Some ts) cs short h =
    ap (λ (x : List Token). x ++ flat_map bare_tokens (map constraint_line cs)) (line_items (objective_line ts) (objective_tokens ts) (objective_is_line ts short))
    ∙ ap (λ (x : List Token). objective_tokens ts ++ x) (constraint_items cs h)

-- ---- the header

digits_taken : (ds rest : List ℕ) → list_all is_digit ds ≡ true → take_while is_digit (ds ++ 32 ∷ rest) ≡ ds
digits_taken [] rest h = refl
digits_taken (d ∷ ds) rest h = let p = and_parts (is_digit d) (list_all is_digit ds) h in rw (p.0, one-add) (ap (λ (x : List ℕ). d ∷ x) (digits_taken ds rest p.1))

digits_skipped : (ds rest : List ℕ) → list_all is_digit ds ≡ true → skip_while is_digit (ds ++ 32 ∷ rest) ≡ 32 ∷ rest
digits_skipped [] rest h = refl
digits_skipped (d ∷ ds) rest h = let p = and_parts (is_digit d) (list_all is_digit ds) h in rw p.0 (digits_skipped ds rest p.1)

leading_digits : (ds rest : List ℕ) → first_is is_digit ds ≡ true → list_all is_digit ds ≡ true → leading_number (ds ++ 32 ∷ rest) ≡ Some (value ds)
leading_digits ds rest first each = rw (digits_skipped ds rest each, first_append is_digit ds (32 ∷ rest) first, digits_taken ds rest each) refl

no_gap : (ds rest : List ℕ) → first_is is_digit ds ≡ true → skip_while is_gap (ds ++ rest) ≡ ds ++ rest
no_gap [] rest h = absurd (false≢true h)
no_gap (d ∷ ds) rest h = let gap = not-true (is_gap d) (digit_passes (λ b. not (is_gap b)) refl d h) in rw gap refl

header_regrouped : (n m : List ℕ) → (((codes "* #variable= " ++ n) ++ codes " #constraint= ") ++ m) ++ codes "\n" ≡ codes "* #variable= " ++ (n ++ 32 ∷ (codes "#constraint= " ++ (m ++ codes "\n")))
header_regrouped n m = simp append_assoc

number_of_header : (n : List ℕ) (rest : List ℕ) → header_of (codes "* #variable= " ++ (n ++ rest)) ≡ leading_number (skip_while is_gap (n ++ rest))
number_of_header n rest = refl

header_read : (n m : ℕ) → n < 10 ^ 64 → header_of (opb_header n m) ≡ Some n
header_read n m small =
    let vars = decimal_numeral n small in
    let rest = codes "#constraint= " ++ (decimal m ++ codes "\n") in
    ap header_of (header_regrouped (decimal n) (decimal m))
    ∙ number_of_header (decimal n) (32 ∷ (codes "#constraint= " ++ (decimal m ++ codes "\n")))
    ∙ ap leading_number (no_gap (decimal n) (32 ∷ (codes "#constraint= " ++ (decimal m ++ codes "\n"))) vars.first)
    ∙ leading_digits (decimal n) (codes "#constraint= " ++ (decimal m ++ codes "\n")) vars.first vars.each
    ∙ ap (λ (v : ℕ). Some v) vars.value_is

-- ---- the variables

greatest_within : (n start : ℕ) (ts : List Term) → start ≤ n → AllByRecursion (λ (t : Term). (0 < t.lit.var) × (t.lit.var ≤ n)) ts → fold (λ (m : ℕ) (t : Term). max m t.lit.var) start ts ≤ n
greatest_within n start [] low h = low
greatest_within n start (t ∷ ts) low h = greatest_within n (max start t.lit.var) ts (let here = h.0.1 in omega arith) h.1

-- ---- the whole

abbrev IsOfVariables : ℕ → Term → Type 0
IsOfVariables n t = (0 < t.lit.var) × (t.lit.var ≤ n)

abbrev HasSmallSum : LinearConstraint → Type 0
HasSmallSum c = total_magnitude c.terms + unsigned_abs c.bound ≤ SUM_BOUND

short_terms : (n : ℕ) (ts : List Term) → n ≤ MAX_VARS → total_magnitude ts ≤ SUM_BOUND → AllByRecursion (IsOfVariables n) ts → AllByRecursion HasDigits ts
short_terms n ts few small h = terms_have_digits ts small (all_map (IsOfVariables n) (λ (t : Term). t.lit.var ≤ MAX_VARS) (λ t x. (let here = x.1 in omega arith)) ts h)

short_objective : (n : ℕ) (o : Option (List Term)) (rest : List Term) → n ≤ MAX_VARS → IfSome o (λ ts. total_magnitude ts ≤ SUM_BOUND) → AllByRecursion (IsOfVariables n) (unwrap_or o [] ++ rest) → HasShortObjective o
short_objective n None rest few small h = tt
short_objective n (Some ts) rest few small h = short_terms n ts few small (all_front (IsOfVariables n) ts rest h)

short_constraints : (n : ℕ) (cs : List LinearConstraint) → n ≤ MAX_VARS → AllByRecursion HasSmallSum cs → AllByRecursion (IsOfVariables n) (flat_map (λ (c : LinearConstraint). c.terms) cs) → AllByRecursion IsShort cs
short_constraints n [] few small h = tt
short_constraints n (c ∷ cs) few small h =
    let here : total_magnitude c.terms ≤ SUM_BOUND = (let sum = small.0 in omega arith) in (
      record {
        digits = short_terms n c.terms few here (all_front (IsOfVariables n) c.terms (flat_map (λ (d : LinearConstraint). d.terms) cs) h);
        magnitude = small.0;
      },
      short_constraints n cs few small.1 (all_back (IsOfVariables n) c.terms (flat_map (λ (d : LinearConstraint). d.terms) cs) h),
    )

pub opb_spelled : (p : Problem) → IsProper p → OpbText (opb_text p) p
opb_spelled p proper =
    let limits = limits_from_proper p proper in
    let small : p.vars < 10 ^ 64 = vars_have_digits p.vars limits.vars in
    let few : length p.constraints < 10 ^ 64 = (let most = limits.constraints in omega arith) in
    let objective = short_objective p.vars p.objective (flat_map (λ (c : LinearConstraint). c.terms) p.constraints) limits.vars limits.objective limits.indices in
    let constraints = short_constraints p.vars p.constraints limits.vars limits.sums (all_back (IsOfVariables p.vars) (unwrap_or p.objective []) (flat_map (λ (c : LinearConstraint). c.terms) p.constraints) limits.indices) in
    let all : all_lines (opb_lines p) ≡ true =
    and_from (is_line (opb_header p.vars (length p.constraints))) (all_lines (objective_lines p.objective ++ map constraint_line p.constraints)) (header_is_line p.vars (length p.constraints) small few)
    (statements_are_lines p.objective p.constraints objective constraints) in
    let cut : lines (opb_text p) ≡ opb_lines p = ap lines (sym (joined_lines p)) ∙ lines_joined (opb_lines p) all in
    let number : header (opb_text p) ≡ p.vars =
    ap (λ (ls : List (List ℕ)). unwrap_or (header_of (first_line ls)) 0) cut ∙ ap (λ (o : Option ℕ). unwrap_or o 0) (header_read p.vars (length p.constraints) small) in
    let greatest : greatest_index (all_terms p) ≤ p.vars = greatest_within p.vars 0 (all_terms p) (omega arith) limits.indices in
    record {
      spelled = text_items (opb_text p) (opb_lines p) cut ∙ statement_items p.objective p.constraints objective constraints;
      vars = omega arith;
      limits = proper;
    }
