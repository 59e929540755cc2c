-- The text of CNF that is written spells the instance, where that is of clauses.
use Rattle.std.proofs.Common.{◌≡◌, ℕ, ◌+◌, ◌<◌, ◌≤◌, ◌^◌, List, [], ◌∷◌, ◌++◌, Bool, true, not, ◌||◌, map, length, append_assoc, refl, sym, ap, ◌∙◌, arith, one-add, Option, None, Some}
use Rattle.std.specs.Prelude.{flat_map, filter, take_while, unwrap_or}
use Rattle.std.specs.List.{list_all, AllByRecursion}
use Rattle.std.proofs.lemmas.Bool.{and_from, or_from, not_from_false}
use Rattle.std.proofs.lemmas.List.{map-append, length-map}
use Rattle.std.proofs.lemmas.List.Sums.{sum_by-cons}
use Rattle.pb_inst.specs.Constraints.{clause_constraint}
use Rattle.pb_inst.specs.declared.constraints.Term.{Term}
use Rattle.pb_inst.specs.declared.limits.TheConstants.{MAX_VARS}
use Rattle.pb_inst.specs.Limits.{constraint_terms, IsProper}
use Rattle.pb_inst.specs.Literal.{Literal}
use Rattle.pb_inst.specs.Problem.{LinearConstraint, Problem}
use Rattle.pb_read.specs.declared.format.Format.TheVariants.{Cnf}
use Rattle.pb_read.specs.Text.{Placed, items, is_blank, is_marked, numbered, lines, words}
use Rattle.pb_read.specs.Clauses.{Word, word_of, whole_words, on_line, placed_words, clause_instance, VarsUpTo, literal_count}
use Rattle.pb_read.specs.Cnf.{CnfText}
use Rattle.pb_read.proofs.Limits.{limits_from_proper, all_front, all_back, all_append, each_of}
use Rattle.pb_write.specs.Text.{objective_text, constraint_text}
use Rattle.pb_write.specs.Written.{literals_of, IsClause, AreClauses}
use Rattle.pb_write.proofs.Cutting.{is_line, all_lines, lines_joined}
use Rattle.pb_write.proofs.OpbLines.{vars_have_digits}
use Rattle.pb_write.proofs.CnfLines.{cnf_header, IsContent, IsShort, clause_words, clause_is_line, clause_content, header_read, header_is_line, header_content}

-- ---- lines with content, and their words

take_first : {X : Type 0} (test : X → Bool) (x : X) (xs : List X) → test x ≡ true → take_while test (x ∷ xs) ≡ x ∷ take_while test xs
take_first test x xs h = rw (h, one-add) refl

keep_first : {X : Type 0} (test : X → Bool) (x : X) (xs : List X) → test x ≡ true → filter test (x ∷ xs) ≡ x ∷ filter test xs
keep_first test x xs h = rw h refl

abbrev is_before_end : Placed (List ℕ) → Bool
is_before_end l = not (is_marked 37 l.item)

abbrev is_kept : Placed (List ℕ) → Bool
is_kept l = not (is_marked 99 l.item || list_all is_blank l.item)

content_all : (n : ℕ) (ls : List (List ℕ)) → AllByRecursion IsContent ls → filter is_kept (take_while is_before_end (numbered n ls)) ≡ numbered n ls
content_all n [] h = refl
content_all n (l ∷ ls) h =
    let first : Placed (List ℕ) = record { item = l; line = n } in
    ap (filter is_kept) (take_first is_before_end first (numbered (n + 1) ls) (not_from_false (is_marked 37 l) h.0.no_end))
    ∙ keep_first is_kept first (take_while is_before_end (numbered (n + 1) ls)) (not_from_false (is_marked 99 l || list_all is_blank l) (or_from (is_marked 99 l) (list_all is_blank l) h.0.no_comment h.0.no_blank))
    ∙ ap (λ (x : List (Placed (List ℕ))). first ∷ x) (content_all (n + 1) ls h.1)

items_on_line : (n : ℕ) (ws : List (List ℕ)) → items (map (λ w. (let x : Placed Word = record { item = word_of w; line = n } in x)) ws) ≡ map word_of ws
items_on_line n [] = refl
items_on_line n (w ∷ ws) = ap (λ (x : List Word). word_of w ∷ x) (items_on_line n ws)

items_lines : (n : ℕ) (ls : List (List ℕ)) → items (placed_words (numbered n ls)) ≡ flat_map (λ (l : List ℕ). map word_of (words l)) ls
items_lines n [] = refl
items_lines n (l ∷ ls) =
    map-append (λ (w : Placed Word). w.item) (on_line (record { item = l; line = n })) (placed_words (numbered (n + 1) ls))
    ∙ ap (λ (x : List Word). x ++ items (placed_words (numbered (n + 1) ls))) (items_on_line n (words l))
    ∙ ap (λ (x : List Word). map word_of (words l) ++ x) (items_lines (n + 1) ls)

-- ---- the clauses

abbrev clause_lines : List LinearConstraint → List (List ℕ)
clause_lines cs = map (constraint_text Cnf) cs

abbrev AreShort : LinearConstraint → Type 0
AreShort c = AllByRecursion IsShort (literals_of c)

clauses_are_lines : (cs : List LinearConstraint) → AllByRecursion AreShort cs → all_lines (clause_lines cs) ≡ true
clauses_are_lines [] h = refl
clauses_are_lines (c ∷ cs) h = and_from (is_line (constraint_text Cnf c)) (all_lines (clause_lines cs)) (clause_is_line (literals_of c) h.0) (clauses_are_lines cs h.1)

clauses_content : (cs : List LinearConstraint) → AllByRecursion AreShort cs → AllByRecursion IsContent (clause_lines cs)
clauses_content [] h = tt
clauses_content (c ∷ cs) h = (clause_content (literals_of c) h.0, clauses_content cs h.1)

clauses_spelled : (cs : List LinearConstraint) → AllByRecursion AreShort cs → flat_map (λ (l : List ℕ). map word_of (words l)) (clause_lines cs) ≡ flat_map whole_words (map literals_of cs)
clauses_spelled [] h = refl
clauses_spelled (c ∷ cs) h =
    ap (λ (x : List Word). x ++ flat_map (λ (l : List ℕ). map word_of (words l)) (clause_lines cs)) (clause_words (literals_of c) h.0)
    ∙ ap (λ (x : List Word). whole_words (literals_of c) ++ x) (clauses_spelled cs h.1)

joined_clauses : (cs : List LinearConstraint) → flat_map (λ (l : List ℕ). l) (clause_lines cs) ≡ flat_map (constraint_text Cnf) cs
joined_clauses [] = refl
joined_clauses (c ∷ cs) = ap (λ (x : List ℕ). constraint_text Cnf c ++ x) (joined_clauses cs)

abbrev IsOfVariables : ℕ → Term → Type 0
IsOfVariables n t = (0 < t.lit.var) × (t.lit.var ≤ n)

short_literals : (n : ℕ) (ts : List Term) → n ≤ MAX_VARS → AllByRecursion (IsOfVariables n) ts → AllByRecursion IsShort (map (λ (t : Term). t.lit) ts)
short_literals n [] few h = tt
short_literals n (t ∷ ts) few h = ((h.0.0, vars_have_digits t.lit.var (let here = h.0.1 in omega arith)), short_literals n ts few h.1)

short_clauses : (n : ℕ) (cs : List LinearConstraint) → n ≤ MAX_VARS → AllByRecursion (IsOfVariables n) (flat_map (λ (c : LinearConstraint). c.terms) cs) → AllByRecursion AreShort cs
short_clauses n [] few h = tt
short_clauses n (c ∷ cs) few h =
    (short_literals n c.terms few (all_front (IsOfVariables n) c.terms (flat_map (λ (d : LinearConstraint). d.terms) cs) h), short_clauses n cs few (all_back (IsOfVariables n) c.terms (flat_map (λ (d : LinearConstraint). d.terms) cs) h))

abbrev IsUpTo : ℕ → Literal → Type 0
IsUpTo n l = l.var ≤ n

literals_up_to : (n : ℕ) (ts : List Term) → AllByRecursion (IsOfVariables n) ts → AllByRecursion (IsUpTo n) (map (λ (t : Term). t.lit) ts)
literals_up_to n [] h = tt
literals_up_to n (t ∷ ts) h = (h.0.1, literals_up_to n ts h.1)

clauses_up_to : (n : ℕ) (cs : List LinearConstraint) → AllByRecursion (IsOfVariables n) (flat_map (λ (c : LinearConstraint). c.terms) cs) → VarsUpTo n (map literals_of cs)
clauses_up_to n [] h = tt
clauses_up_to n (c ∷ cs) h =
    all_append (IsUpTo n) (literals_of c) (flat_map (λ x. x) (map literals_of cs))
    (literals_up_to n c.terms (all_front (IsOfVariables n) c.terms (flat_map (λ (d : LinearConstraint). d.terms) cs) h))
    (clauses_up_to n cs (all_back (IsOfVariables n) c.terms (flat_map (λ (d : LinearConstraint). d.terms) cs) h))

literals_counted : (cs : List LinearConstraint) → literal_count (map literals_of cs) ≡ constraint_terms cs
literals_counted [] = refl
literals_counted (c ∷ cs) =
    omega (arith, sum_by-cons (λ (l : List Literal). length l) (literals_of c) (map literals_of cs), sum_by-cons (λ (d : LinearConstraint). length d.terms) c cs, length-map c.terms (λ (t : Term). t.lit), literals_counted cs)

constraints_same : (cs : List LinearConstraint) → AllByRecursion IsClause cs → cs ≡ map clause_constraint (map literals_of cs)
constraints_same [] h = refl
constraints_same (c ∷ cs) h = ap (λ (x : LinearConstraint). x ∷ cs) h.0 ∙ ap (λ (x : List LinearConstraint). clause_constraint (literals_of c) ∷ x) (constraints_same cs h.1)

same_instance : (p : Problem) → AreClauses p → p ≡ clause_instance p.vars (map literals_of p.constraints)
same_instance p h =
    ap (λ (o : Option (List Term)). let q : Problem = record { vars = p.vars; objective = o; constraints = p.constraints } in q) h.no_objective
    ∙ ap (λ (cs : List LinearConstraint). let q : Problem = record { vars = p.vars; objective = None; constraints = cs } in q) (constraints_same p.constraints (each_of IsClause p.constraints h.clauses))

-- ---- the whole

-- the text of an instance
abbrev pub cnf_text : Problem → List ℕ
cnf_text p = cnf_header p.vars (length p.constraints) ++ objective_text p.objective ++ flat_map (constraint_text Cnf) p.constraints

abbrev cnf_lines : Problem → List (List ℕ)
cnf_lines p = cnf_header p.vars (length p.constraints) ∷ clause_lines p.constraints

joined_statements : (o : Option (List Term)) (cs : List LinearConstraint) → o ≡ None → flat_map (λ (l : List ℕ). l) (clause_lines cs) ≡ objective_text o ++ flat_map (constraint_text Cnf) cs
joined_statements None cs e = joined_clauses cs
joined_statements (Some ts) cs e = absurd cc

joined_lines : (p : Problem) → p.objective ≡ None → flat_map (λ (l : List ℕ). l) (cnf_lines p) ≡ cnf_text p
joined_lines p e =
    ap (λ (x : List ℕ). cnf_header p.vars (length p.constraints) ++ x) (joined_statements p.objective p.constraints e)
    ∙ sym (append_assoc (cnf_header p.vars (length p.constraints)) (objective_text p.objective) (flat_map (constraint_text Cnf) p.constraints))

pub cnf_spelled : (p : Problem) → IsProper p → AreClauses p → CnfText (cnf_text p) p
cnf_spelled p proper of_clauses =
    let limits = limits_from_proper p proper in
    let small : p.vars < 10 ^ 64 = vars_have_digits p.vars limits.vars in
    let few : length p.constraints < 10 ^ 64 = (let most = limits.constraints in omega arith) in
    let variables = all_back (IsOfVariables p.vars) (unwrap_or p.objective []) (flat_map (λ (c : LinearConstraint). c.terms) p.constraints) limits.indices in
    let short = short_clauses p.vars p.constraints limits.vars variables in
    let all : all_lines (cnf_lines p) ≡ true =
    and_from (is_line (cnf_header p.vars (length p.constraints))) (all_lines (clause_lines p.constraints)) (header_is_line p.vars (length p.constraints) small few) (clauses_are_lines p.constraints short) in
    let cut : lines (cnf_text p) ≡ cnf_lines p = ap lines (sym (joined_lines p of_clauses.no_objective)) ∙ lines_joined (cnf_lines p) all in
    let terms = proper.limits.all_terms in
    let counted = literals_counted p.constraints in
    record {
      head = record { item = cnf_header p.vars (length p.constraints); line = 1 };
      body = numbered (1 + 1) (clause_lines p.constraints);
      lines = ap (λ (ls : List (List ℕ)). filter is_kept (take_while is_before_end (numbered 1 ls))) cut
          ∙ content_all 1 (cnf_lines p) (header_content p.vars (length p.constraints), clauses_content p.constraints short);
      header = record { vars = p.vars; clauses = length p.constraints };
      header_line = header_read p.vars (length p.constraints) small few;
      clauses = map literals_of p.constraints;
      spelled = items_lines (1 + 1) (clause_lines p.constraints) ∙ clauses_spelled p.constraints short;
      instance = same_instance p of_clauses;
      count = length-map p.constraints literals_of;
      vars = limits.vars;
      few_clauses = limits.constraints;
      few_literals = omega arith;
      indices = clauses_up_to p.vars p.constraints variables;
    }
