-- Clauses word by word.
use Rattle.std.proofs.Common.{◌≡◌, ℕ, ◌+◌, ◌-◌, ◌^◌, min, max, refl, sym, ap, subst, ◌∙◌, List, [], ◌∷◌, ◌++◌, Bool, true, false, ◌||◌, map, length, arith, append_assoc, Some, None, Option, inl, inr, ltb}
use Rattle.std.specs.Prelude.{◌⊎◌, unwrap_or, fold}
use Rattle.std.specs.List.{list_any, flat_map}
use Rattle.std.proofs.lemmas.List.{append-nil, map-append, length-append, length-map}
use Rattle.std.proofs.lemmas.List.Sums.{sum_by-append, sum_by-cons}
use Rattle.std.proofs.lemmas.List.Folds.{list_any-append}
use Rattle.std.proofs.lemmas.Grind.{flat_map-append}
use Rattle.std.proofs.lemmas.Bool.{not-false, false≢true, lt-ltb, ltb-true}
use Rattle.pb_inst.specs.Literal.{Literal}
use Rattle.pb_inst.specs.Problem.{LinearConstraint, Statements}
use Rattle.pb_inst.specs.Constraints.{clause_constraint}
use Rattle.pb_inst.specs.declared.limits.TheConstants.{MAX_CONSTRAINTS, MAX_TERMS}
use Rattle.pb_read.specs.declared.fault.ReadKind.{ReadKind}
use Rattle.pb_read.specs.declared.fault.ReadFault.{ReadFault}
use Rattle.pb_read.specs.declared.dimacs.clause_reader.ClauseReader.{ClauseReader}
use Rattle.pb_read.specs.Text.{Placed, items}
use Rattle.pb_read.specs.Refusal.{first_kind, first_fault, at_line, ◌or_else◌}
use Rattle.pb_read.specs.Clauses.{Word, word_of, is_zero, clauses_in, statement_of, clause_faults, word_faults, whole_words, line_of, literals_in, greatest_var, all_there}
use Rattle.pb_read.specs.Reading.{IsMemory}
use Rattle.pb_read.specs.ClauseReading.{ends, first_line, Scanned, Holds, Follows, HasTaken, Fails, IsWhole}
use Rattle.pb_read.proofs.Pieces.{pieces_cut, pieces_open}
use Rattle.pb_read.proofs.ClausesSpelled.{same_items}
use Rattle.pb_read.proofs.Spelled.{none_applies}
use Rattle.pb_read.proofs.Counting.{same_faults, whole_without_fault, total_count, bool_same}
use Rattle.pb_read.proofs.ClauseLaws.{back_one, few_enough}

abbrev pub at : Word → ℕ → Placed Word
at w line = record { item = w; line = line }

-- the words on a line
abbrev pub placed : ℕ → List (List ℕ) → List (Placed Word)
placed number ws = map (λ w. record { item = word_of w; line = number }) ws

cut : (begun : List (Placed Word)) (e : Placed Word) (more : List (Placed Word)) → list_any ends begun ≡ false → ends e ≡ true → clauses_in (begun ++ e ∷ more) ≡ statement_of (begun ++ e ∷ []) ∷ clauses_in more
cut begun e more unended h = ap (map statement_of) (pieces_cut ends begun e more unended h)

pub items_more : (begun : List (Placed Word)) (w : Word) (line : ℕ) → items (begun ++ at w line ∷ []) ≡ items begun ++ w ∷ []
items_more begun w line = map-append (λ (w : Placed Word). w.item) begun (at w line ∷ [])

module _ (announced : Option ℕ) (n : ℕ) (taken : List (Placed Word)) (earlier : List (List Word)) (begun : List (Placed Word)) (e : Placed Word) (f : Follows announced n taken earlier begun) where
  -- one more word of a clause
  pub follows_within : Follows announced n (taken ++ e ∷ []) earlier (begun ++ e ∷ [])
  follows_within = record {
    faults = λ more. ap (λ (ws : List (Placed Word)). first_fault (clause_faults announced n) [] (clauses_in ws)) (append_assoc taken (e ∷ []) more) ∙ f.faults (e ∷ more)
        ∙ ap (λ (ws : List (Placed Word)). first_fault (clause_faults announced n) earlier (clauses_in ws)) (sym (append_assoc begun (e ∷ []) more));
    clauses = λ more. ap (λ (ws : List (Placed Word)). items (clauses_in ws)) (append_assoc taken (e ∷ []) more) ∙ f.clauses (e ∷ more)
        ∙ ap (λ (ws : List (Placed Word)). earlier ++ items (clauses_in ws)) (sym (append_assoc begun (e ∷ []) more));
  }

  -- the last word of a clause without a fault
  pub follows_after : list_any ends begun ≡ false → ends e ≡ true → first_kind (clause_faults announced n earlier (items (begun ++ e ∷ []))) ≡ None → Follows announced n (taken ++ e ∷ []) (earlier ++ items (begun ++ e ∷ []) ∷ []) []
  follows_after unended h clear =
      let s : Placed (List Word) = statement_of (begun ++ e ∷ []) in
      record {
        faults = λ more. ap (λ (ws : List (Placed Word)). first_fault (clause_faults announced n) [] (clauses_in ws)) (append_assoc taken (e ∷ []) more) ∙ f.faults (e ∷ more)
            ∙ ap (first_fault (clause_faults announced n) earlier) (cut begun e more unended h)
            ∙ ap (λ (o : Option ReadKind). at_line s.line o or_else first_fault (clause_faults announced n) (earlier ++ s.item ∷ []) (clauses_in more)) clear;
        clauses = λ more. ap (λ (ws : List (Placed Word)). items (clauses_in ws)) (append_assoc taken (e ∷ []) more) ∙ f.clauses (e ∷ more)
            ∙ ap (λ (ss : List (Placed (List Word))). earlier ++ items ss) (cut begun e more unended h)
            ∙ sym (append_assoc earlier (s.item ∷ []) (items (clauses_in more)));
      }

  -- the last word of a clause with a fault
  pub fails_here : list_any ends begun ≡ false → ends e ≡ true → (k : ReadKind) → first_kind (clause_faults announced n earlier (items (begun ++ e ∷ []))) ≡ Some k
      → (more : List (Placed Word)) → first_fault (clause_faults announced n) [] (clauses_in ((taken ++ e ∷ []) ++ more)) ≡ Some (record { kind = k; line = line_of (begun ++ e ∷ []) })
  fails_here unended h k fault more =
      let s : Placed (List Word) = statement_of (begun ++ e ∷ []) in
      ap (λ (ws : List (Placed Word)). first_fault (clause_faults announced n) [] (clauses_in ws)) (append_assoc taken (e ∷ []) more) ∙ f.faults (e ∷ more)
      ∙ ap (first_fault (clause_faults announced n) earlier) (cut begun e more unended h)
      ∙ ap (λ (o : Option ReadKind). at_line s.line o or_else first_fault (clause_faults announced n) (earlier ++ s.item ∷ []) (clauses_in more)) fault

-- the fault of the clause that a word ends is the fault of each text that goes on from it
pub word_fails : (announced : Option ℕ) (n : ℕ) (taken : List (Placed Word)) (earlier : List (List Word)) (begun : List (Placed Word)) (e : Placed Word) → Follows announced n taken earlier begun
    → list_any ends begun ≡ false → ends e ≡ true → (line : ℕ) → line ≡ line_of (begun ++ e ∷ []) → (f : ReadFault)
    → IsMemory f ⊎ ((f.line ≡ line) × (first_kind (clause_faults announced n earlier (items (begun ++ e ∷ []))) ≡ Some f.kind)) → Fails announced n (taken ++ e ∷ []) f
word_fails announced n taken earlier begun e follows unended h line is f (inl m) = inl m
word_fails announced n taken earlier begun e follows unended h line is f (inr x) =
    inr (λ more. fails_here announced n taken earlier begun e follows unended h f.kind x.1 more ∙ ap (λ (l : ℕ). Some (made f.kind l)) (sym (x.0 ∙ is)))
  where
    made : ReadKind → ℕ → ReadFault
    made k l = record { kind = k; line = l }

-- nothing was taken
pub follows_none : (announced : Option ℕ) (n : ℕ) → Follows announced n [] [] []
follows_none announced n = record { faults = λ more. refl; clauses = λ more. refl }

-- what is refused stays refused, whatever follows
pub fails_more : (announced : Option ℕ) (n : ℕ) (taken more : List (Placed Word)) (f : ReadFault) → Fails announced n taken f → Fails announced n (taken ++ more) f
fails_more announced n taken more f (inl m) = inl m
fails_more announced n taken more f (inr r) = inr (λ rest. rw append_assoc (r (more ++ rest)))

-- the line of a clause's first word, as the code keeps it
pub line_kept : (begun : List (Placed Word)) (w : Word) (line : ℕ) (o : Option ℕ) → o ≡ first_line begun → unwrap_or o line ≡ line_of (begun ++ at w line ∷ [])
line_kept [] w line o e = ap (λ (o : Option ℕ). unwrap_or o line) e
line_kept (b ∷ begun) w line o e = ap (λ (o : Option ℕ). unwrap_or o line) e

pub first_line_is : (begun : List (Placed Word)) (w : Word) (line : ℕ) → first_line (begun ++ at w line ∷ []) ≡ Some (line_of (begun ++ at w line ∷ []))
first_line_is [] w line = refl
first_line_is (b ∷ begun) w line = refl

same_ends : (ws : List (Placed Word)) → list_any ends ws ≡ list_any is_zero (items ws)
same_ends [] = refl
same_ends (w ∷ ws) = ap (λ b. is_zero w.item || b) (same_ends ws)

-- the flag says whether the clause goes on
pub still_open : (ended : Bool) (begun : List (Placed Word)) → ended ≡ list_any is_zero (items begun) → ended ≡ false → list_any ends begun ≡ false
still_open ended begun e h = same_ends begun ∙ sym e ∙ h

-- or whether the last word ended it
pub ends_now : (ended : Bool) (begun : List (Placed Word)) (e : Placed Word) → ended ≡ list_any is_zero (items (begun ++ e ∷ [])) → ended ≡ true → list_any ends begun ≡ false → ends e ≡ true
ends_now ended begun e is t unended =
    last (list_any ends begun) (ends e) unended (sym (list_any-append ends begun (e ∷ [])) ∙ same_ends (begun ++ e ∷ []) ∙ sym is ∙ t)
  where
    last : (a b : Bool) → a ≡ false → (a || (b || false)) ≡ true → b ≡ true
    last true b u v = absurd (false≢true (sym u))
    last false true u v = refl
    last false false u v = absurd (false≢true v)

-- ---- a whole clause

greatest_from : (a : ℕ) (ls : List Literal) → fold (λ (n : ℕ) (l : Literal). max n l.var) a ls ≡ max a (fold (λ (n : ℕ) (l : Literal). max n l.var) 0 ls)
greatest_from a [] = omega arith
greatest_from a (l ∷ ls) = omega (arith, greatest_from (max a l.var) ls, greatest_from (max 0 l.var) ls)

fold_append : (a : ℕ) (xs ys : List Literal) → fold (λ (n : ℕ) (l : Literal). max n l.var) a (xs ++ ys) ≡ fold (λ (n : ℕ) (l : Literal). max n l.var) (fold (λ (n : ℕ) (l : Literal). max n l.var) a xs) ys
fold_append a [] ys = refl
fold_append a (x ∷ xs) ys = fold_append (max a x.var) xs ys

pub greatest_more : (cs : List (List Literal)) (ls : List Literal) → greatest_var (cs ++ ls ∷ []) ≡ max (greatest_var cs) (fold (λ (n : ℕ) (l : Literal). max n l.var) 0 ls)
greatest_more cs ls =
    let all : flat_map (λ (c : List Literal). c) (cs ++ ls ∷ []) ≡ flat_map (λ (c : List Literal). c) cs ++ ls =
    flat_map-append (λ (c : List Literal). c) cs (ls ∷ []) ∙ ap (λ (x : List Literal). flat_map (λ (c : List Literal). c) cs ++ x) (append-nil ls) in
    ap (fold (λ (n : ℕ) (l : Literal). max n l.var) 0) all ∙ fold_append 0 (flat_map (λ (c : List Literal). c) cs) ls ∙ greatest_from (greatest_var cs) ls

abbrev set_of : List LinearConstraint → Statements
set_of cs = record { objective = None; constraints = cs }

module _ (announced : Option ℕ) (n : ℕ) (r : ClauseReader) (earlier : List (List Literal)) (begun : List (Placed Word)) (h : Holds announced n r earlier begun) where
  abbrev lits : List Literal
  lits = r.scan.literals.items

  abbrev es : List (List Word)
  es = map whole_words earlier

  lists : map (λ (ws : List Word). ws) (map whole_words earlier) ≡ map whole_words earlier
  lists = same_items (map whole_words earlier)

  many : length (map whole_words earlier) ≡ r.count
  many = length-map earlier whole_words ∙ sym h.counted

  -- the reader knows whether there are as many clauses as were announced
  pub all_there_now : all_there r.announced r.count ≡ all_there announced (length (map whole_words earlier))
  all_there_now = ap (λ (o : Option ℕ). all_there o r.count) h.same_announced ∙ ap (all_there announced) (sym many)

  next_test : (next : ℕ) → next ≡ min (r.count + 1) (2 ^ 64 - 1) → ltb MAX_CONSTRAINTS next ≡ ltb MAX_CONSTRAINTS (length (map whole_words earlier) + 1)
  next_test next next_is =
      bool_same _ _
      (λ t. lt-ltb MAX_CONSTRAINTS _ (let y = ltb-true MAX_CONSTRAINTS next t in omega (arith, y, next_is, many)))
      (λ t. lt-ltb MAX_CONSTRAINTS _ (let y = ltb-true MAX_CONSTRAINTS _ t in omega (arith, y, next_is, many)))

  -- what the reader finds is the clause's first fault
  pub clause_fault : (next total : ℕ) → next ≡ min (r.count + 1) (2 ^ 64 - 1) → total ≡ min (r.literal_count + length r.scan.literals.items) (2 ^ 64 - 1)
      → all_there r.announced r.count ≡ false
      → first_kind (word_faults n (items begun) (ltb MAX_CONSTRAINTS next || ltb MAX_TERMS total)) ≡ first_kind (clause_faults announced n (map whole_words earlier) (items begun))
  clause_fault next total next_is total_is more =
      let few : Bool = ltb MAX_CONSTRAINTS (length (map whole_words earlier) + 1) || ltb MAX_TERMS (literals_in (λ ws. ws) (map whole_words earlier ++ items begun ∷ [])) in
      let room : all_there announced (length (map whole_words earlier)) ≡ false = sym all_there_now ∙ more in
      let table : first_kind (clause_faults announced n (map whole_words earlier) (items begun)) ≡ first_kind (word_faults n (items begun) few) = rw room refl in
      same_faults (λ ws. ws) (map whole_words earlier) (items begun) earlier lists n r.scan.literals.items r.scan.ended r.scan.broken r.scan.over h.scanned r.literal_count total h.literals total_is
      (ltb MAX_CONSTRAINTS next) (ltb MAX_CONSTRAINTS (length (map whole_words earlier) + 1)) (next_test next next_is)
      ∙ sym table

  -- the reader after a clause without a fault
  pub clause_taken : (s : ClauseReader) → first_kind (clause_faults announced n (map whole_words earlier) (items begun)) ≡ None
      → s.announced ≡ r.announced → s.scan.limit ≡ r.scan.limit → s.builder ≡ record r.builder { constraints = r.builder.constraints ++ clause_constraint r.scan.literals.items ∷ [] }
      → s.count ≡ min (r.count + 1) (2 ^ 64 - 1) → s.literal_count ≡ min (r.literal_count + length r.scan.literals.items) (2 ^ 64 - 1)
      → s.greatest ≡ max r.greatest (fold (λ (n : ℕ) (l : Literal). max n l.var) 0 r.scan.literals.items)
      → Scanned s.scan.limit s.scan.literals.items s.scan.ended s.scan.broken s.scan.over [] → s.begun ≡ None
      → (items begun ≡ whole_words r.scan.literals.items) × Holds announced n s (earlier ++ r.scan.literals.items ∷ []) []
  clause_taken s clear same_announced same_limit built counted literals greatest scanned begun_is =
      let p = back_one announced n (map whole_words earlier) (items begun) clear in
      let few : Bool = ltb MAX_CONSTRAINTS (length (map whole_words earlier) + 1) || ltb MAX_TERMS (literals_in (λ ws. ws) (map whole_words earlier ++ items begun ∷ [])) in
      let room = (none_applies (clause_faults announced n (map whole_words earlier) (items begun)) clear).0 in
      let table : first_kind (clause_faults announced n (map whole_words earlier) (items begun)) ≡ first_kind (word_faults n (items begun) few) = rw room refl in
      let w : items begun ≡ whole_words r.scan.literals.items = whole_without_fault n r.scan.literals.items r.scan.ended r.scan.broken r.scan.over (items begun) h.scanned few (sym table ∙ clear) in
      let total = total_count (λ ws. ws) (map whole_words earlier) (items begun) earlier lists r.scan.literals.items r.literal_count h.literals w in
      let counts = few_enough announced (length (map whole_words earlier)) p.count in
      let limit : s.scan.limit ≡ n = same_limit ∙ h.same_limit in (
        w,
        record {
          same_announced = same_announced ∙ h.same_announced;
          same_limit = limit;
          built = built ∙ ap (λ (b : Statements). record b { constraints = b.constraints ++ clause_constraint r.scan.literals.items ∷ [] }) h.built ∙ ap set_of (sym (map-append clause_constraint earlier (r.scan.literals.items ∷ [])));
          counted = omega (arith, counted, many, h.counted, counts, length-append earlier (r.scan.literals.items ∷ []));
          literals = omega (arith, literals, total, p.literals, h.literals, sum_by-append length earlier (r.scan.literals.items ∷ []), sum_by-cons length r.scan.literals.items []);
          greatest = greatest ∙ ap (λ (g : ℕ). max g (fold (λ (n : ℕ) (l : Literal). max n l.var) 0 r.scan.literals.items)) h.greatest ∙ sym (greatest_more earlier r.scan.literals.items);
          scanned = subst (λ (m : ℕ). Scanned m s.scan.literals.items s.scan.ended s.scan.broken s.scan.over []) limit scanned;
          line = begun_is;
        },
      )

  -- the reader after one more word
  pub word_held : (s : ClauseReader) (t : Word) (line : ℕ) → s.announced ≡ r.announced → s.scan.limit ≡ r.scan.limit → s.builder ≡ r.builder → s.count ≡ r.count → s.literal_count ≡ r.literal_count → s.greatest ≡ r.greatest
      → Scanned s.scan.limit s.scan.literals.items s.scan.ended s.scan.broken s.scan.over (items begun ++ t ∷ []) → s.begun ≡ Some (unwrap_or r.begun line)
      → Holds announced n s earlier (begun ++ at t line ∷ [])
  word_held s t line same_announced same_limit built counted literals greatest scanned begun_is = record {
    same_announced = same_announced ∙ h.same_announced;
    same_limit = same_limit ∙ h.same_limit;
    built = built ∙ h.built;
    counted = counted ∙ h.counted;
    literals = literals ∙ h.literals;
    greatest = greatest ∙ h.greatest;
    scanned = subst (λ (m : ℕ). Scanned m s.scan.literals.items s.scan.ended s.scan.broken s.scan.over (items (begun ++ at t line ∷ []))) (same_limit ∙ h.same_limit)
        (subst (λ (ws : List Word). Scanned s.scan.limit s.scan.literals.items s.scan.ended s.scan.broken s.scan.over ws) (sym (items_more begun t line)) scanned);
    line = begun_is ∙ ap (λ (l : ℕ). Some l) (line_kept begun t line r.begun h.line) ∙ sym (first_line_is begun t line);
  }

-- ---- one more word, and what was taken

module _ (announced : Option ℕ) (n : ℕ) (r s : ClauseReader) (taken : List (Placed Word)) (h : HasTaken announced n r taken) (e : Placed Word) where
  -- the clause goes on
  pub taken_within : Holds announced n s h.earlier (h.begun ++ e ∷ []) → s.scan.ended ≡ false → HasTaken announced n s (taken ++ e ∷ [])
  taken_within held open_now = record {
    earlier = h.earlier;
    begun = h.begun ++ e ∷ [];
    holds = held;
    unended = still_open s.scan.ended (h.begun ++ e ∷ []) held.scanned.end_is open_now;
    follows = follows_within announced n taken (map whole_words h.earlier) h.begun e h.follows;
  }

  -- the clause has ended without a fault
  pub taken_after : (ls : List Literal) → ends e ≡ true → first_kind (clause_faults announced n (map whole_words h.earlier) (items (h.begun ++ e ∷ []))) ≡ None
      → items (h.begun ++ e ∷ []) ≡ whole_words ls → Holds announced n s (h.earlier ++ ls ∷ []) [] → HasTaken announced n s (taken ++ e ∷ [])
  taken_after ls end clear whole held = record {
    earlier = h.earlier ++ ls ∷ [];
    begun = [];
    holds = held;
    unended = refl;
    follows = subst (λ (es : List (List Word)). Follows announced n (taken ++ e ∷ []) es [])
        (ap (λ (ws : List Word). map whole_words h.earlier ++ ws ∷ []) whole ∙ sym (map-append whole_words h.earlier (ls ∷ [])))
        (follows_after announced n taken (map whole_words h.earlier) h.begun e h.follows h.unended end clear);
  }

-- ---- the words of a line

placed_append : (n : ℕ) (xs ys : List (List ℕ)) → placed n (xs ++ ys) ≡ placed n xs ++ placed n ys
placed_append n xs ys = map-append (λ (w : List ℕ). record { item = word_of w; line = n }) xs ys

-- one more of the words of a line
pub one_more : (P : List (Placed Word) → Type 0) (taken : List (Placed Word)) (number : ℕ) (all rest after seen : List (List ℕ)) (w : List ℕ)
    → rest ≡ w ∷ after → seen ++ rest ≡ all → P ((taken ++ placed number seen) ++ at (word_of w) number ∷ [])
    → (x : List (List ℕ)) × (x ++ after ≡ all) × P (taken ++ placed number x)
one_more P taken number all rest after seen w first whole h =
    let e : (taken ++ placed number seen) ++ placed number (w ∷ []) ≡ taken ++ placed number (seen ++ w ∷ []) =
    append_assoc taken (placed number seen) (placed number (w ∷ [])) ∙ ap (λ (x : List (Placed Word)). taken ++ x) (sym (placed_append number seen (w ∷ []))) in
    (seen ++ w ∷ [], append_assoc seen (w ∷ []) after ∙ ap (λ (x : List (List ℕ)). seen ++ x) (sym first) ∙ whole, subst P e h)

-- a fault at one of the words is the line's
pub line_fails : (announced : Option ℕ) (n : ℕ) (taken : List (Placed Word)) (number : ℕ) (all rest after seen : List (List ℕ)) (w : List ℕ) (f : ReadFault)
    → rest ≡ w ∷ after → seen ++ rest ≡ all → Fails announced n ((taken ++ placed number seen) ++ at (word_of w) number ∷ []) f → Fails announced n (taken ++ placed number all) f
line_fails announced n taken number all rest after seen w f first whole h =
    let more = one_more (λ ts. Fails announced n ts f) taken number all rest after seen w first whole h in
    let e : (taken ++ placed number more.0) ++ placed number after ≡ taken ++ placed number all =
    append_assoc taken (placed number more.0) (placed number after) ∙ ap (λ (x : List (Placed Word)). taken ++ x) (sym (placed_append number more.0 after) ∙ ap (placed number) more.1) in
    subst (λ (ts : List (Placed Word)). Fails announced n ts f) e (fails_more announced n (taken ++ placed number more.0) (placed number after) f more.2)

-- ---- no more words

none_left : (announced : Option ℕ) (n : ℕ) (r : ClauseReader) (taken : List (Placed Word)) (earlier : List (List Literal)) (begun : List (Placed Word)) → Holds announced n r earlier begun
    → Follows announced n taken (map whole_words earlier) begun → begun ≡ [] → IsWhole announced n r taken
none_left announced n r taken earlier begun h f e =
    let all : taken ++ [] ≡ taken = append-nil taken in
    record {
      read = earlier;
      holds = subst (Holds announced n r earlier) e h;
      spelled = ap (λ (ws : List (Placed Word)). items (clauses_in ws)) (sym all) ∙ f.clauses [] ∙ ap (λ (ws : List (Placed Word)). map whole_words earlier ++ items (clauses_in (ws ++ []))) e ∙ append-nil (map whole_words earlier);
      clear = ap (λ (ws : List (Placed Word)). first_fault (clause_faults announced n) [] (clauses_in ws)) (sym all) ∙ f.faults []
          ∙ ap (λ (ws : List (Placed Word)). first_fault (clause_faults announced n) (map whole_words earlier) (clauses_in (ws ++ []))) e;
    }

no_first_line : (begun : List (Placed Word)) → None ≡ first_line begun → begun ≡ []
no_first_line [] e = refl
no_first_line (w ∷ ws) e = absurd cc

-- the words end between two clauses
pub ends_between : (announced : Option ℕ) (n : ℕ) (r : ClauseReader) (taken : List (Placed Word)) → r.begun ≡ None → HasTaken announced n r taken → IsWhole announced n r taken
ends_between announced n r taken none h = none_left announced n r taken h.earlier h.begun h.holds h.follows (no_first_line h.begun (sym none ∙ h.holds.line))

open_fault : (announced : Option ℕ) (n : ℕ) (earlier : List (List Word)) (begun : List (Placed Word)) (line : ℕ) → Some line ≡ first_line begun → list_any ends begun ≡ false → (k : ReadKind) → first_kind (clause_faults announced n earlier (items begun)) ≡ Some k
    → first_fault (clause_faults announced n) earlier (clauses_in (begun ++ [])) ≡ Some (record { kind = k; line = line })
open_fault announced n earlier [] line e unended k fault = absurd cc
open_fault announced n earlier (w ∷ ws) line e unended k fault =
    let same : line ≡ w.line = cc in
    ap (λ (x : List (Placed Word)). first_fault (clause_faults announced n) earlier (clauses_in x)) (append-nil (w ∷ ws))
    ∙ ap (λ (ps : List (List (Placed Word))). first_fault (clause_faults announced n) earlier (map statement_of ps)) (pieces_open ends w ws unended)
    ∙ ap (λ (o : Option ReadKind). at_line w.line o or_else None) fault ∙ ap (λ (l : ℕ). Some (made k l)) (sym same)
  where
    made : ReadKind → ℕ → ReadFault
    made k l = record { kind = k; line = l }

-- the words end within a clause
pub ends_inside : (announced : Option ℕ) (n : ℕ) (r : ClauseReader) (taken : List (Placed Word)) (line : ℕ) (k : ReadKind) → r.begun ≡ Some line → (h : HasTaken announced n r taken)
    → first_kind (clause_faults announced n (map whole_words h.earlier) (items h.begun)) ≡ Some k → first_fault (clause_faults announced n) [] (clauses_in taken) ≡ Some (record { kind = k; line = line })
ends_inside announced n r taken line k some h fault =
    ap (λ (ws : List (Placed Word)). first_fault (clause_faults announced n) [] (clauses_in ws)) (sym (append-nil taken)) ∙ h.follows.faults []
    ∙ open_fault announced n (map whole_words h.earlier) h.begun line (sym some ∙ h.holds.line) h.unended k fault

-- a clause that has not ended has a fault
pub never_clear : (announced : Option ℕ) (n : ℕ) (r : ClauseReader) (taken : List (Placed Word)) (h : HasTaken announced n r taken) → first_kind (clause_faults announced n (map whole_words h.earlier) (items h.begun)) ≡ None → ⊥
never_clear announced n r taken h clear =
    let f = none_applies (clause_faults announced n (map whole_words h.earlier) (items h.begun)) clear in
    false≢true (sym h.unended ∙ same_ends h.begun ∙ not-false (list_any is_zero (items h.begun)) f.1.0)
