-- What a reader of iCNF finds is what the text spells, or its refusal.
use Rattle.std.proofs.Common.{◌≡◌, ℕ, ◌≤◌, max, refl, sym, ap, subst, ◌∙◌, List, [], ◌∷◌, ◌++◌, Bool, true, false, cond, map, arith, Some, None, Option, inl, inr, append_assoc}
use Rattle.std.proofs.lemmas.List.{append-nil}
use Rattle.std.specs.Prelude.{◌⊎◌, fold}
use Rattle.std.specs.List.{flat_map, AllByRecursion}
use Rattle.pb_inst.specs.Literal.{Literal}
use Rattle.pb_inst.specs.Problem.{Problem}
use Rattle.pb_inst.specs.Constraints.{clause_constraint}
use Rattle.pb_inst.specs.Limits.{HasVariablesWithin}
use Rattle.pb_inst.specs.declared.limits.TheConstants.{MAX_VARS}
use Rattle.pb_read.specs.declared.fault.ReadKind.TheVariants.{BadHeader, ClauseAfterCube}
use Rattle.pb_read.specs.declared.fault.ReadFault.{ReadFault}
use Rattle.pb_read.specs.declared.dimacs.clause_reader.ClauseReader.{ClauseReader}
use Rattle.pb_read.specs.Text.{Placed, items, content, clause_lines, last_line, words}
use Rattle.pb_read.specs.Refusal.{first_fault, at_line, ◌or_else◌}
use Rattle.pb_read.specs.Clauses.{whole_words, placed_words, clauses_on, clause_instance, clause_faults, VarsUpTo, greatest_var}
use Rattle.pb_read.specs.Cubes.{CubeLines, cube_faults}
use Rattle.pb_read.specs.Icnf.{is_header, clause_part, cube_part, IcnfText, icnf_refusal, refusal_of_content}
use Rattle.pb_read.specs.Reading.{IsMemory}
use Rattle.pb_read.specs.ClauseReading.{IsWhole}
use Rattle.pb_read.proofs.ClausesSpelled.{one_spelling, clauses_of_words}
use Rattle.pb_read.proofs.ClauseIndices.{clauses_have_variables}
use Rattle.pb_read.proofs.CubeLaws.{cubes_clear, one_cubes}
use Rattle.pb_read.proofs.Following.{greatest_more}
use Rattle.pb_read.proofs.CnfReading.{fault}
use Rattle.pb_read.proofs.IcnfLaws.{spells}

abbrev top : ℕ → List Literal → ℕ
top n ls = fold (λ (n : ℕ) (l : Literal). max n l.var) n ls

-- ---- the greatest index

top_from : (n : ℕ) (ls : List Literal) → n ≤ top n ls
top_from n [] = omega arith
top_from n (l ∷ ls) = omega (arith, top_from (max n l.var) ls)

all_below : (n m : ℕ) (ls : List Literal) → top n ls ≤ m → AllByRecursion (λ (l : Literal). l.var ≤ m) ls
all_below n m [] h = tt
all_below n m (l ∷ ls) h = (omega (arith, top_from (max n l.var) ls, h), all_below (max n l.var) m ls h)

-- clauses are over the variables up to the greatest
pub up_to_greatest : (m : ℕ) (cs : List (List Literal)) → greatest_var cs ≤ m → VarsUpTo m cs
up_to_greatest m cs h = all_below 0 m (flat_map (λ c. c) cs) h

top_within : (n m : ℕ) (ls : List Literal) → n ≤ m → AllByRecursion (λ (l : Literal). l.var ≤ m) ls → top n ls ≤ m
top_within n m [] le h = le
top_within n m (l ∷ ls) le h = top_within (max n l.var) m ls (let here : l.var ≤ m = h.0 in omega (arith, here, le)) h.1

pub greatest_within : (m : ℕ) (cs : List (List Literal)) → VarsUpTo m cs → greatest_var cs ≤ m
greatest_within m cs h = top_within 0 m (flat_map (λ c. c) cs) (omega arith) h

by_lists : (n : ℕ) (before cs : List (List Literal)) → n ≡ greatest_var before → fold (λ (n : ℕ) (c : List Literal). max n (top 0 c)) n cs ≡ greatest_var (before ++ cs)
by_lists n before [] e = e ∙ ap greatest_var (sym (append-nil before))
by_lists n before (c ∷ cs) e =
    by_lists (max n (top 0 c)) (before ++ c ∷ []) cs (ap (λ (m : ℕ). max m (top 0 c)) e ∙ sym (greatest_more before c)) ∙ ap greatest_var (append_assoc before (c ∷ []) cs)

-- list by list as by all literals in a row
pub greatest_by_lists : (cs : List (List Literal)) → fold (λ (n : ℕ) (c : List Literal). max n (fold (λ (n : ℕ) (l : Literal). max n l.var) 0 c)) 0 cs ≡ greatest_var cs
greatest_by_lists cs = by_lists 0 [] cs refl

-- ---- the text

module _ (text head : List ℕ) (number : ℕ) (body : List (Placed (List ℕ))) (lines : content text ≡ record { item = head; line = number } ∷ body) where
  abbrev of_clauses : Option ReadFault
  of_clauses = first_fault (clause_faults None MAX_VARS) [] (clauses_on (clause_part body))

  abbrev of_cubes : Option ReadFault
  of_cubes = first_fault (cube_faults ClauseAfterCube MAX_VARS) [] (cube_part body)

  refusal : icnf_refusal text ≡ (cond (is_header (words head)) None (at_line number (Some BadHeader)) or_else (first_fault (clause_faults None MAX_VARS) [] (clauses_on (clause_part body)) or_else first_fault (cube_faults ClauseAfterCube MAX_VARS) [] (cube_part body)))
  refusal = ap (refusal_of_content (last_line (clause_lines text))) lines

  pub bad_header : is_header (words head) ≡ false → icnf_refusal text ≡ Some (fault BadHeader number)
  bad_header e = refusal ∙ ap (λ (b : Bool). cond b None (at_line number (Some BadHeader)) or_else (of_clauses or_else of_cubes)) e

  module _ (e : is_header (words head) ≡ true) where
    after : icnf_refusal text ≡ (first_fault (clause_faults None MAX_VARS) [] (clauses_on (clause_part body)) or_else first_fault (cube_faults ClauseAfterCube MAX_VARS) [] (cube_part body))
    after = refusal ∙ ap (λ (b : Bool). cond b None (at_line number (Some BadHeader)) or_else (of_clauses or_else of_cubes)) e

    -- a fault of a clause is the text's
    pub clause_fails : (f : ReadFault) → first_fault (clause_faults None MAX_VARS) [] (clauses_on (clause_part body)) ≡ Some f → icnf_refusal text ≡ Some f
    clause_fails f x = after ∙ ap (λ (o : Option ReadFault). o or_else of_cubes) x

    pub clauses_refused : (f : ReadFault) → IsMemory f ⊎ (first_fault (clause_faults None MAX_VARS) [] (clauses_on (clause_part body)) ≡ Some f) → IsMemory f ⊎ (icnf_refusal text ≡ Some f)
    clauses_refused f (inl m) = inl m
    clauses_refused f (inr x) = inr (clause_fails f x)

    module _ (r : ClauseReader) (w : IsWhole None MAX_VARS r (placed_words (clause_part body))) where
      of_cube_part : icnf_refusal text ≡ first_fault (cube_faults ClauseAfterCube MAX_VARS) [] (cube_part body)
      of_cube_part = after ∙ ap (λ (o : Option ReadFault). o or_else of_cubes) w.clear

      -- where no clause has a fault, that of a cube line is the text's
      pub cubes_refused : (f : ReadFault) → IsMemory f ⊎ (first_fault (cube_faults ClauseAfterCube MAX_VARS) [] (cube_part body) ≡ Some f) → IsMemory f ⊎ (icnf_refusal text ≡ Some f)
      cubes_refused f (inl m) = inl m
      cubes_refused f (inr x) = inr (of_cube_part ∙ x)

      -- the clauses and the cubes are what the text spells
      pub all_read : (cubes : List (List Literal)) → CubeLines (items (cube_part body)) MAX_VARS cubes → (vars : ℕ) → vars ≡ max (greatest_var w.read) (greatest_var cubes)
          → IcnfText text (clause_instance vars w.read) cubes × (vars ≤ MAX_VARS) × HasVariablesWithin vars (record { objective = None; constraints = map clause_constraint w.read })
      all_read cubes read vars is =
          let clear : icnf_refusal text ≡ None = of_cube_part ∙ cubes_clear ClauseAfterCube MAX_VARS (cube_part body) cubes read in
          let s = spells text clear in
          let t = s.2 in
          let heads : t.head ∷ t.body ≡ record { item = head; line = number } ∷ body = sym t.lines ∙ lines in
          let same_body : t.body ≡ body = cc in
          let same : t.clauses ≡ w.read = one_spelling t.clauses w.read (sym (clauses_of_words (clause_part t.body) t.clauses t.spelled) ∙ ap (λ (b : List (Placed (List ℕ))). items (clauses_on (clause_part b))) same_body ∙ w.spelled) in
          let same_cubes : s.1 ≡ cubes = one_cubes (items (cube_part body)) MAX_VARS s.1 cubes (subst (λ (b : List (Placed (List ℕ))). CubeLines (items (cube_part b)) MAX_VARS s.1) same_body t.cube_lines) read in
          let instance : s.0 ≡ clause_instance vars w.read =
          t.instance ∙ ap (λ (cs : List (List Literal)). clause_instance (max (greatest_var cs) (greatest_var s.1)) cs) same ∙ ap (λ (cs : List (List Literal)). clause_instance (max (greatest_var w.read) (greatest_var cs)) w.read) same_cubes
          ∙ ap (λ (n : ℕ). clause_instance n w.read) (sym is) in
          let indices : VarsUpTo MAX_VARS w.read = subst (VarsUpTo MAX_VARS) same t.indices in
          let of_clauses = greatest_within MAX_VARS w.read indices in
          let of_cubes = greatest_within MAX_VARS cubes read.indices in
          let below : greatest_var w.read ≤ vars = omega (arith, is) in (
            subst (IcnfText text (clause_instance vars w.read)) same_cubes (subst (λ (i : Problem). IcnfText text i s.1) instance t),
            omega (arith, is, of_clauses, of_cubes),
            clauses_have_variables vars (clause_part t.body) w.read (t.spelled ∙ ap (flat_map whole_words) same) (up_to_greatest vars w.read below),
          )
