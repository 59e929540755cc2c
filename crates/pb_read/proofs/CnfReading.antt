-- What a reader of CNF finds is what the text spells, or its refusal.
use Rattle.std.proofs.Common.{◌≡◌, ℕ, ◌<◌, ◌≤◌, sym, ap, subst, ◌∙◌, List, [], ◌∷◌, Bool, true, false, ◌||◌, cond, map, length, arith, Some, None, Option, ltb, inl, inr}
use Rattle.std.specs.Prelude.{◌⊎◌, option_map}
use Rattle.std.proofs.lemmas.Bool.{lt-ltb, le-ltb, or_from}
use Rattle.std.proofs.lemmas.List.{append-nil, length-map}
use Rattle.pb_inst.specs.Literal.{Literal}
use Rattle.pb_inst.specs.Constraints.{clause_constraint}
use Rattle.pb_inst.specs.Limits.{HasVariablesWithin}
use Rattle.pb_inst.specs.declared.limits.TheConstants.{MAX_VARS, MAX_CONSTRAINTS}
use Rattle.pb_read.specs.declared.fault.ReadKind.{ReadKind}
use Rattle.pb_read.specs.declared.fault.ReadKind.TheVariants.{BadHeader, TooMany, TooFewClauses}
use Rattle.pb_read.specs.declared.fault.ReadFault.{ReadFault}
use Rattle.pb_read.specs.declared.dimacs.clause_reader.ClauseReader.{ClauseReader}
use Rattle.pb_read.specs.Text.{Placed, items, content, clause_lines, last_line, words}
use Rattle.pb_read.specs.Refusal.{first_fault, at_line, ◌or_else◌}
use Rattle.pb_read.specs.Clauses.{Word, whole_words, placed_words, clauses_on, clauses_in, clause_instance, clause_faults, VarsUpTo}
use Rattle.pb_read.specs.Cnf.{Header, header_words, CnfText, cnf_refusal, refusal_of_content, refusal_after_header, body_refusal}
use Rattle.pb_read.specs.Reading.{IsMemory}
use Rattle.pb_read.specs.Capped.{cap_count}
use Rattle.pb_read.specs.declared.dimacs.cnf.Header as code
use Rattle.pb_read.specs.ClauseReading.{IsWhole, Fails, capped_header}
use Rattle.pb_read.proofs.ClausesSpelled.{length_items, one_spelling, clauses_of_words}
use Rattle.pb_read.proofs.ClauseIndices.{clauses_have_variables}
use Rattle.pb_read.proofs.CnfLaws.{spells}

abbrev pub fault : ReadKind → ℕ → ReadFault
fault k l = record { kind = k; line = l }

-- the header that the code reads, where its numbers are within the limits
pub header_is : (o : Option Header) (x : code.Header) → option_map capped_header o ≡ Some x → x.vars ≤ MAX_VARS → x.clauses ≤ MAX_CONSTRAINTS → o ≡ Some (record { vars = x.vars; clauses = x.clauses })
header_is None x e v c = absurd cc
header_is (Some h) x e v c =
    let vars : x.vars ≡ cap_count h.vars = cc in
    let clauses : x.clauses ≡ cap_count h.clauses = cc in
    let a : h.vars ≡ x.vars = omega (arith, vars, v) in
    let b : h.clauses ≡ x.clauses = omega (arith, clauses, c) in
    same h.vars x.vars h.clauses x.clauses a b
  where
    made : ℕ → ℕ → Header
    made n m = record { vars = n; clauses = m }

    same : (n m k l : ℕ) → n ≡ m → k ≡ l → Some (made n k) ≡ Some (made m l)
    same n m k l a b = cc

module _ (text head : List ℕ) (number : ℕ) (body : List (Placed (List ℕ))) (lines : content text ≡ record { item = head; line = number } ∷ body) where
  refusal : cnf_refusal text ≡ refusal_after_header (last_line (clause_lines text)) (record { item = head; line = number }) body (header_words (words head))
  refusal = ap (refusal_of_content (last_line (clause_lines text))) lines

  pub bad_header : header_words (words head) ≡ None → cnf_refusal text ≡ Some (fault BadHeader number)
  bad_header e = refusal ∙ ap (refusal_after_header (last_line (clause_lines text)) (record { item = head; line = number }) body) e

  module _ (h : Header) (e : header_words (words head) ≡ Some h) where
    after : cnf_refusal text
        ≡ (cond (ltb MAX_VARS h.vars || ltb MAX_CONSTRAINTS h.clauses) (at_line number (Some TooMany)) None or_else body_refusal (last_line (clause_lines text)) h (clauses_on body))
    after = refusal ∙ ap (refusal_after_header (last_line (clause_lines text)) (record { item = head; line = number }) body) e

    pub too_many : (ltb MAX_VARS h.vars || ltb MAX_CONSTRAINTS h.clauses) ≡ true → cnf_refusal text ≡ Some (fault TooMany number)
    too_many over = after ∙ ap (λ (b : Bool). cond b (at_line number (Some TooMany)) None or_else body_refusal (last_line (clause_lines text)) h (clauses_on body)) over

    module _ (vars : h.vars ≤ MAX_VARS) (clauses : h.clauses ≤ MAX_CONSTRAINTS) where
      of_body : cnf_refusal text ≡ body_refusal (last_line (clause_lines text)) h (clauses_on body)
      of_body =
          after
          ∙ ap (λ (b : Bool). cond b (at_line number (Some TooMany)) None or_else body_refusal (last_line (clause_lines text)) h (clauses_on body))
          (or_from (ltb MAX_VARS h.vars) (ltb MAX_CONSTRAINTS h.clauses) (le-ltb MAX_VARS h.vars vars) (le-ltb MAX_CONSTRAINTS h.clauses clauses))

      -- a fault of a clause is the text's
      pub body_fails : (f : ReadFault) → first_fault (clause_faults (Some h.clauses) h.vars) [] (clauses_on body) ≡ Some f → cnf_refusal text ≡ Some f
      body_fails f x = of_body ∙ ap (λ (o : Option ReadFault). o or_else cond (ltb (length (clauses_on body)) h.clauses) (at_line (last_line (clause_lines text)) (Some TooFewClauses)) None) x

      pub body_refused : (f : ReadFault) → IsMemory f ⊎ (first_fault (clause_faults (Some h.clauses) h.vars) [] (clauses_on body) ≡ Some f) → IsMemory f ⊎ (cnf_refusal text ≡ Some f)
      body_refused f (inl m) = inl m
      body_refused f (inr x) = inr (body_fails f x)

      module _ (r : ClauseReader) (w : IsWhole (Some h.clauses) h.vars r (placed_words body)) where
        many : length (clauses_on body) ≡ r.count
        many = sym (length_items (clauses_on body)) ∙ ap length w.spelled ∙ length-map w.read whole_words ∙ sym w.holds.counted

        by_count : (b : Bool) → ltb (length (clauses_on body)) h.clauses ≡ b → cnf_refusal text ≡ cond b (at_line (last_line (clause_lines text)) (Some TooFewClauses)) None
        by_count b x =
            of_body ∙ ap (λ (o : Option ReadFault). o or_else cond (ltb (length (clauses_on body)) h.clauses) (at_line (last_line (clause_lines text)) (Some TooFewClauses)) None) w.clear
            ∙ ap (λ (b : Bool). cond b (at_line (last_line (clause_lines text)) (Some TooFewClauses)) None) x

        pub too_few : r.count < h.clauses → cnf_refusal text ≡ Some (fault TooFewClauses (last_line (clause_lines text)))
        too_few few = by_count true (lt-ltb (length (clauses_on body)) h.clauses (omega (arith, few, many)))

        -- as many clauses as were announced are what the text spells
        pub all_read : h.clauses ≤ r.count → (clauses : List (List Literal)) × (w.read ≡ clauses) × CnfText text (clause_instance h.vars w.read) × HasVariablesWithin h.vars (record { objective = None; constraints = map clause_constraint w.read })
        all_read enough =
            let clear = by_count false (le-ltb (length (clauses_on body)) h.clauses (omega (arith, enough, many))) in
            let s = spells text clear in
            let t = s.1 in
            let heads : t.head ∷ t.body ≡ record { item = head; line = number } ∷ body = sym t.lines ∙ lines in
            let first : t.head ≡ record { item = head; line = number } = cc in
            let same_body : t.body ≡ body = cc in
            let some : Some t.header ≡ Some h = sym t.header_line ∙ ap (λ (l : Placed (List ℕ)). header_words (words l.item)) first ∙ e in
            let same_header : t.header ≡ h = cc in
            let same : t.clauses ≡ w.read = one_spelling t.clauses w.read (sym (clauses_of_words t.body t.clauses t.spelled) ∙ ap (λ (b : List (Placed (List ℕ))). items (clauses_on b)) same_body ∙ w.spelled) in
            let is : s.0 ≡ clause_instance h.vars w.read = t.instance ∙ ap (λ (x : Header). clause_instance x.vars t.clauses) same_header ∙ ap (clause_instance h.vars) same in
            let indices : VarsUpTo h.vars t.clauses = subst (λ (x : Header). VarsUpTo x.vars t.clauses) same_header t.indices in (
              t.clauses,
              sym same,
              subst (CnfText text) is t,
              subst (λ (cs : List (List Literal)). HasVariablesWithin h.vars (record { objective = None; constraints = map clause_constraint cs })) same (clauses_have_variables h.vars t.body t.clauses t.spelled indices),
            )

-- a fault that each text has whose words begin so is the fault of the words themselves
pub fails_now : (announced : Option ℕ) (n : ℕ) (taken : List (Placed Word)) (f : ReadFault) → Fails announced n taken f → IsMemory f ⊎ (first_fault (clause_faults announced n) [] (clauses_in taken) ≡ Some f)
fails_now announced n taken f (inl m) = inl m
fails_now announced n taken f (inr r) = inr (ap (λ (ws : List (Placed Word)). first_fault (clause_faults announced n) [] (clauses_in ws)) (sym (append-nil taken)) ∙ r [])
