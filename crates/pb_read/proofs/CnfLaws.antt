-- A CNF text spells one instance or has one refusal.
use Rattle.std.proofs.Common.{◌≡◌, ℕ, refl, sym, ap, ◌∙◌, List, [], ◌∷◌, Bool, true, false, cond, ◌||◌, map, length, arith, Option, Some, None, ltb}
use Rattle.std.proofs.lemmas.Bool.{or_parts, or_from, le-ltb, ltb-false}
use Rattle.pb_inst.specs.Literal.{Literal}
use Rattle.pb_inst.specs.Problem.{Problem}
use Rattle.pb_inst.specs.declared.limits.TheConstants.{MAX_VARS, MAX_CONSTRAINTS}
use Rattle.pb_read.specs.declared.fault.ReadKind.TheVariants.{TooMany, TooFewClauses}
use Rattle.pb_read.specs.declared.fault.ReadFault.{ReadFault}
use Rattle.pb_read.specs.Text.{Placed, items, content, clause_lines, last_line, words}
use Rattle.pb_read.specs.Refusal.{first_fault, at_line, ◌or_else◌}
use Rattle.pb_read.specs.Clauses.{Word, whole_words, clause_faults, clauses_on, clause_instance}
use Rattle.pb_read.specs.Cnf.{Header, header_words, CnfText, body_refusal, refusal_after_header, refusal_of_content, cnf_refusal}
use Rattle.pb_read.proofs.ClauseLaws.{plain, Any, each_any, most, table}
use Rattle.pb_read.proofs.ClausesSpelled.{length_items, Spells, same_count, same_length, all_clear, all_spelled, one_spelling, same_items, words_of_clauses, clauses_of_words}

module _ (h : Header) where
  few_parts : (last : ℕ) (o : Option ReadFault) (b : Bool) → (o or_else cond b (at_line last (Some TooFewClauses)) None) ≡ None → (o ≡ None) × (b ≡ false)
  few_parts last (Some f) b e = absurd cc
  few_parts last None true e = absurd cc
  few_parts last None false e = (refl, refl)

  -- the clauses of a body that is not refused
  body_back : (last : ℕ) (ss : List (Placed (List Word))) → body_refusal last h ss ≡ None → (cs : List (List Literal)) × Spells plain Any h.vars (most (Some h.clauses)) [] (items ss) cs × (length cs ≡ h.clauses)
  body_back last ss e =
      let p = few_parts last (first_fault (clause_faults (Some h.clauses) h.vars) [] ss) (ltb (length ss) h.clauses) e in
      let r = all_spelled plain Any h.vars (most (Some h.clauses)) (clause_faults (Some h.clauses) h.vars) (table (Some h.clauses) h.vars) [] ss (omega arith) (omega arith) p.0 in
      let n : length (items ss) ≡ length r.0 = same_length plain (items ss) r.0 r.1.spelled in
      (r.0, r.1, omega (arith, n, length_items ss, r.1.count, ltb-false (length ss) h.clauses p.1))

  body_clear : (last : ℕ) (ss : List (Placed (List Word))) (cs : List (List Literal)) → Spells plain Any h.vars (most (Some h.clauses)) [] (items ss) cs → length cs ≡ h.clauses → body_refusal last h ss ≡ None
  body_clear last ss cs s e =
      let clear : first_fault (clause_faults (Some h.clauses) h.vars) [] ss ≡ None = all_clear plain Any h.vars (most (Some h.clauses)) (clause_faults (Some h.clauses) h.vars) (table (Some h.clauses) h.vars) [] ss cs s in
      let n : length (items ss) ≡ length cs = same_length plain (items ss) cs s.spelled in
      let few : ltb (length ss) h.clauses ≡ false = le-ltb (length ss) h.clauses (omega (arith, n, e, length_items ss)) in
      rw (clear, few) refl

limit_parts : (line : ℕ) (b : Bool) (r : Option ReadFault) → (cond b (at_line line (Some TooMany)) None or_else r) ≡ None → (b ≡ false) × (r ≡ None)
limit_parts line true r e = absurd cc
limit_parts line false r e = (refl, e)

header_back : (last : ℕ) (head : Placed (List ℕ)) (body : List (Placed (List ℕ))) (o : Option Header) → refusal_after_header last head body o ≡ None
    → (h : Header) × (o ≡ Some h) × ((ltb MAX_VARS h.vars || ltb MAX_CONSTRAINTS h.clauses) ≡ false) × (body_refusal last h (clauses_on body) ≡ None)
header_back last head body None e = absurd cc
header_back last head body (Some h) e =
    let p = limit_parts head.line (ltb MAX_VARS h.vars || ltb MAX_CONSTRAINTS h.clauses) (body_refusal last h (clauses_on body)) e in
    (h, refl, p.0, p.1)

content_back : (last : ℕ) (ls : List (Placed (List ℕ))) → refusal_of_content last ls ≡ None
    → (head : Placed (List ℕ)) × (body : List (Placed (List ℕ))) × (ls ≡ head ∷ body) × (refusal_after_header last head body (header_words (words head.item)) ≡ None)
content_back last [] e = absurd cc
content_back last (head ∷ body) e = (head, body, refl, e)

pub spells : (text : List ℕ) → cnf_refusal text ≡ None → (i : Problem) × CnfText text i
spells text e =
    let last : ℕ = last_line (clause_lines text) in
    let c = content_back last (content text) e in
    let head : Placed (List ℕ) = c.0 in
    let body : List (Placed (List ℕ)) = c.1 in
    let p = header_back last head body (header_words (words head.item)) c.3 in
    let h : Header = p.0 in
    let limits = or_parts (ltb MAX_VARS h.vars) (ltb MAX_CONSTRAINTS h.clauses) p.2 in
    let b = body_back h last (clauses_on body) p.3 in
    let spelled : items (clauses_on body) ≡ map whole_words b.0 = sym (same_items (items (clauses_on body))) ∙ b.1.spelled in (
      clause_instance h.vars b.0,
      record {
        head = head;
        body = body;
        lines = c.2;
        header = h;
        header_line = p.1;
        clauses = b.0;
        spelled = words_of_clauses body b.0 spelled;
        instance = refl;
        count = b.2;
        vars = ltb-false MAX_VARS h.vars limits.0;
        few_clauses = ltb-false MAX_CONSTRAINTS h.clauses limits.1;
        few_literals = omega (arith, b.1.literals, same_count plain (items (clauses_on body)) b.0 b.1.spelled);
        indices = b.1.indices;
      },
    )

refusal_clear : (line : ℕ) (b : Bool) (r : Option ReadFault) → b ≡ false → r ≡ None → (cond b (at_line line (Some TooMany)) None or_else r) ≡ None
refusal_clear line b r e h = rw (e, h) refl

pub not_refused : (text : List ℕ) (i : Problem) → CnfText text i → cnf_refusal text ≡ None
not_refused text i t =
    let last : ℕ = last_line (clause_lines text) in
    let h : Header = t.header in
    let cut : items (clauses_on t.body) ≡ map whole_words t.clauses = clauses_of_words t.body t.clauses t.spelled in
    let spelled : map plain (items (clauses_on t.body)) ≡ map whole_words t.clauses = same_items (items (clauses_on t.body)) ∙ cut in
    let s : Spells plain Any h.vars (most (Some h.clauses)) [] (items (clauses_on t.body)) t.clauses = record {
      each = each_any (items (clauses_on t.body));
      spelled = spelled;
      indices = t.indices;
      count = omega (arith, t.count, t.few_clauses, same_length plain (items (clauses_on t.body)) t.clauses spelled);
      literals = omega (arith, t.few_literals, same_count plain (items (clauses_on t.body)) t.clauses spelled);
    } in
    let limits = or_from (ltb MAX_VARS h.vars) (ltb MAX_CONSTRAINTS h.clauses) (le-ltb MAX_VARS h.vars t.vars) (le-ltb MAX_CONSTRAINTS h.clauses t.few_clauses) in
    ap (refusal_of_content last) t.lines ∙ ap (refusal_after_header last t.head t.body) t.header_line
    ∙ refusal_clear t.head.line (ltb MAX_VARS h.vars || ltb MAX_CONSTRAINTS h.clauses) (body_refusal last h (clauses_on t.body)) limits (body_clear h last (clauses_on t.body) t.clauses s t.count)

pub one : (text : List ℕ) (i j : Problem) → CnfText text i → CnfText text j → i ≡ j
one text i j t u =
    let same : t.head ∷ t.body ≡ u.head ∷ u.body = sym t.lines ∙ u.lines in
    let head : t.head ≡ u.head = cc in
    let body : t.body ≡ u.body = cc in
    let header : Some t.header ≡ Some u.header = sym t.header_line ∙ ap (λ (l : Placed (List ℕ)). header_words (words l.item)) head ∙ u.header_line in
    let h : t.header ≡ u.header = cc in
    let clauses : t.clauses ≡ u.clauses = one_spelling t.clauses u.clauses
    (sym (clauses_of_words t.body t.clauses t.spelled) ∙ ap (λ (b : List (Placed (List ℕ))). items (clauses_on b)) body ∙ clauses_of_words u.body u.clauses u.spelled) in
    t.instance ∙ ap (λ (x : Header). clause_instance x.vars t.clauses) h ∙ ap (clause_instance u.header.vars) clauses ∙ sym u.instance
