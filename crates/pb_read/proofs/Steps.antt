-- The builder after an objective and after a constraint.
use Rattle.std.proofs.Common.{◌≡◌, ℕ, ◌+◌, sym, ap, ◌∙◌, List, [], ◌∷◌, ◌++◌, Bool, true, false, ◌||◌, Some, None, Option, length, arith, ltb, eqb, max}
use Rattle.std.specs.Prelude.{unsigned_abs, sum_by}
use Rattle.std.specs.List.{list_any}
use Rattle.std.proofs.lemmas.Bool.{ne_eqb}
use Rattle.std.proofs.lemmas.List.{length-append, append-nil}
use Rattle.pb_inst.specs.declared.constraints.Term.{Term}
use Rattle.pb_inst.specs.Problem.{LinearConstraint, Statements}
use Rattle.pb_inst.specs.Limits.{total_magnitude, constraint_terms, term_count}
use Rattle.pb_inst.specs.declared.limits.TheConstants.{MAX_CONSTRAINTS, MAX_TERMS, SUM_BOUND}
use Rattle.pb_read.specs.Runs.{first_is}
use Rattle.pb_read.specs.Terms.{greatest_index}
use Rattle.pb_read.specs.Refusal.{first_kind}
use Rattle.pb_read.specs.Places.{form_faults}
use Rattle.pb_read.specs.Building.{HasBuilt, amount_kind, statements_of, terms_of}
use Rattle.pb_read.specs.Opb.{Token, is_end, is_min, size, objective_tokens, constraint_tokens, statement_faults}
use Rattle.pb_read.proofs.Taken.{is_many, amounts}
use Rattle.pb_read.proofs.Amounts.{statements_more, greatest_more, constraint_sum, constraint_many, not_late, first_statement, objective_sum, objective_many}

not_empty : (earlier : List (List Token)) (u : List Token) → false ≡ eqb (length (earlier ++ u ∷ [])) 0
not_empty earlier u = sym (ne_eqb (length (earlier ++ u ∷ [])) 0 (λ e. absurd (omega (arith, e, length-append earlier (u ∷ [])))))

module _ (s : Statements) (greatest : ℕ) (empty : Bool) (earlier : List (List Token)) (u : List Token) (h : HasBuilt s greatest empty earlier) (end : list_any is_end u ≡ true) (form : None ≡ first_kind (form_faults empty u)) where
  -- ---- a constraint

  pub constraint_kind : (c : LinearConstraint) → u ≡ constraint_tokens c
      → first_kind (statement_faults earlier u) ≡ amount_kind (ltb SUM_BOUND (total_magnitude c.terms + unsigned_abs c.bound)) (ltb MAX_CONSTRAINTS (length s.constraints + 1) || ltb MAX_TERMS (term_count s + length c.terms))
  constraint_kind c is =
      let sum : sum_by size u ≡ total_magnitude c.terms + unsigned_abs c.bound = ap (sum_by size) is ∙ constraint_sum c in
      let many : is_many earlier u ≡ (ltb MAX_CONSTRAINTS (length s.constraints + 1) || ltb MAX_TERMS (term_count s + length c.terms)) =
      ap (λ (e : List (List Token)). is_many e u) h.same ∙ ap (is_many (statements_of s.objective s.constraints)) is ∙ constraint_many s c in
      amounts earlier u empty h.empty end form ∙ ap (λ (n : ℕ). amount_kind (ltb SUM_BOUND n) (is_many earlier u)) sum ∙ ap (amount_kind (ltb SUM_BOUND (total_magnitude c.terms + unsigned_abs c.bound))) many

  pub after_constraint : (c : LinearConstraint) (new : Statements) (n : ℕ) → u ≡ constraint_tokens c → new ≡ record s { constraints = s.constraints ++ c ∷ [] } → n ≡ max greatest (greatest_index c.terms) → HasBuilt new n false (earlier ++ u ∷ [])
  after_constraint c new n is made most =
      let same : earlier ++ u ∷ [] ≡ statements_of s.objective (s.constraints ++ c ∷ []) = ap (λ (e : List (List Token)). e ++ u ∷ []) h.same ∙ ap (λ (x : List Token). statements_of s.objective s.constraints ++ x ∷ []) is ∙ statements_more s.objective s.constraints c in
      let index : n ≡ greatest_index (terms_of s.objective (s.constraints ++ c ∷ [])) = most ∙ ap (λ (k : ℕ). max k (greatest_index c.terms)) h.index ∙ sym (greatest_more s.objective s.constraints c) in
      rw made (record { same = same; index = index; empty = not_empty earlier u })

  -- ---- an objective

  pub objective_kind : (ts : List Term) → first_is is_min u ≡ true → u ≡ objective_tokens ts
      → first_kind (statement_faults earlier u) ≡ amount_kind (ltb SUM_BOUND (total_magnitude ts)) (ltb MAX_TERMS (length ts + constraint_terms s.constraints))
  objective_kind ts m is =
      let p = first_statement earlier s.objective s.constraints empty h.same h.empty (not_late empty u form m) in
      let none : earlier ≡ [] = h.same ∙ ap (λ (o : Option (List Term)). statements_of o s.constraints) p.0 ∙ ap (statements_of None) p.1 in
      let sum : sum_by size u ≡ total_magnitude ts = ap (sum_by size) is ∙ objective_sum ts in
      let many : is_many earlier u ≡ ltb MAX_TERMS (length ts + constraint_terms s.constraints) =
      ap (λ (e : List (List Token)). is_many e u) none ∙ ap (is_many []) is ∙ objective_many ts ∙ ap (λ (cs : List LinearConstraint). ltb MAX_TERMS (length ts + constraint_terms cs)) (sym p.1) in
      amounts earlier u empty h.empty end form ∙ ap (λ (n : ℕ). amount_kind (ltb SUM_BOUND n) (is_many earlier u)) sum ∙ ap (amount_kind (ltb SUM_BOUND (total_magnitude ts))) many

  pub after_objective : (ts : List Term) (new : Statements) (n : ℕ) → first_is is_min u ≡ true → u ≡ objective_tokens ts → new ≡ record s { objective = Some ts } → n ≡ max greatest (greatest_index ts) → HasBuilt new n false (earlier ++ u ∷ [])
  after_objective ts new n m is made most =
      let p = first_statement earlier s.objective s.constraints empty h.same h.empty (not_late empty u form m) in
      let none : earlier ≡ [] = h.same ∙ ap (λ (o : Option (List Term)). statements_of o s.constraints) p.0 ∙ ap (statements_of None) p.1 in
      let same : earlier ++ u ∷ [] ≡ statements_of (Some ts) s.constraints = ap (λ (e : List (List Token)). e ++ u ∷ []) none ∙ ap (λ (x : List Token). x ∷ []) is ∙ ap (statements_of (Some ts)) (sym p.1) in
      let zero_yet : greatest ≡ 0 = h.index ∙ ap (λ (o : Option (List Term)). greatest_index (terms_of o s.constraints)) p.0 ∙ ap (λ (cs : List LinearConstraint). greatest_index (terms_of None cs)) p.1 in
      let only : ts ++ [] ≡ ts = append-nil ts in
      let index : n ≡ greatest_index (terms_of (Some ts) s.constraints) = omega (arith, most, zero_yet, ap (λ (cs : List LinearConstraint). greatest_index (terms_of (Some ts) cs)) p.1, ap greatest_index only) in
      rw made (record { same = same; index = index; empty = not_empty earlier u })
