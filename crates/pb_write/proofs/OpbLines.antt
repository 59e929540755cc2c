-- The lines of OPB that are written, and the tokens on them.
use Rattle.std.proofs.Common.{◌≡◌, ℕ, ◌<◌, ◌≤◌, ◌^◌, List, [], ◌∷◌, ◌++◌, true, false, codes, append_assoc, refl, ap, ◌∙◌, arith, unsigned_abs}
use Rattle.std.specs.Prelude.{flat_map}
use Rattle.std.specs.Fmt.{signed_decimal}
use Rattle.std.specs.List.{list_all, AllByRecursion}
use Rattle.std.proofs.lemmas.Bool.{and_from}
use Rattle.std.proofs.lemmas.List.Folds.{list_all-append}
use Rattle.std.proofs.lemmas.List.Sums.{sum_by-cons}
use Rattle.pb_inst.specs.declared.constraints.Term.{Term}
use Rattle.pb_inst.specs.declared.limits.TheConstants.{MAX_VARS, SUM_BOUND}
use Rattle.pb_inst.specs.Limits.{total_magnitude, constraint_magnitude}
use Rattle.pb_inst.specs.Problem.{LinearConstraint}
use Rattle.pb_read.specs.Opb.{Token, End, Min, Related, Number, Lit, line_tokens, is_comment, term_tokens, objective_tokens, constraint_tokens, token_of}
use Rattle.pb_write.specs.Text.{opb_literal, term_text, terms_text, relation_text, constraint_line, objective_line}
use Rattle.pb_write.proofs.Cutting.{is_line, line_after, no_feed}
use Rattle.pb_write.proofs.OpbWords.{IsWord, next_token, no_comment, number_word, literal_word, relation_word, objective_word}

-- the line is no comment, and has these tokens
pub record IsLineOf (l : List ℕ) (ts : List Token) : Type 0 where
  pub line : is_line l ≡ true
  pub bare : is_comment l ≡ false
  pub tokens : line_tokens l ≡ ts

-- the numbers of the term have digits
abbrev pub HasDigits : Term → Type 0
HasDigits t = (unsigned_abs t.coef < 10 ^ 64) × (t.lit.var < 10 ^ 64)

-- ---- limits

bound_has_digits : (n : ℕ) → n ≤ SUM_BOUND → n < 10 ^ 64
bound_has_digits n small = omega arith

pub vars_have_digits : (n : ℕ) → n ≤ MAX_VARS → n < 10 ^ 64
vars_have_digits n small = omega arith

abbrev HasVariable : Term → Type 0
HasVariable t = t.lit.var ≤ MAX_VARS

pub terms_have_digits : (ts : List Term) → total_magnitude ts ≤ SUM_BOUND → AllByRecursion HasVariable ts → AllByRecursion HasDigits ts
terms_have_digits [] small vars = tt
terms_have_digits (t ∷ ts) small vars =
    let sum = sum_by-cons (λ (u : Term). unsigned_abs u.coef) t ts in
    ((bound_has_digits (unsigned_abs t.coef) (omega arith), vars_have_digits t.lit.var vars.0), terms_have_digits ts (omega arith) vars.1)

-- ---- terms

term_text_regrouped : (a b rest : List ℕ) → (((a ++ codes " ") ++ b) ++ codes " ") ++ rest ≡ a ++ 32 ∷ (b ++ 32 ∷ rest)
term_text_regrouped a b rest = simp append_assoc

term_read : (t : Term) (rest : List ℕ) → HasDigits t → line_tokens (term_text t ++ rest) ≡ Number t.coef ∷ Lit t.lit ∷ line_tokens rest
term_read t rest h =
    ap line_tokens (term_text_regrouped (signed_decimal t.coef) (opb_literal t.lit) rest)
    ∙ next_token (signed_decimal t.coef) (opb_literal t.lit ++ 32 ∷ rest) (Number t.coef) (number_word t.coef h.0)
    ∙ ap (λ (ts : List Token). Number t.coef ∷ ts) (next_token (opb_literal t.lit) rest (Lit t.lit) (literal_word t.lit h.1))

terms_read : (ts : List Term) (rest : List ℕ) → AllByRecursion HasDigits ts → line_tokens (terms_text ts ++ rest) ≡ flat_map term_tokens ts ++ line_tokens rest
terms_read [] rest h = refl
terms_read (t ∷ ts) rest h =
    ap line_tokens (append_assoc (term_text t) (terms_text ts) rest)
    ∙ term_read t (terms_text ts ++ rest) h.0
    ∙ ap (λ (x : List Token). Number t.coef ∷ Lit t.lit ∷ x) (terms_read ts rest h.1)

pub unfed_both : (xs ys : List ℕ) → list_all no_feed xs ≡ true → list_all no_feed ys ≡ true → list_all no_feed (xs ++ ys) ≡ true
unfed_both xs ys h k = list_all-append no_feed xs ys ∙ and_from (list_all no_feed xs) (list_all no_feed ys) h k

term_unfed : (t : Term) → HasDigits t → list_all no_feed (term_text t) ≡ true
term_unfed t h =
    let coef = number_word t.coef h.0 in
    let literal = literal_word t.lit h.1 in
    unfed_both ((signed_decimal t.coef ++ codes " ") ++ opb_literal t.lit) (codes " ")
    (unfed_both (signed_decimal t.coef ++ codes " ") (opb_literal t.lit) (unfed_both (signed_decimal t.coef) (codes " ") coef.unfed refl) literal.unfed) refl

terms_unfed : (ts : List Term) → AllByRecursion HasDigits ts → list_all no_feed (terms_text ts) ≡ true
terms_unfed [] h = refl
terms_unfed (t ∷ ts) h = unfed_both (term_text t) (terms_text ts) (term_unfed t h.0) (terms_unfed ts h.1)

-- ---- constraints

end_read : line_tokens (59 ∷ 10 ∷ []) ≡ End ∷ []
unfolding token_of
end_read = refl

constraint_regrouped : (ts r b : List ℕ) → (((ts ++ r) ++ codes " ") ++ b) ++ codes " ;\n" ≡ ts ++ (r ++ 32 ∷ (b ++ 32 ∷ 59 ∷ 10 ∷ []))
constraint_regrouped ts r b = simp append_assoc

-- a line of terms, or of none and then a relation, is no comment
terms_bare : (ts : List Term) (r : List ℕ) (t : Token) (rest : List ℕ) → AllByRecursion HasDigits ts → IsWord r t → is_comment (terms_text ts ++ (r ++ rest)) ≡ false
terms_bare [] r t rest h word = no_comment r rest t word
terms_bare (u ∷ us) r t rest h word =
    ap is_comment (append_assoc (term_text u) (terms_text us) (r ++ rest) ∙ term_text_regrouped (signed_decimal u.coef) (opb_literal u.lit) (terms_text us ++ (r ++ rest)))
    ∙ no_comment (signed_decimal u.coef) (32 ∷ (opb_literal u.lit ++ 32 ∷ (terms_text us ++ (r ++ rest)))) (Number u.coef) (number_word u.coef h.0.0)

pub constraint_is_line : (c : LinearConstraint) → AllByRecursion HasDigits c.terms → constraint_magnitude c ≤ SUM_BOUND → IsLineOf (constraint_line c) (constraint_tokens c)
constraint_is_line c h small =
    let relation = relation_word c.relation in
    let bound : IsWord (signed_decimal c.bound) (Number c.bound) = number_word c.bound (bound_has_digits (unsigned_abs c.bound) (omega arith)) in
    record {
      line = line_after (((terms_text c.terms ++ relation_text c.relation) ++ codes " ") ++ signed_decimal c.bound) (codes " ;\n")
          (unfed_both ((terms_text c.terms ++ relation_text c.relation) ++ codes " ") (signed_decimal c.bound)
          (unfed_both (terms_text c.terms ++ relation_text c.relation) (codes " ") (unfed_both (terms_text c.terms) (relation_text c.relation) (terms_unfed c.terms h) relation.unfed) refl) bound.unfed) refl;
      bare = ap is_comment (constraint_regrouped (terms_text c.terms) (relation_text c.relation) (signed_decimal c.bound))
          ∙ terms_bare c.terms (relation_text c.relation) (Related c.relation) (32 ∷ (signed_decimal c.bound ++ 32 ∷ 59 ∷ 10 ∷ [])) h relation;
      tokens = ap line_tokens (constraint_regrouped (terms_text c.terms) (relation_text c.relation) (signed_decimal c.bound))
          ∙ terms_read c.terms (relation_text c.relation ++ 32 ∷ (signed_decimal c.bound ++ 32 ∷ 59 ∷ 10 ∷ [])) h
          ∙ ap (λ (x : List Token). flat_map term_tokens c.terms ++ x)
          (next_token (relation_text c.relation) (signed_decimal c.bound ++ 32 ∷ 59 ∷ 10 ∷ []) (Related c.relation) relation
          ∙ ap (λ (x : List Token). Related c.relation ∷ x) (next_token (signed_decimal c.bound) (59 ∷ 10 ∷ []) (Number c.bound) bound ∙ ap (λ (x : List Token). Number c.bound ∷ x) end_read));
    }

-- ---- the objective

objective_regrouped : (ts : List ℕ) → (codes "min: " ++ ts) ++ codes ";\n" ≡ codes "min:" ++ 32 ∷ (ts ++ 59 ∷ 10 ∷ [])
objective_regrouped ts = refl

pub objective_is_line : (ts : List Term) → AllByRecursion HasDigits ts → IsLineOf (objective_line ts) (objective_tokens ts)
objective_is_line ts h = record {
  line = line_after (codes "min: " ++ terms_text ts) (codes ";\n") (unfed_both (codes "min: ") (terms_text ts) refl (terms_unfed ts h)) refl;
  bare = refl;
  tokens = ap line_tokens (objective_regrouped (terms_text ts))
      ∙ next_token (codes "min:") (terms_text ts ++ 59 ∷ 10 ∷ []) Min objective_word
      ∙ ap (λ (x : List Token). Min ∷ x) (terms_read ts (59 ∷ 10 ∷ []) h ∙ ap (λ (x : List Token). flat_map term_tokens ts ++ x) end_read);
}
