-- Leaving out literals one after the other.
use Rattle.std.proofs.Common.{◌≡◌, ◌≢◌, ℕ, zero, suc, ◌+◌, ◌<◌, ◌≤◌, List, [], ◌∷◌, ◌++◌, Bool, true, false, Option, None, Some, length, length-append, sym, ap, subst, arith, inl, inr, ◌⊎◌}
use Rattle.std.specs.Prelude.{All, Contains, IfNone, IsSomeAnd, remove, slice_index_or}
use Rattle.std.proofs.Math.ListN.{get_or-append}
use Rattle.std.proofs.Math.Seq.{get_or-append_seam}
use Rattle.std.proofs.lemmas.Bool.Decides.{leb_tells}
use Rattle.std.proofs.lemmas.List.Elements.{All-contains_itself, All-head, All-push, All-tail, All-weaker, All-contains}
use Rattle.pb_inst.specs.Literal.{Literal}
use Rattle.pb_inst.specs.Problem.{Problem}
use Rattle.pb_inst.specs.Incumbent.{Incumbent, Solution}
use Rattle.pb_inst.specs.Meaning.{literal_value}
use Rattle.pb_questions.specs.declared.explaining.Core.{Core}
use Rattle.pb_questions.specs.declared.seeking.Sought.{Sought}
use Rattle.pb_questions.specs.declared.seeking.Sought.TheVariants.{Found, Nothing, Cut}
use Rattle.pb_questions.specs.Under.{named_literals, IsFeasibleUnder, IsInfeasibleUnder}
use Rattle.pb_questions.specs.Sought.{IsAnswerTo, IsWithin}
use Rattle.pb_questions.specs.Explained.{IsCore, IsNeededAt}
use Rattle.pb_questions.proofs.UnderLemmas.{named_among}

-- what is left of the literals once `tried` of n were tried
pub record IsShrunk (p : Problem) (old now : List Literal) (n tried : ℕ) (is_minimal : Bool) : Type 0 where
  pub among : All (λ l. Contains old l) now
  pub variables : All (λ l. l.var ≤ p.vars) now
  pub infeasible : IsInfeasibleUnder p now
  pub count : n ≤ tried + length now
  pub minimal : is_minimal ≡ true → (place : ℕ) → n ≤ tried + place → place < length now → IsNeededAt p now place

pub none_tried : (p : Problem) (lits : List Literal) → All (λ l. l.var ≤ p.vars) lits → IsInfeasibleUnder p lits → IsShrunk p lits lits (length lits) 0 true
none_tried p lits within infeasible = record {
  among = All-contains_itself lits;
  variables = within;
  infeasible = infeasible;
  count = omega arith;
  minimal = λ known place from below. absurd (omega arith);
}

-- the first literal and the others
pub head_and_rest : (xs : List Literal) (x : Literal) → 0 < length xs → x ≡ slice_index_or xs 0 x → xs ≡ x ∷ remove xs 0
head_and_rest [] x some is = absurd (omega arith)
head_and_rest (y ∷ ys) x some is = ap (λ (z : Literal). z ∷ ys) (sym is)

needed_in_rest : (p : Problem) (x : Literal) (xs : List Literal) (place : ℕ) → IsNeededAt p (x ∷ xs) (suc place) → IsNeededAt p xs place
needed_in_rest p x xs place h = record {
  without = h.without;
  for_all_variables = h.for_all_variables;
  feasible = h.feasible;
  others_true = λ k d below other. h.others_true (suc k) d (omega arith) (λ same. other (omega arith));
}

-- the literal at a place of a list to which one was added
added_or_there : (place n : ℕ) → place < n + 1 → (place < n) ⊎ (place ≡ n)
added_or_there place n h = elim (leb_tells n place) [ inl above ↦ inr (omega (arith, above.1)) | inr below ↦ inl below.1 ]

-- what is needed stays so where the first literal becomes the last
needed_after_move : (p : Problem) (x : Literal) (xs : List Literal) (place : ℕ) → place < length xs → IsNeededAt p (x ∷ xs) (suc place) → IsNeededAt p (xs ++ x ∷ []) place
needed_after_move p x xs place inside h = record {
  without = h.without;
  for_all_variables = h.for_all_variables;
  feasible = h.feasible;
  others_true = λ k d below other.
      let m : length (xs ++ x ∷ []) ≡ length xs + 1 = length-append xs (x ∷ []) in
      elim (added_or_there k (length xs) (omega arith)) [
        | inl there ↦ subst (λ (l : Literal). literal_value h.without l ≡ 1) (sym (get_or-append xs (x ∷ []) d k there)) (h.others_true (suc k) d (omega arith) (λ same. other (omega arith)))
        | inr last ↦ subst (λ (i : ℕ). literal_value h.without (slice_index_or (xs ++ x ∷ []) i d) ≡ 1) (sym last)
            (subst (λ (l : Literal). literal_value h.without l ≡ 1) (sym (get_or-append_seam xs x [] d)) (h.others_true 0 d (omega arith) (λ same. absurd (omega arith))))
      ];
}

-- the last literal is needed where something is feasible under the others
needed_at_last : (p : Problem) (x : Literal) (xs : List Literal) (a : List Bool) → All (λ l. l.var ≤ p.vars) xs → IsFeasibleUnder p xs a → IsNeededAt p (xs ++ x ∷ []) (length xs)
needed_at_last p x xs a within h = record {
  without = a;
  for_all_variables = h.for_all_variables;
  feasible = h.feasible;
  others_true = λ k d below other.
      let m : length (xs ++ x ∷ []) ≡ length xs + 1 = length-append xs (x ∷ []) in
      let there : k < length xs = before_last k (length xs) other (omega arith) in
      subst (λ (l : Literal). literal_value a l ≡ 1) (sym (get_or-append xs (x ∷ []) d k there)) (h.meets k d there (within k d there));
}
  where
    before_last : (k n : ℕ) → k ≢ n → k < n + 1 → k < n
    before_last k n other below = omega arith

-- nothing is feasible under the literals in another order
moved_infeasible : (p : Problem) (x : Literal) (xs : List Literal) → IsInfeasibleUnder p (x ∷ xs) → IsInfeasibleUnder p (xs ++ x ∷ [])
moved_infeasible p x xs infeasible a h = infeasible a (record {
  for_all_variables = h.for_all_variables;
  feasible = h.feasible;
  meets = λ k d below. at k d below;
})
  where
    m : length (xs ++ x ∷ []) ≡ length xs + 1
    m = length-append xs (x ∷ [])

    Holds : Literal → Type 0
    Holds l = l.var ≤ p.vars → literal_value a l ≡ 1

    at : (k : ℕ) (d : Literal) → k < length (x ∷ xs) → Holds (slice_index_or (x ∷ xs) k d)
    at zero d below = subst Holds (get_or-append_seam xs x [] d) (h.meets (length xs) d (omega (arith, m)))
    at (suc k) d below = subst Holds (get_or-append xs (x ∷ []) d k (omega arith)) (h.meets k d (omega (arith, m)))

-- a literal without which nothing is feasible is left out
left_out : (p : Problem) (old : List Literal) (x : Literal) (xs : List Literal) (n tried : ℕ) (is_minimal : Bool) → IsShrunk p old (x ∷ xs) n tried is_minimal → IsInfeasibleUnder p xs → IsShrunk p old xs n (tried + 1) is_minimal
left_out p old x xs n tried is_minimal h infeasible = record {
  among = All-tail (λ l. Contains old l) x xs h.among;
  variables = All-tail (λ l. l.var ≤ p.vars) x xs h.variables;
  infeasible = infeasible;
  count = let m : n ≤ tried + suc (length xs) = h.count in omega arith;
  minimal = λ known place from below. needed_in_rest p x xs place (h.minimal known (suc place) (omega arith) (omega arith));
}

-- another one becomes the last
kept_last : (p : Problem) (old : List Literal) (x : Literal) (xs : List Literal) (n tried : ℕ) (is_minimal known_now : Bool) → IsShrunk p old (x ∷ xs) n tried is_minimal
    → (known_now ≡ true → is_minimal ≡ true) → (known_now ≡ true → (a : List Bool) × IsFeasibleUnder p xs a) → IsShrunk p old (xs ++ x ∷ []) n (tried + 1) known_now
kept_last p old x xs n tried is_minimal known_now h before needed = record {
  among = All-push (λ l. Contains old l) xs x (All-tail (λ l. Contains old l) x xs h.among) (All-head (λ l. Contains old l) x xs h.among);
  variables = All-push (λ l. l.var ≤ p.vars) xs x variables (All-head (λ l. l.var ≤ p.vars) x xs h.variables);
  infeasible = moved_infeasible p x xs h.infeasible;
  count = let k : n ≤ tried + suc (length xs) = h.count in omega (arith, m);
  minimal = λ known place from below.
      elim (added_or_there place (length xs) (omega (arith, m))) [
        | inl inside ↦ needed_after_move p x xs place inside (h.minimal (before known) (suc place) (omega arith) (omega arith))
        | inr last ↦ subst (λ (i : ℕ). IsNeededAt p (xs ++ x ∷ []) i) (sym last) (needed_at_last p x xs (needed known).0 variables (needed known).1)
      ];
}
  where
    m : length (xs ++ x ∷ []) ≡ length xs + 1
    m = length-append xs (x ∷ [])

    variables : All (λ l. l.var ≤ p.vars) xs
    variables = All-tail (λ l. l.var ≤ p.vars) x xs h.variables

-- what a search shows of literals where it finds an assignment, and where there is none
pub some_feasible : (p : Problem) (lits : List Literal) (best : Incumbent) → IsAnswerTo p lits None (Found best) → (a : List Bool) × IsFeasibleUnder p lits a
some_feasible p lits best h = from best.held h.1
  where
    from : (held : Option Solution) → IsSomeAnd held (λ s. IsWithin p lits None s.assignment) → (a : List Bool) × IsFeasibleUnder p lits a
    from None is = absurd is
    from (Some s) is = (s.assignment, is.feasible)

pub none_feasible : (p : Problem) (lits : List Literal) → IsAnswerTo p lits None Nothing → IsInfeasibleUnder p lits
none_feasible p lits h a is = h a (record { feasible = is; within = tt })

-- one literal was tried
pub one_left_out : (p : Problem) (old now rest : List Literal) (x : Literal) (n tried : ℕ) (is_minimal : Bool) → now ≡ x ∷ rest → IsShrunk p old now n tried is_minimal → IsAnswerTo p rest None Nothing → IsShrunk p old rest n (tried + 1) is_minimal
one_left_out p old now rest x n tried is_minimal is h answer = left_out p old x rest n tried is_minimal (subst (λ (l : List Literal). IsShrunk p old l n tried is_minimal) is h) (none_feasible p rest answer)

pub one_needed : (p : Problem) (old now rest : List Literal) (x : Literal) (n tried : ℕ) (is_minimal : Bool) (best : Incumbent) → now ≡ x ∷ rest → IsShrunk p old now n tried is_minimal → IsAnswerTo p rest None (Found best) → IsShrunk p old (rest ++ x ∷ []) n (tried + 1) is_minimal
one_needed p old now rest x n tried is_minimal best is h answer = kept_last p old x rest n tried is_minimal is_minimal (subst (λ (l : List Literal). IsShrunk p old l n tried is_minimal) is h) (λ known. known) (λ known. some_feasible p rest best answer)

pub one_open : (p : Problem) (old now rest : List Literal) (x : Literal) (n tried : ℕ) (is_minimal : Bool) → now ≡ x ∷ rest → IsShrunk p old now n tried is_minimal → IsShrunk p old (rest ++ x ∷ []) n (tried + 1) false
one_open p old now rest x n tried is_minimal is h = kept_last p old x rest n tried is_minimal false (subst (λ (l : List Literal). IsShrunk p old l n tried is_minimal) is h) (λ known. cc) (λ known. cc)

-- all literals were tried
pub all_tried : (p : Problem) (old : List Literal) (core : Core) (n tried : ℕ) → n ≤ tried → IsShrunk p old core.literals.items n tried core.is_minimal → IsCore p old core
all_tried p old core n tried all h = record {
  among = h.among;
  variables = h.variables;
  infeasible = h.infeasible;
  minimal = λ known place below. h.minimal known place (omega arith) below;
}

-- a core of the named literals is one of all
pub core_of_all : (p : Problem) (lits : List Literal) (core : Core) → IsCore p (named_literals p.vars lits) core → IsCore p lits core
core_of_all p lits core h = record {
  among = All-weaker (λ l. Contains (named_literals p.vars lits) l) (λ l. Contains lits l) (λ l is. All-contains (λ m. Contains lits m) (named_literals p.vars lits) l (named_among p.vars lits) is) core.literals.items h.among;
  variables = h.variables;
  infeasible = h.infeasible;
  minimal = h.minimal;
}

-- without a budget there is none at the next literal, and what is known so far stays known
pub still_unbounded : (first old new : Option ℕ) (before after : Bool) (sought : Sought) → IfNone first ((old ≡ None) × (before ≡ true)) → IfNone old ((new ≡ None) × (sought ≢ Cut)) → (sought ≢ Cut → before ≡ true → after ≡ true) → IfNone first ((new ≡ None) × (after ≡ true))
still_unbounded (Some n) old new before after sought h k known = tt
still_unbounded None (Some n) new before after sought h k known = let none : Some n ≡ None = h.0 in cc
still_unbounded None None new before after sought h k known = (k.0, known k.1 h.1)
