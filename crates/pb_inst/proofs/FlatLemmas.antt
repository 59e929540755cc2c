-- Terms kept as their coefficients and their literals: what a step on both arrays is to the list of terms.
use Rattle.std.proofs.Common.{◌≡◌, ℕ, zero, suc, ◌-◌, ◌<◌, List, [], ◌∷◌, ◌++◌, length, get_or, map, replicate, take, drop, refl, sym, ◌∙◌, ap, arith, ℤ, pos, Some, slice_get, slice_range}
use Rattle.pb_inst.specs.declared.constraints.Term.{Term}
use Rattle.pb_inst.specs.Literal.{Literal}
use Rattle.pb_inst.specs.Constraints.{unit_term}
use Rattle.pb_inst.specs.FlatTerms.{terms_of}

abbrev pub term : ℤ → Literal → Term
term coef lit = record { coef = coef; lit = lit }

length-terms_of : (coefs : List ℤ) (lits : List Literal) → length coefs ≡ length lits → length (terms_of coefs lits) ≡ length coefs
unfolding terms_of
length-terms_of [] lits same = refl
length-terms_of (c ∷ coefs) [] same = absurd (omega arith)
length-terms_of (c ∷ coefs) (l ∷ lits) same = let rest = length-terms_of coefs lits (omega arith) in omega arith

-- the number of terms, from the list that contracts see
pub count_is : (coefs : List ℤ) (lits : List Literal) (terms : List Term) → terms_of coefs lits ≡ terms → length coefs ≡ length lits → length terms ≡ length coefs
count_is coefs lits terms view same = ap (λ (ts : List Term). length ts) (sym view) ∙ length-terms_of coefs lits same

-- the term at a place
pub read_term : (coefs : List ℤ) (lits : List Literal) (i : ℕ) (c : ℤ) (l : Literal) → i < length coefs → i < length lits → c ≡ get_or coefs i c → l ≡ get_or lits i l → slice_get (terms_of coefs lits) i ≡ Some (term c l)
unfolding terms_of
read_term [] lits i c l few more at_coef at_lit = absurd (omega arith)
read_term (d ∷ coefs) [] i c l few more at_coef at_lit = absurd (omega arith)
read_term (d ∷ coefs) (m ∷ lits) zero c l few more at_coef at_lit = cc
read_term (d ∷ coefs) (m ∷ lits) (suc i) c l few more at_coef at_lit = read_term coefs lits i c l (omega arith) (omega arith) at_coef at_lit

-- more at the end of both arrays
terms_of-append : (coefs more_coefs : List ℤ) (lits more_lits : List Literal) → length coefs ≡ length lits → terms_of (coefs ++ more_coefs) (lits ++ more_lits) ≡ terms_of coefs lits ++ terms_of more_coefs more_lits
unfolding terms_of
terms_of-append [] more_coefs [] more_lits same = refl
terms_of-append [] more_coefs (l ∷ lits) more_lits same = absurd (omega arith)
terms_of-append (c ∷ coefs) more_coefs [] more_lits same = absurd (omega arith)
terms_of-append (c ∷ coefs) more_coefs (l ∷ lits) more_lits same = ap (λ (ts : List Term). term c l ∷ ts) (terms_of-append coefs more_coefs lits more_lits (omega arith))

-- the coefficients and the literals of terms make the terms
terms_of-fields : (terms : List Term) → terms_of (map (λ (t : Term). t.coef) terms) (map (λ (t : Term). t.lit) terms) ≡ terms
unfolding terms_of
terms_of-fields [] = refl
terms_of-fields (t ∷ terms) = ap (λ (ts : List Term). t ∷ ts) (terms_of-fields terms)

terms_of-units : (lits : List Literal) → terms_of (replicate (length lits) (pos 1)) lits ≡ map unit_term lits
unfolding terms_of
terms_of-units [] = refl
terms_of-units (l ∷ lits) = ap (λ (ts : List Term). unit_term l ∷ ts) (terms_of-units lits)

terms_of-none : (coefs : List ℤ) → terms_of coefs [] ≡ []
unfolding terms_of
terms_of-none [] = refl
terms_of-none (c ∷ coefs) = refl

terms_of-take : (n : ℕ) (coefs : List ℤ) (lits : List Literal) → terms_of (take n coefs) (take n lits) ≡ take n (terms_of coefs lits)
unfolding terms_of
terms_of-take zero coefs lits = refl
terms_of-take (suc n) [] lits = refl
terms_of-take (suc n) (c ∷ coefs) [] = refl
terms_of-take (suc n) (c ∷ coefs) (l ∷ lits) = ap (λ (ts : List Term). term c l ∷ ts) (terms_of-take n coefs lits)

terms_of-drop : (n : ℕ) (coefs : List ℤ) (lits : List Literal) → terms_of (drop n coefs) (drop n lits) ≡ drop n (terms_of coefs lits)
unfolding terms_of
terms_of-drop zero coefs lits = refl
terms_of-drop (suc n) [] lits = refl
terms_of-drop (suc n) (c ∷ coefs) [] = terms_of-none (drop n coefs)
terms_of-drop (suc n) (c ∷ coefs) (l ∷ lits) = terms_of-drop n coefs lits

-- the terms of a part of both arrays
pub part_is : (coefs : List ℤ) (lits : List Literal) (terms : List Term) (a b : ℕ) (some_coefs : List ℤ) (some_lits : List Literal) → terms_of coefs lits ≡ terms → some_coefs ≡ slice_range coefs a b → some_lits ≡ slice_range lits a b → terms_of some_coefs some_lits ≡ slice_range terms a b
part_is coefs lits terms a b some_coefs some_lits view coefs_are lits_are =
    let taken = terms_of-take (b - a) (drop a coefs) (drop a lits) in
    let dropped = ap (λ (ts : List Term). take (b - a) ts) (terms_of-drop a coefs lits) in
    let seen = ap (λ (ts : List Term). slice_range ts a b) view in
    let both : terms_of some_coefs some_lits ≡ terms_of (slice_range coefs a b) (slice_range lits a b) = cc in
    both ∙ (taken ∙ (dropped ∙ seen))

-- both lists with terms, or with literals once each, added at the end
pub added_terms : (coefs new_coefs : List ℤ) (lits new_lits : List Literal) (terms more : List Term) → terms_of coefs lits ≡ terms → length coefs ≡ length lits → new_coefs ≡ coefs ++ map (λ (t : Term). t.coef) more → new_lits ≡ lits ++ map (λ (t : Term). t.lit) more → terms_of new_coefs new_lits ≡ terms ++ more
added_terms coefs new_coefs lits new_lits terms more view same coefs_are lits_are =
    let both : terms_of new_coefs new_lits ≡ terms_of (coefs ++ map (λ (t : Term). t.coef) more) (lits ++ map (λ (t : Term). t.lit) more) = cc in
    let added = terms_of-append coefs (map (λ (t : Term). t.coef) more) lits (map (λ (t : Term). t.lit) more) same in
    let fields = terms_of-fields more in
    let seen : terms_of coefs lits ++ terms_of (map (λ (t : Term). t.coef) more) (map (λ (t : Term). t.lit) more) ≡ terms ++ more = cc in
    both ∙ (added ∙ seen)

pub added_units : (coefs new_coefs : List ℤ) (lits new_lits : List Literal) (terms : List Term) (more : List Literal) → terms_of coefs lits ≡ terms → length coefs ≡ length lits → new_coefs ≡ coefs ++ replicate (length more) (pos 1) → new_lits ≡ lits ++ more → terms_of new_coefs new_lits ≡ terms ++ map unit_term more
added_units coefs new_coefs lits new_lits terms more view same coefs_are lits_are =
    let both : terms_of new_coefs new_lits ≡ terms_of (coefs ++ replicate (length more) (pos 1)) (lits ++ more) = cc in
    let added = terms_of-append coefs (replicate (length more) (pos 1)) lits more same in
    let units = terms_of-units more in
    let seen : terms_of coefs lits ++ terms_of (replicate (length more) (pos 1)) more ≡ terms ++ map unit_term more = cc in
    both ∙ (added ∙ seen)

-- no coefficients and no literals
pub no_terms : (coefs : List ℤ) (lits : List Literal) → coefs ≡ [] → terms_of coefs lits ≡ []
unfolding terms_of
no_terms coefs lits none = ap (λ (cs : List ℤ). terms_of cs lits) none
