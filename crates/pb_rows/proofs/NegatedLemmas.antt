-- How the clause of a cube is made.
use Rattle.std.proofs.Common.{◌≡◌, ◌≢◌, ℕ, zero, suc, ◌+◌, ◌-◌, ◌<◌, ◌≤◌, List, [], ◌∷◌, ◌++◌, length, get_or, map, take, refl, sym, ◌∙◌, ap, subst, arith, Bool, true, false, not, All, inl, inr}
use Rattle.std.specs.Prelude.{AllPairs, Any, Contains, IsPermutation}
use Rattle.std.specs.List.Sorted.{IsNonDecreasingBy}
use Rattle.std.proofs.lemmas.Bool.{cases_lt}
use Rattle.std.proofs.lemmas.List.{take_more, length-map, get_or-map, get_or_default, take_all, map_push}
use Rattle.std.proofs.lemmas.List.Elements.{All-nil, All-cons, All-push, All-weaker, All-map, All-contains, All-contains_itself, Contains-push, Contains-append_left, Contains-get_or}
use Rattle.std.proofs.lemmas.List.Quantifiers.{all_pairs_push}
use Rattle.std.proofs.lemmas.List.Sorted.{All-permutation, IsPermutation-sym}
use Rattle.pb_inst.specs.Literal.{Literal}
use Rattle.pb_normal.specs.declared.terms.PositiveTerm.{PositiveTerm}
use Rattle.pb_normal.specs.NormalForm.{PositiveRow}
use Rattle.pb_normal.specs.Literals.{negation}
use Rattle.pb_rows.specs.Clauses.{IsContradictory, IsClauseOf, AreClausesOf, no_cube, no_clause, one_clause, unit_term, clause_row}
use Rattle.pb_rows.specs.Constraints.{AreRowsOver, HaveRisingVariables}

abbrev blank : Literal
blank = record { var = 1; positive = true }

-- the clause of the first i literals of a cube that stands by variable
pub record IsClauseSoFar (cube : List Literal) (i : ℕ) (clause : List Literal) : Type 0 where
  pub from_cube : All (λ m. Contains cube (negation m)) clause
  pub whole : All (λ l. Contains clause (negation l)) (take i cube)
  pub rising : AllPairs (λ l m. l.var < m.var) clause
  pub low : (k : ℕ) (d : Literal) → i ≤ k → k < length cube → All (λ m. m.var ≤ (get_or cube k d).var) clause

pub double_negation : (l : Literal) → negation (negation l) ≡ l
double_negation l = by_sign l.positive refl
  where
    by_sign : (b : Bool) → l.positive ≡ b → negation (negation l) ≡ l
    by_sign true is = (let whole : (let x : Literal = record { var = l.var; positive = not (not l.positive) } in x) ≡ record { var = l.var; positive = l.positive } = (let back : not (not l.positive) ≡ l.positive = rw is refl in ap (λ (b : Bool). let x : Literal = record { var = l.var; positive = b } in x) back) in whole)
    by_sign false is = (let whole : (let x : Literal = record { var = l.var; positive = not (not l.positive) } in x) ≡ record { var = l.var; positive = l.positive } = (let back : not (not l.positive) ≡ l.positive = rw is refl in ap (λ (b : Bool). let x : Literal = record { var = l.var; positive = b } in x) back) in whole)

-- no literal of the clause is of a later variable than its last one
below_last : (clause : List Literal) → AllPairs (λ (l m : Literal). l.var < m.var) clause → All (λ (m : Literal). m.var ≤ (get_or clause (length clause - 1) blank).var) clause
below_last clause rising k d h =
    let last = get_or_default clause (length clause - 1) d blank (omega arith) in
    let same = ap (λ (m : Literal). m.var) last in
    elim (cases_lt k (length clause - 1)) [
      | inl before ↦ (let less = rising k (length clause - 1) d before (omega arith) in omega arith)
      | inr here ↦ (let at : k ≡ length clause - 1 = omega arith in let place = ap (λ (j : ℕ). (get_or clause j d).var) at in omega arith)
    ]

-- a literal of a new variable joins the clause
pub so_far_push : (cube clause new : List Literal) (i : ℕ) (l m : Literal) → IsNonDecreasingBy (λ (x : Literal). x.var) cube → IsClauseSoFar cube i clause → i < length cube → l ≡ get_or cube i l → m ≡ negation l → new ≡ clause ++ m ∷ [] → (0 < length clause → (get_or clause (length clause - 1) blank).var ≢ l.var) → IsClauseSoFar cube (i + 1) new
so_far_push cube clause new i l m sorted are h read is new_is other =
    let before : All (λ (x : Literal). x.var < l.var) clause = λ k d exists.
    (let low = are.low i l (omega arith) h k d exists in
    let here = ap (λ (x : Literal). x.var) read in
    let most = below_last clause are.rising k d exists in
    let top = are.low i l (omega arith) h (length clause - 1) blank (omega arith) in
    let apart = other (omega arith) in
    strictly (get_or clause k d).var (get_or clause (length clause - 1) blank).var l.var most (omega arith) apart) in
    let flipped : negation m ≡ l = ap negation is ∙ double_negation l in
    let there : Contains cube l = subst (λ (x : Literal). Contains cube x) (sym read) (Contains-get_or cube i l h) in
    rw new_is (record {
      from_cube = All-push (λ (x : Literal). Contains cube (negation x)) clause m are.from_cube (subst (λ (x : Literal). Contains cube x) (sym flipped) there);
      whole = subst (λ (ls : List Literal). All (λ (x : Literal). Contains (clause ++ m ∷ []) (negation x)) ls) (sym (take_more cube i l h))
          (All-push (λ (x : Literal). Contains (clause ++ m ∷ []) (negation x)) (take i cube) (get_or cube i l)
          (All-weaker (λ (x : Literal). Contains clause (negation x)) (λ (x : Literal). Contains (clause ++ m ∷ []) (negation x)) (λ x c. Contains-append_left clause (m ∷ []) (negation x) c) (take i cube) are.whole)
          (subst (λ (x : Literal). Contains (clause ++ m ∷ []) x) (is ∙ ap negation read) (Contains-push clause m)));
      rising = all_pairs_push (λ (x y : Literal). x.var < y.var) clause m are.rising (λ k d exists. (let less = before k d exists in let var = ap (λ (x : Literal). x.var) is in omega arith));
      low = λ k d from upto. All-push (λ (x : Literal). x.var ≤ (get_or cube k d).var) clause m (are.low k d (omega arith) upto)
          (let order = sorted i k d (omega arith) upto in let here = ap (λ (x : Literal). x.var) (read ∙ get_or_default cube i l d h) in let var = ap (λ (x : Literal). x.var) is in omega arith);
    })
  where
    strictly : (a b c : ℕ) → a ≤ b → b ≤ c → b ≢ c → a < c
    strictly a b c low high apart = elim (cases_lt a c) [ inl less ↦ less | inr late ↦ absurd (apart (omega arith)) ]

-- the literal stands in the clause already
pub so_far_stays : (cube clause : List Literal) (i : ℕ) (l : Literal) (sign : Bool) → IsClauseSoFar cube i clause → i < length cube → l ≡ get_or cube i l → 0 < length clause → get_or clause (length clause - 1) blank ≡ record { var = l.var; positive = sign } → sign ≢ l.positive → IsClauseSoFar cube (i + 1) clause
so_far_stays cube clause i l sign are h read some last other =
    let flipped : not l.positive ≡ sign = not_same sign l.positive other in
    let is : negation l ≡ get_or clause (length clause - 1) blank = ap (λ (b : Bool). let x : Literal = record { var = l.var; positive = b } in x) flipped ∙ sym last in
    let there : Contains clause (negation l) = subst (λ (x : Literal). Contains clause x) (sym is) (Contains-get_or clause (length clause - 1) blank (omega arith)) in
    record {
      from_cube = are.from_cube;
      whole = subst (λ (ls : List Literal). All (λ (x : Literal). Contains clause (negation x)) ls) (sym (take_more cube i l h))
          (All-push (λ (x : Literal). Contains clause (negation x)) (take i cube) (get_or cube i l) are.whole (subst (λ (x : Literal). Contains clause (negation x)) read there));
      rising = are.rising;
      low = λ k d from upto. are.low k d (omega arith) upto;
    }
  where
    not_same : (a b : Bool) → a ≢ b → not b ≡ a
    not_same true true apart = absurd (apart refl)
    not_same true false apart = refl
    not_same false true apart = refl
    not_same false false apart = absurd (apart refl)

-- the literal's negation stands in the cube already
pub contradiction_found : (cube clause : List Literal) (i : ℕ) (l : Literal) (sign : Bool) → IsClauseSoFar cube i clause → i < length cube → l ≡ get_or cube i l → 0 < length clause → get_or clause (length clause - 1) blank ≡ record { var = l.var; positive = sign } → sign ≡ l.positive → IsContradictory cube
contradiction_found cube clause i l sign are h read some last same =
    let here : get_or clause (length clause - 1) blank ≡ l = last ∙ ap (λ (b : Bool). let x : Literal = record { var = l.var; positive = b } in x) same in
    let other : Contains cube (negation l) = subst (λ (x : Literal). Contains cube (negation x)) here (are.from_cube (length clause - 1) blank (omega arith)) in
    (i, l, h, sym read, other)

-- the clause of a whole cube
pub clause_of_all : (cube clause : List Literal) (i : ℕ) → IsClauseSoFar cube i clause → length cube ≤ i → IsClauseOf cube (clause_row clause)
clause_of_all cube clause i are h = record {
  degree = refl;
  units = All-map (λ (t : PositiveTerm). t.coef ≡ 1) unit_term clause (λ k d low. refl);
  from_cube = All-map (λ (t : PositiveTerm). Contains cube (negation t.lit)) unit_term clause are.from_cube;
  whole = λ k d low. (let all = subst (λ (ls : List Literal). All (λ (x : Literal). Contains clause (negation x)) ls) (take_all i cube h) are.whole in in_row (negation (get_or cube k d)) (all k d low));
  rising = λ j k d before less.
      (let count = length-map clause unit_term in
      let low = ap (λ (t : PositiveTerm). t.lit.var) (get_or-map unit_term clause j blank d (omega arith)) in
      let high = ap (λ (t : PositiveTerm). t.lit.var) (get_or-map unit_term clause k blank d (omega arith)) in
      let rises = are.rising j k blank before (omega arith) in
      omega arith);
}
  where
    in_row : (m : Literal) → Contains clause m → Any (λ (t : PositiveTerm). t.lit ≡ m) (map unit_term clause)
    in_row m (j, exists, at) =
        let count = length-map clause unit_term in
        let mapped = get_or-map unit_term clause j m (unit_term m) exists in
        (j, unit_term m, omega arith, mapped ∙ ap unit_term at, refl)

-- a copy that has been sorted
pub sorted_copy : (cube empty copied sorted seen : List Literal) → empty ≡ [] → copied ≡ empty ++ cube → IsPermutation copied sorted → seen ≡ sorted → IsPermutation cube seen
sorted_copy cube empty copied sorted seen none copy same see =
    let all : copied ≡ cube = copy ∙ ap (λ (ls : List Literal). ls ++ cube) none in
    subst (λ (ls : List Literal). IsPermutation cube ls) (sym see) (subst (λ (ls : List Literal). IsPermutation ls sorted) all same)

-- the same cube in another order
pub clause_of_sorted : (cube sorted : List Literal) (row : PositiveRow) → IsPermutation cube sorted → IsClauseOf sorted row → IsClauseOf cube row
clause_of_sorted cube sorted row same is =
    let back = IsPermutation-sym cube sorted same in
    let inside : All (λ (x : Literal). Contains cube x) sorted = All-permutation (λ (x : Literal). Contains cube x) cube sorted same (All-contains_itself cube) in
    record {
      degree = is.degree;
      units = is.units;
      from_cube = λ k d h. All-contains (λ (x : Literal). Contains cube x) sorted (negation (get_or row.terms k d).lit) inside (is.from_cube k d h);
      whole = All-permutation (λ (l : Literal). Any (λ (t : PositiveTerm). t.lit ≡ negation l) row.terms) sorted cube back is.whole;
      rising = is.rising;
    }

pub contradictory_sorted : (cube sorted : List Literal) → IsPermutation cube sorted → IsContradictory sorted → IsContradictory cube
contradictory_sorted cube sorted same (k, l, low, at, there) =
    let inside : All (λ (x : Literal). Contains cube x) sorted = All-permutation (λ (x : Literal). Contains cube x) cube sorted same (All-contains_itself cube) in
    let here : Contains cube l = subst (λ (x : Literal). Contains cube x) at (inside k l low) in
    let other : Contains cube (negation l) = All-contains (λ (x : Literal). Contains cube x) sorted (negation l) inside there in
    (here.0, l, here.1, here.2, other)

-- the clauses of one cube more
pub clauses_none : (clauses : List (List Literal)) → clauses ≡ [] → AreClausesOf [] (map clause_row clauses)
clauses_none clauses empty = rw empty no_cube

skipped : (cubes : List (List Literal)) (rows : List PositiveRow) (last : List Literal) → IsContradictory last → AreClausesOf cubes rows → AreClausesOf (cubes ++ last ∷ []) rows
skipped _ _ last both no_cube = no_clause last [] [] both no_cube
skipped _ _ last both (no_clause cube cubes rows other are) = no_clause cube (cubes ++ last ∷ []) rows other (skipped cubes rows last both are)
skipped _ _ last both (one_clause cube row cubes rows clause are) = one_clause cube row (cubes ++ last ∷ []) rows clause (skipped cubes rows last both are)

pushed : (cubes : List (List Literal)) (rows : List PositiveRow) (last : List Literal) (new : PositiveRow) → IsClauseOf last new → AreClausesOf cubes rows → AreClausesOf (cubes ++ last ∷ []) (rows ++ new ∷ [])
pushed _ _ last new is no_cube = one_clause last new [] [] is no_cube
pushed _ _ last new is (no_clause cube cubes rows both are) = no_clause cube (cubes ++ last ∷ []) (rows ++ new ∷ []) both (pushed cubes rows last new is are)
pushed _ _ last new is (one_clause cube row cubes rows clause are) = one_clause cube row (cubes ++ last ∷ []) (rows ++ new ∷ []) clause (pushed cubes rows last new is are)

pub clauses_skip : (cubes : List (List Literal)) (clauses : List PositiveRow) (i : ℕ) (cube : List Literal) → AreClausesOf (take i cubes) clauses → i < length cubes → cube ≡ get_or cubes i cube → IsContradictory cube → AreClausesOf (take (i + 1) cubes) clauses
clauses_skip cubes clauses i cube are h read contradictory = rw (take_more cubes i cube h, sym read) (skipped (take i cubes) clauses cube contradictory are)

pub clauses_push : (cubes : List (List Literal)) (clauses new : List (List Literal)) (i : ℕ) (cube clause : List Literal) → AreClausesOf (take i cubes) (map clause_row clauses) → i < length cubes → cube ≡ get_or cubes i cube → IsClauseOf cube (clause_row clause) → new ≡ clauses ++ clause ∷ [] → AreClausesOf (take (i + 1) cubes) (map clause_row new)
clauses_push cubes clauses new i cube clause are h read is new_is = rw (new_is, map_push clause_row clauses clause, take_more cubes i cube h, sym read) (pushed (take i cubes) (map clause_row clauses) cube (clause_row clause) is are)

-- each of the clauses is that of some cube
abbrev IsClauseOfSome : List (List Literal) → PositiveRow → Type 0
IsClauseOfSome cubes row = Any (λ (cube : List Literal). IsClauseOf cube row) cubes

later : (cube : List Literal) (cubes : List (List Literal)) (row : PositiveRow) → IsClauseOfSome cubes row → IsClauseOfSome (cube ∷ cubes) row
later cube cubes row (k, c, low, at, is) = (suc k, c, omega arith, at, is)

clauses_only : (cubes : List (List Literal)) (rows : List PositiveRow) → AreClausesOf cubes rows → All (IsClauseOfSome cubes) rows
clauses_only _ _ no_cube = All-nil (IsClauseOfSome [])
clauses_only _ _ (no_clause cube cubes rows both are) = All-weaker (IsClauseOfSome cubes) (IsClauseOfSome (cube ∷ cubes)) (later cube cubes) rows (clauses_only cubes rows are)
clauses_only _ _ (one_clause cube row cubes rows clause are) =
    let rest = All-weaker (IsClauseOfSome cubes) (IsClauseOfSome (cube ∷ cubes)) (later cube cubes) rows (clauses_only cubes rows are) in
    All-cons (IsClauseOfSome (cube ∷ cubes)) row rows (zero, cube, omega arith, refl, clause) rest

-- the clauses of cubes over the variables up to n are over them too
pub clauses_over : (vars : ℕ) (cubes clauses : List (List Literal)) → All (λ (cube : List Literal). All (λ (l : Literal). l.var ≤ vars) cube) cubes → AreClausesOf cubes (map clause_row clauses) → ((k : ℕ) → k < length clauses → All (λ (l : Literal). 1 ≤ l.var) (get_or clauses k [])) → AreRowsOver vars (map clause_row clauses)
clauses_over vars cubes clauses within are from_one k d h =
    let rows = map clause_row clauses in
    let count = length-map clauses clause_row in
    let there = clauses_only cubes rows are k d h in
    let cube : All (λ (l : Literal). l.var ≤ vars) there.1 = subst (λ (c : List Literal). All (λ (l : Literal). l.var ≤ vars) c) there.3 (within there.0 there.1 there.2) in
    let row : get_or rows k d ≡ clause_row (get_or clauses k []) = get_or-map clause_row clauses k [] d (omega arith) in
    let low : All (λ (t : PositiveTerm). 1 ≤ t.lit.var) (get_or rows k d).terms = subst (λ (r : PositiveRow). All (λ (t : PositiveTerm). 1 ≤ t.lit.var) r.terms) (sym row) (All-map (λ (t : PositiveTerm). 1 ≤ t.lit.var) unit_term (get_or clauses k []) (from_one k (omega arith))) in
    λ i e exists. (low i e exists, All-contains (λ (l : Literal). l.var ≤ vars) there.1 (negation (get_or (get_or rows k d).terms i e).lit) cube (there.4.from_cube i e exists))

-- the literals of a clause stand by rising variable
pub clauses_rise : (cubes : List (List Literal)) (rows : List PositiveRow) → AreClausesOf cubes rows → HaveRisingVariables rows
clauses_rise cubes rows are k d h = (clauses_only cubes rows are k d h).4.rising

-- a cube gives one clause at most
pub no_more_clauses : (cubes : List (List Literal)) (rows : List PositiveRow) → AreClausesOf cubes rows → length rows ≤ length cubes
no_more_clauses _ _ no_cube = omega arith
no_more_clauses _ _ (no_clause cube cubes rows both are) = let rest = no_more_clauses cubes rows are in omega arith
no_more_clauses _ _ (one_clause cube row cubes rows clause are) = let rest = no_more_clauses cubes rows are in omega arith
