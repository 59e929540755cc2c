-- How a trail stays justified and proper, and what its assumptions imply.
use Rattle.std.proofs.Common.{◌≡◌, ℕ, zero, suc, ◌-◌, ◌<◌, ◌≤◌, List, [], ◌∷◌, ◌++◌, length, get_or, take, map, refl, sym, ◌∙◌, ap, subst, arith, None, Bool, true, false, All, inl, inr, length-append, ◌⊎◌, ◌≢◌}
use Rattle.std.specs.Prelude.{Contains}
use Rattle.std.proofs.lemmas.Bool.{cases_lt}
use Rattle.std.proofs.lemmas.List.{take_all, take-take, take-append-le, length-take-le, get_or_append_left, get_or-append_right, get_or-take, get_or_default, get_or-map, length-map}
use Rattle.std.proofs.lemmas.List.Elements.{All-head, All-tail, All-push, All-take, Contains-append_left, Contains-push}
use Rattle.pb_inst.specs.Literal.{Literal}
use Rattle.pb_inst.specs.Cubes.{MakesTrue}
use Rattle.pb_inst.specs.Meaning.{literal_value}
use Rattle.pb_normal.specs.NormalForm.{PositiveRow, MeetsRows}
use Rattle.pb_normal.specs.Literals.{same_literal}
use Rattle.pb_trail.specs.Trail.{is_true, value_on}
use Rattle.pb_normal.proofs.LiteralLemmas.{same_literal-other}
use Rattle.pb_trail.specs.Completion.{IsForced}
use Rattle.pb_trail.specs.Propagation.{AddsForced, nothing, one_more}
use Rattle.pb_trail.specs.Soundness.{literal_at, IsJustified, IsProperTrail}
use Rattle.pb_trail.proofs.TrackedLemmas.{IsConsistent-push}

-- the part of a longer trail before a place of the shorter one, and the literal there
front_of : (trail : List Literal) (l : Literal) (k : ℕ) → k ≤ length trail → take k (trail ++ l ∷ []) ≡ take k trail
front_of trail l k h = take-append-le k trail (l ∷ []) h

pub last_of : (trail : List Literal) (l d : Literal) → get_or (trail ++ l ∷ []) (length trail) d ≡ l
last_of trail l d = get_or-append_right trail (l ∷ []) (length trail) (length trail) d refl (omega arith) ∙ ap (λ (i : ℕ). get_or (l ∷ []) i d) (let nought : length trail - length trail ≡ 0 = omega arith in nought)

-- what holds of each place of a trail holds of a longer one where it holds of the last place
abbrev Justified : List PositiveRow → List ℕ → List Literal → Literal → ℕ → Type 0
Justified rows places before l k = Contains places k ⊎ IsForced rows before l

one_longer : (rows : List PositiveRow) (trail : List Literal) (places : List ℕ) (l : Literal) → IsJustified rows trail places → Justified rows places trail l (length trail) → IsJustified rows (trail ++ l ∷ []) places
one_longer rows trail places l are last k d h =
    let long = length-append trail (l ∷ []) in
    elim (cases_lt k (length trail)) [
      | inl early ↦
          (let here : get_or (trail ++ l ∷ []) k d ≡ get_or trail k d = get_or_append_left trail (l ∷ []) d k early in
          subst (λ (t : List Literal). Justified rows places t (get_or (trail ++ l ∷ []) k d) k) (sym (front_of trail l k (omega arith)))
          (subst (λ (m : Literal). Justified rows places (take k trail) m k) (sym here) (are k d early)))
      | inr late ↦
          (let at : length trail ≡ k = omega arith in
          let front : take (length trail) (trail ++ l ∷ []) ≡ trail = front_of trail l (length trail) (omega arith) ∙ take_all (length trail) trail (omega arith) in
          subst (λ (i : ℕ). Justified rows places (take i (trail ++ l ∷ [])) (get_or (trail ++ l ∷ []) i d) i) at
          (subst (λ (t : List Literal). Justified rows places t (get_or (trail ++ l ∷ []) (length trail) d) (length trail)) (sym front)
          (subst (λ (m : Literal). Justified rows places trail m (length trail)) (sym (last_of trail l d)) last)))
    ]

more_places : (rows : List PositiveRow) (trail : List Literal) (places more : List ℕ) → IsJustified rows trail places → IsJustified rows trail (places ++ more)
more_places rows trail places more are k d h = elim (are k d h) [
  | inl there ↦ inl (Contains-append_left places more k there)
  | inr forced ↦ inr forced
]

pub justified-push : (rows : List PositiveRow) (trail : List Literal) (places : List ℕ) (l : Literal) → IsJustified rows trail places → IsJustified rows (trail ++ l ∷ []) (places ++ length trail ∷ [])
justified-push rows trail places l are =
    one_longer rows trail (places ++ length trail ∷ []) l (more_places rows trail places (length trail ∷ []) are) (inl (Contains-push places (length trail)))

pub justified-AddsForced : (rows : List PositiveRow) (trail new : List Literal) (places : List ℕ) → AddsForced rows trail new → IsJustified rows trail places → IsJustified rows new places
justified-AddsForced rows trail new places nothing are = are
justified-AddsForced rows trail new places (one_more longer l added free forced) are =
    one_longer rows longer places l (justified-AddsForced rows trail longer places added are) (inr forced)

-- the beginning of a trail is justified by the places in it, where all later ones stand after it
pub justified-take : (rows : List PositiveRow) (trail : List Literal) (places : List ℕ) (m n : ℕ) → IsJustified rows trail places → ((j d : ℕ) → j < length places → n ≤ j → m ≤ get_or places j d) → IsJustified rows (take m trail) (take n places)
justified-take rows trail places m n are later k d h =
    elim (cases_lt m (length trail)) [
      | inl within ↦ (let long = length-take-le m trail (omega arith) in by_place (omega arith) (omega arith))
      | inr past ↦ (let long = ap (λ (t : List Literal). length t) (take_all m trail (omega arith)) in by_place (omega arith) (omega arith))
    ]
  where
    kept : Contains places k → k < m → Contains (take n places) k
    kept (j, exists, at) low =
        let before : j < n = elim (cases_lt j n) [ inl less ↦ less | inr late ↦ absurd (let far = later j k exists (omega arith) in omega arith) ] in
        let count : j < length (take n places) = elim (cases_lt n (length places)) [
          | inl within ↦ (let long = length-take-le n places (omega arith) in omega arith)
          | inr past ↦ (let long = ap (λ (t : List ℕ). length t) (take_all n places (omega arith)) in omega arith)
        ] in
        (j, count, get_or-take n places j k before ∙ at)

    by_place : k < m → k < length trail → Contains (take n places) k ⊎ IsForced rows (take k (take m trail)) (get_or (take m trail) k d)
    by_place low within = elim (are k d within) [
      | inl there ↦ inl (kept there low)
      | inr forced ↦ inr (subst (λ (t : List Literal). IsForced rows t (get_or (take m trail) k d)) (sym (take-take k m trail (omega arith)))
          (subst (λ (l : Literal). IsForced rows (take k trail) l) (sym (get_or-take m trail k d low)) forced))
    ]

pub proper-push : (vars : ℕ) (trail : List Literal) (l : Literal) → IsProperTrail vars trail → value_on trail l.var ≡ None → length trail < vars → 1 ≤ l.var → l.var ≤ vars → IsProperTrail vars (trail ++ l ∷ [])
proper-push vars trail l is free short low high = record {
  variables = All-push (λ (m : Literal). (1 ≤ m.var) × (m.var ≤ vars)) trail l is.variables (low, high);
  once = IsConsistent-push trail l is.once free;
  room = omega (arith, length-append trail (l ∷ []));
}

pub proper-take : (vars : ℕ) (trail : List Literal) (m : ℕ) → IsProperTrail vars trail → IsProperTrail vars (take m trail)
proper-take vars trail m is =
    elim (cases_lt m (length trail)) [
      | inl within ↦ (let long = length-take-le m trail (omega arith) in record {
        variables = All-take (λ (l : Literal). (1 ≤ l.var) × (l.var ≤ vars)) m trail is.variables;
        once = λ k d h. subst (λ (t : List Literal). value_on t (get_or (take m trail) k d).var ≡ None) (sym (take-take k m trail (omega arith)))
            (subst (λ (l : Literal). value_on (take k trail) l.var ≡ None) (sym (get_or-take m trail k d (omega arith))) (is.once k d (omega arith)));
        room = omega (arith, is.room);
      })
      | inr past ↦ subst (IsProperTrail vars) (sym (take_all m trail (omega arith))) is
    ]

-- who meets the rows and makes the literals at the places true makes all literals before any place true
true_below : (rows : List PositiveRow) (trail : List Literal) (places : List ℕ) (a : List Bool) → IsJustified rows trail places → MeetsRows a rows → MakesTrue a (map (λ (place : ℕ). literal_at trail place) places) → (n : ℕ) → n ≤ length trail → (k : ℕ) (d : Literal) → k < n → literal_value a (get_or trail k d) ≡ 1
true_below rows trail places a are meets assumed zero long k d h = absurd (omega arith)
true_below rows trail places a are meets assumed (suc n) long k d h =
    let before = true_below rows trail places a are meets assumed n (omega arith) in
    elim (cases_lt k n) [
      | inl early ↦ before k d early
      | inr late ↦ (let at : n ≡ k = omega arith in subst (λ (i : ℕ). literal_value a (get_or trail i d) ≡ 1) at (last before (are n d (omega arith))))
    ]
  where
    at_place : Contains places n → literal_value a (get_or trail n d) ≡ 1
    at_place (j, exists, at) =
        let count = length-map places (λ (place : ℕ). literal_at trail place) in
        let read = get_or-map (λ (place : ℕ). literal_at trail place) places j n d exists in
        let one = assumed j d (omega arith) in
        let there : literal_at trail (get_or places j n) ≡ literal_at trail n = ap (λ (i : ℕ). literal_at trail i) at in
        let same : literal_at trail n ≡ get_or trail n d = get_or_default trail n (record { var = 1; positive = true }) d (omega arith) in
        subst (λ (l : Literal). literal_value a l ≡ 1) (read ∙ (there ∙ same)) one

    last : ((k : ℕ) (d : Literal) → k < n → literal_value a (get_or trail k d) ≡ 1) → Contains places n ⊎ IsForced rows (take n trail) (get_or trail n d) → literal_value a (get_or trail n d) ≡ 1
    last before (inl there) = at_place there
    last before (inr forced) = forced a (record {
      makes_true = λ i e h. (let count = length-take-le n trail (omega arith) in subst (λ (l : Literal). literal_value a l ≡ 1) (sym (get_or-take n trail i e (omega arith))) (before i e (omega arith)));
      meets_rows = meets;
    })

pub assumptions_force : (rows : List PositiveRow) (trail : List Literal) (places : List ℕ) → IsJustified rows trail places → (a : List Bool) → MeetsRows a rows → MakesTrue a (map (λ (place : ℕ). literal_at trail place) places) → MakesTrue a trail
assumptions_force rows trail places are a meets assumed k d h = true_below rows trail places a are meets assumed (length trail) (omega arith) k d h

is_true-absent : (trail : List Literal) (m : Literal) → All (λ (l : Literal). m.var ≢ l.var) trail → is_true trail m ≡ false
unfolding is_true
is_true-absent [] m all = refl
is_true-absent (x ∷ trail) m all =
    let P : Literal → Type 0 = λ l. m.var ≢ l.var in
    let here : same_literal m x ≡ false = same_literal-other m x (All-head P x trail all) in
    let rest = is_true-absent trail m (All-tail P x trail all) in
    rw here rest

-- a number that is no variable has no value
pub value_outside : (vars : ℕ) (trail : List Literal) (v : ℕ) → IsProperTrail vars trail → (v < 1) ⊎ (vars < v) → None ≡ value_on trail v
value_outside vars trail v is out =
    let absent : (b : Bool) → is_true trail (record { var = v; positive = b }) ≡ false = λ b. is_true-absent trail (record { var = v; positive = b }) (λ k d h. (let within = is.variables k d h in elim out as (λ _. v ≢ (get_or trail k d).var) [ inl low ↦ (λ e. omega arith) | inr high ↦ (λ e. omega arith) ])) in
    rw (absent true, absent false) refl
