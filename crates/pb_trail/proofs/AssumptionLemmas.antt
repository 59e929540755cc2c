-- What becomes of the assumptions from call to call, and what a full trail says.
use Rattle.std.proofs.Common.{◌≡◌, ◌≢◌, ℕ, suc, ◌*◌, ◌<◌, ◌≤◌, List, [], ◌∷◌, ◌++◌, length, get_or, take, map, refl, sym, ◌∙◌, ap, subst, arith, None, Some, Bool, true, false, not, cond, sum_by, All}
use Rattle.std.proofs.lemmas.List.{length-take-le, get_or_append_left, get_or-take, get_or_default, get_or-map, map_push, take-map}
use Rattle.std.proofs.lemmas.List.Elements.{All-head, All-tail}
use Rattle.std.proofs.lemmas.List.Sums.{sum_by-cons}
use Rattle.pb_inst.specs.Literal.{Literal}
use Rattle.pb_inst.specs.Cubes.{MakesTrue}
use Rattle.pb_inst.specs.Meaning.{literal_value}
use Rattle.pb_normal.specs.declared.terms.PositiveTerm.{PositiveTerm}
use Rattle.pb_normal.specs.NormalForm.{PositiveRow, positive_value}
use Rattle.pb_trail.specs.Trail.{is_true, is_false, value_on, reachable}
use Rattle.pb_trail.specs.Completion.{IsSettled}
use Rattle.pb_trail.specs.Propagation.{AddsForced, nothing, one_more}
use Rattle.pb_trail.specs.EngineState.{EngineState, trail_before}
use Rattle.pb_trail.specs.Soundness.{literal_at, assumptions, ArePlaces, IsSoundTrail, IsFull, IsSolved}
use Rattle.pb_trail.proofs.CompletionLemmas.{length-AddsForced, true_in_completion, slack-at-least_back}
use Rattle.pb_trail.proofs.SoundLemmas.{last_of}

-- two maps that agree on a list
same_map : (f g : ℕ → Literal) (xs : List ℕ) → ((k d : ℕ) → k < length xs → f (get_or xs k d) ≡ g (get_or xs k d)) → map f xs ≡ map g xs
same_map f g [] same = refl
same_map f g (x ∷ xs) same =
    ap (λ (y : Literal). y ∷ map f xs) (same 0 0 (omega arith)) ∙ ap (λ (ys : List Literal). g x ∷ ys) (same_map f g xs (λ k d h. same (suc k) d (omega arith)))

abbrev at_places : List Literal → List ℕ → List Literal
at_places trail places = map (λ (place : ℕ). literal_at trail place) places

-- the assumed literals stay where the trail grows
kept-longer : (trail more : List Literal) (places : List ℕ) → ArePlaces trail places → at_places (trail ++ more) places ≡ at_places trail places
kept-longer trail more places are = same_map (λ (place : ℕ). literal_at (trail ++ more) place) (λ (place : ℕ). literal_at trail place) places (λ k d h. get_or_append_left trail more (record { var = 1; positive = true }) (get_or places k d) (are.within k d h))

-- `assume` adds its literal to the assumptions
pub assumptions-assume : (e : EngineState) (l : Literal) → IsSoundTrail e → assumptions (record e { trail = e.trail ++ l ∷ []; levels = e.levels ++ length e.trail ∷ [] }) ≡ assumptions e ++ l ∷ []
assumptions-assume e l is =
    map_push (λ (place : ℕ). literal_at (e.trail ++ l ∷ []) place) e.levels (length e.trail)
    ∙ (ap (λ (ls : List Literal). ls ++ literal_at (e.trail ++ l ∷ []) (length e.trail) ∷ []) (kept-longer e.trail (l ∷ []) e.levels is.places)
    ∙ ap (λ (m : Literal). assumptions e ++ m ∷ []) (last_of e.trail l (record { var = 1; positive = true })))

-- what is added by propagation leaves them as they were
pub assumptions-propagate : (e : EngineState) (new : List Literal) → IsSoundTrail e → AddsForced e.rows e.trail new → at_places new e.levels ≡ assumptions e
assumptions-propagate e new is added = by_steps new added
  where
    longer_places : (longer : List Literal) → AddsForced e.rows e.trail longer → ArePlaces longer e.levels
    longer_places longer added = record {
      within = λ k d h. omega (arith, is.places.within k d h, length-AddsForced e.rows e.trail longer added);
      rising = is.places.rising;
    }

    by_steps : (new : List Literal) → AddsForced e.rows e.trail new → at_places new e.levels ≡ at_places e.trail e.levels
    by_steps new nothing = refl
    by_steps new (one_more longer l added free forced) = kept-longer longer (l ∷ []) e.levels (longer_places longer added) ∙ by_steps longer added

-- the place of an assumption cuts the trail before it
cut_place : (e : EngineState) (level d : ℕ) → level < length e.levels → get_or e.levels level (length e.trail) ≡ get_or e.levels level d
cut_place e level d h = get_or_default e.levels level (length e.trail) d h

-- `undo_to` leaves the first assumptions
pub assumptions-undo : (e : EngineState) (level : ℕ) → IsSoundTrail e → level < length e.levels → at_places (trail_before e level) (take level e.levels) ≡ take level (assumptions e)
assumptions-undo e level is low =
    same_map (λ (place : ℕ). literal_at (trail_before e level) place) (λ (place : ℕ). literal_at e.trail place) (take level e.levels)
    (λ k d h.
    (let count = length-take-le level e.levels (omega arith) in
    let at = get_or-take level e.levels k d (omega arith) in
    let rises = is.places.rising k level d (omega arith) low in
    let end = cut_place e level d low in
    get_or-take (get_or e.levels level (length e.trail)) e.trail (get_or (take level e.levels) k d) (record { var = 1; positive = true }) (omega arith)))
    ∙ sym (take-map (λ (place : ℕ). literal_at e.trail place) level e.levels)

-- the first assumption that `undo_to` takes back has no value afterwards
pub freed-undo : (e : EngineState) (level : ℕ) (d : Literal) → IsSoundTrail e → level < length e.levels → value_on (trail_before e level) (get_or (assumptions e) level d).var ≡ None
freed-undo e level d is low =
    let place = get_or e.levels level (length e.trail) in
    let read = get_or-map (λ (place : ℕ). literal_at e.trail place) e.levels level (length e.trail) d low in
    let within = is.places.within level (length e.trail) low in
    subst (λ (l : Literal). value_on (trail_before e level) l.var ≡ None) (sym read) (is.proper.once place (record { var = 1; positive = true }) within)

-- a literal whose variable has a value is true where its negation is not
pub true_or_false : (trail : List Literal) (v : ℕ) (p : Bool) → value_on trail v ≢ None → is_true trail (record { var = v; positive = not p }) ≡ false → is_true trail (record { var = v; positive = p }) ≡ true
true_or_false trail v true set isnt = by_cases (is_true trail (record { var = v; positive = true })) (is_true trail (record { var = v; positive = false })) set isnt
  where
    by_cases : (x y : Bool) → cond x (Some true) (cond y (Some false) None) ≢ None → y ≡ false → x ≡ true
    by_cases true y some isnt = refl
    by_cases false true some isnt = absurd (let none : ⊥ = cc in none)
    by_cases false false some isnt = absurd (some refl)
true_or_false trail v false set isnt = by_cases (is_true trail (record { var = v; positive = true })) (is_true trail (record { var = v; positive = false })) set isnt
  where
    by_cases : (x y : Bool) → cond x (Some true) (cond y (Some false) None) ≢ None → x ≡ false → y ≡ true
    by_cases true y some isnt = absurd (let none : ⊥ = cc in none)
    by_cases false true some isnt = refl
    by_cases false false some isnt = absurd (some refl)

-- where each term of one sum is at most that of another, so are the sums
sums_at_most : (f g : PositiveTerm → ℕ) (terms : List PositiveTerm) → All (λ (t : PositiveTerm). f t ≤ g t) terms → sum_by f terms ≤ sum_by g terms
sums_at_most f g [] all = omega arith
sums_at_most f g (t ∷ terms) all = omega (arith, sum_by-cons f t terms, sum_by-cons g t terms, sums_at_most f g terms (All-tail (λ (t : PositiveTerm). f t ≤ g t) t terms all), All-head (λ (t : PositiveTerm). f t ≤ g t) t terms all)

-- terms whose variables all have values are worth what the trail leaves of them
full_value : (a : List Bool) (trail : List Literal) (terms : List PositiveTerm) → MakesTrue a trail → All (λ (t : PositiveTerm). value_on trail t.lit.var ≢ None) terms → reachable trail terms ≤ positive_value a terms
unfolding reachable
full_value a trail terms makes all =
    sums_at_most (λ (t : PositiveTerm). cond (is_false trail t.lit) 0 t.coef) (λ (t : PositiveTerm). t.coef * literal_value a t.lit) terms
    (λ k d h. (let t = get_or terms k d in worth (is_false trail t.lit) t.coef (literal_value a t.lit) (λ isnt. true_in_completion a trail t.lit makes (true_or_false trail t.lit.var t.lit.positive (all k d h) isnt))))
  where
    worth : (b : Bool) (n v : ℕ) → (b ≡ false → v ≡ 1) → cond b 0 n ≤ n * v
    worth true n v known = omega arith
    worth false n v known = (let one : v ≡ 1 = known refl in let product : n * v ≡ n = rw one (omega arith) in omega arith)

-- where every row is settled and each variable has a value, the trail's assignment meets the rows
pub full_is_solved : (e : EngineState) → All (λ (row : PositiveRow). All (λ (t : PositiveTerm). (1 ≤ t.lit.var) × (t.lit.var ≤ e.vars)) row.terms) e.rows → All (λ (row : PositiveRow). IsSettled e.trail row) e.rows → IsFull e → IsSolved e
full_is_solved e within settled full a makes k d h =
    let row = get_or e.rows k d in
    let enough = slack-at-least_back (reachable e.trail row.terms) row.degree 0 (settled k d h).not_negative in
    let most = full_value a e.trail row.terms makes (λ i t low. (let range = within k d h i t low in full (get_or row.terms i t).lit.var range.0 range.1)) in
    omega arith
