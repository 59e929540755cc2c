-- How the levels of an engine, and what is known to be settled, stay true.
use Rattle.std.proofs.Common.{◌≡◌, ℕ, ◌-◌, ◌<◌, ◌≤◌, List, [], ◌∷◌, ◌++◌, length, get_or, take, refl, sym, ◌∙◌, ap, subst, arith, Option, Some, None, Bool, true, false, inl, inr, length-append}
use Rattle.std.specs.Option.{ForSome}
use Rattle.std.proofs.lemmas.Bool.{cases_lt}
use Rattle.std.proofs.lemmas.List.{length-map, map_push, get_or-map, take_all, take-take, take-append-le, length-take-le, get_or_append_left, get_or-append_right, get_or-take, get_or_default, take-map}
use Rattle.pb_inst.specs.Literal.{Literal}
use Rattle.pb_normal.specs.NormalForm.{PositiveRow, NormalForm}
use Rattle.pb_trail.specs.declared.propagator.Level.{Level}
use Rattle.pb_rows.specs.Constraints.{Constraints, row_at}
use Rattle.pb_trail.specs.Trail.{value_on, reachable}
use Rattle.pb_trail.specs.SlackCache.{KnowsNothing}
use Rattle.pb_trail.specs.Tracked.{TrailState, IsUpToDate}
use Rattle.pb_trail.specs.Completion.{HasNoCompletion}
use Rattle.pb_trail.specs.Propagation.{AddsForced, nothing, one_more, IsBroken}
use Rattle.pb_trail.specs.EngineState.{HasNegativeSlack}
use Rattle.pb_trail.specs.Levels.{starts_of, AllSettled, AllSettledFrom, AreLevels, IsEngine}
use Rattle.pb_trail.proofs.CompletionLemmas.{slack-negative, no_completion, settled_from-push, length-AddsForced}
use Rattle.pb_trail.specs.Soundness.{IsJustified, IsProperTrail, ArePlaces, IsSoundTrail}
use Rattle.pb_trail.proofs.SoundLemmas.{justified-push, justified-AddsForced, justified-take, proper-push, proper-take, assumptions_force}

-- a longer trail that is to be cut
pub record IsCutTo (c : Constraints) (before now : TrailState) (n : ℕ) : Type 0 where
  pub up_to_date : IsUpToDate c now
  pub front : take n now.lits ≡ take n before.lits
  pub nothing_known : KnowsNothing now.slack_cache

pub length-starts_of : (levels : List Level) → length (starts_of levels) ≡ length levels
unfolding starts_of
length-starts_of levels = length-map levels (λ (l : Level). l.start)

pub starts_of-push : (levels : List Level) (l : Level) → starts_of (levels ++ l ∷ []) ≡ starts_of levels ++ l.start ∷ []
unfolding starts_of
starts_of-push levels l = map_push (λ (l : Level). l.start) levels l

pub starts_of-take : (levels : List Level) (n : ℕ) → starts_of (take n levels) ≡ take n (starts_of levels)
unfolding starts_of
starts_of-take levels n = sym (take-map (λ (l : Level). l.start) n levels)

pub start_at : (levels : List Level) (k e : ℕ) (d : Level) → k < length levels → get_or (starts_of levels) k e ≡ (get_or levels k d).start
unfolding starts_of
start_at levels k e d h = get_or-map (λ (l : Level). l.start) levels k d e h

pub levels_short : (rows : List PositiveRow) (trail : List Literal) (levels : List Level) → AreLevels rows trail levels → length levels ≤ length trail
levels_short rows trail levels are =
    elim (cases_lt 0 (length levels)) [
      | inl some ↦ (let last = are.within (length levels - 1) (record { start = 0; settled = false }) (omega arith) in omega arith)
      | inr nought ↦ omega arith
    ]

at_push_left : (levels : List Level) (l d : Level) (k : ℕ) → k < length levels → get_or (levels ++ l ∷ []) k d ≡ get_or levels k d
at_push_left levels l d k h = get_or_append_left levels (l ∷ []) d k h

at_push_last : (levels : List Level) (l d : Level) (k : ℕ) → k ≡ length levels → get_or (levels ++ l ∷ []) k d ≡ l
at_push_last levels l d k h = get_or-append_right levels (l ∷ []) (length levels) k d refl (omega arith) ∙ ap (λ (i : ℕ). get_or (l ∷ []) i d) (let nought : k - length levels ≡ 0 = omega arith in nought)

-- a level for a literal that joins the trail
AreLevels-push : (rows : List PositiveRow) (trail : List Literal) (levels : List Level) (l : Literal) (settled : Bool) → AreLevels rows trail levels → (settled ≡ true → AllSettled rows trail) → AreLevels rows (trail ++ l ∷ []) (levels ++ record { start = length trail; settled = settled } ∷ [])
AreLevels-push rows trail levels l settled are quiet =
    let new : Level = record { start = length trail; settled = settled } in
    let long = length-append trail (l ∷ []) in
    let more = length-append levels (new ∷ []) in
    let short = levels_short rows trail levels are in
    record {
      within = λ k d h. elim (cases_lt k (length levels)) [
        | inl early ↦ (let here = at_push_left levels new d k early in let was = are.within k d early in let start = ap (λ (v : Level). v.start) here in (omega arith, omega arith))
        | inr late ↦ (let here = at_push_last levels new d k (omega arith) in let start = ap (λ (v : Level). v.start) here in (omega arith, omega arith))
      ];
      rising = λ j k d low h. (let first = ap (λ (v : Level). v.start) (at_push_left levels new d j (omega arith)) in
          elim (cases_lt k (length levels)) [
            | inl early ↦ (let second = ap (λ (v : Level). v.start) (at_push_left levels new d k early) in let was = are.rising j k d low early in omega arith)
            | inr late ↦ (let second = ap (λ (v : Level). v.start) (at_push_last levels new d k (omega arith)) in let was = are.within j d (omega arith) in omega arith)
          ]);
      settled = λ k d h is_settled. elim (cases_lt k (length levels)) [
        | inl early ↦
            (let here = at_push_left levels new d k early in
            let was = are.settled k d early (sym (ap (λ (v : Level). v.settled) here) ∙ is_settled) in
            let low = are.within k d early in
            let start = ap (λ (v : Level). v.start) here in
            let front : take (get_or (levels ++ new ∷ []) k d).start (trail ++ l ∷ []) ≡ take (get_or levels k d).start trail = take-append-le (get_or (levels ++ new ∷ []) k d).start trail (l ∷ []) (omega arith) ∙ ap (λ (n : ℕ). take n trail) start in
            subst (AllSettled rows) (sym front) was)
        | inr late ↦
            (let here = at_push_last levels new d k (omega arith) in
            let start = ap (λ (v : Level). v.start) here in
            let front : take (get_or (levels ++ new ∷ []) k d).start (trail ++ l ∷ []) ≡ trail = take-append-le (get_or (levels ++ new ∷ []) k d).start trail (l ∷ []) (omega arith) ∙ take_all (get_or (levels ++ new ∷ []) k d).start trail (omega arith) in
            subst (AllSettled rows) (sym front) (quiet (sym (ap (λ (v : Level). v.settled) here) ∙ is_settled)))
      ];
    }

pub kept_front : (rows : List PositiveRow) (trail new : List Literal) (n : ℕ) → AddsForced rows trail new → n ≤ length trail → take n new ≡ take n trail
kept_front rows trail new n nothing h = refl
kept_front rows trail new n (one_more longer l added free forced) h =
    take-append-le n longer (l ∷ []) (omega (arith, length-AddsForced rows trail longer added)) ∙ kept_front rows trail longer n added h

AreLevels-longer : (rows : List PositiveRow) (trail new : List Literal) (levels : List Level) → AddsForced rows trail new → AreLevels rows trail levels → AreLevels rows new levels
AreLevels-longer rows trail new levels added are =
    let longer = length-AddsForced rows trail new added in
    record {
      within = λ k d h. (let was = are.within k d h in (was.0, omega arith));
      rising = are.rising;
      settled = λ k d h is_settled. (let was = are.within k d h in subst (AllSettled rows) (sym (kept_front rows trail new (get_or levels k d).start added (omega arith))) (are.settled k d h is_settled));
    }

at_take : (levels : List Level) (n k : ℕ) (d : Level) → k < n → get_or (take n levels) k d ≡ get_or levels k d
at_take levels n k d h = get_or-take n levels k d h

AreLevels-cut : (rows : List PositiveRow) (trail : List Literal) (levels : List Level) (n : ℕ) (level : Level) → AreLevels rows trail levels → n < length levels → level ≡ get_or levels n level → AreLevels rows (take level.start trail) (take n levels)
AreLevels-cut rows trail levels n level are low read =
    let top = are.within n level low in
    let start = ap (λ (v : Level). v.start) read in
    let count : length (take n levels) ≡ n = length-take-le n levels (omega arith) in
    let long : length (take level.start trail) ≡ level.start = length-take-le level.start trail (omega arith) in
    let below : (k : ℕ) (d : Level) → k < n → (get_or (take n levels) k d).start < level.start = λ k d h.
    (let here = ap (λ (v : Level). v.start) (at_take levels n k d h) in
    let rises = are.rising k n d h low in
    let same = ap (λ (v : Level). v.start) (get_or_default levels n d level low) in
    omega arith) in
    record {
      within = λ k d h. (let was = are.within k d (omega arith) in let here = ap (λ (v : Level). v.start) (at_take levels n k d (omega arith)) in let less = below k d (omega arith) in (omega arith, omega arith));
      rising = λ j k d order h. (let first = ap (λ (v : Level). v.start) (at_take levels n j d (omega arith)) in let second = ap (λ (v : Level). v.start) (at_take levels n k d (omega arith)) in let was = are.rising j k d order (omega arith) in omega arith);
      settled = λ k d h is_settled.
          (let here = at_take levels n k d (omega arith) in
          let less = below k d (omega arith) in
          let was = are.settled k d (omega arith) (sym (ap (λ (v : Level). v.settled) here) ∙ is_settled) in
          let front : take (get_or (take n levels) k d).start (take level.start trail) ≡ take (get_or levels k d).start trail = take-take (get_or (take n levels) k d).start level.start trail (omega arith) ∙ ap (λ (m : ℕ). take m trail) (ap (λ (v : Level). v.start) here) in
          subst (AllSettled rows) (sym front) was);
    }

-- a row is settled where nothing comes after
settled_at_end : (rows : List PositiveRow) (trail : List Literal) (from : ℕ) → length trail ≤ from → AllSettledFrom rows trail from → AllSettled rows trail
settled_at_end rows trail from late all r exists = all.1 r exists (λ k d low upto. absurd (omega arith))

all_settled_from : (rows : List PositiveRow) (trail : List Literal) (from : ℕ) → from ≤ length trail → AllSettled rows trail → AllSettledFrom rows trail from
all_settled_from rows trail from low all = (low, λ r exists untouched. all r exists)

known : (until : Option ℕ) (P : ℕ → Type 0) (from : ℕ) → ForSome until P → until ≡ Some from → P from
known until P from h is = h from is

pub IsEngine-assume : (vars : ℕ) (rows : List PositiveRow) (trail : List Literal) (levels : List Level) (until : Option ℕ) (conflict settled : Bool) (capacity : ℕ) (l : Literal) → IsEngine vars rows trail levels until conflict capacity → conflict ≡ false → length trail < vars → value_on trail l.var ≡ None → (settled ≡ true → until ≡ Some (length trail)) → 1 ≤ l.var → l.var ≤ vars → IsEngine vars rows (trail ++ l ∷ []) (levels ++ record { start = length trail; settled = settled } ∷ []) until conflict capacity
IsEngine-assume vars rows trail levels until conflict settled capacity l is calm short free quiet low high =
    record {
      levels_in_order = AreLevels-push rows trail levels l settled is.levels_in_order
          (λ yes'. settled_at_end rows trail (length trail) (omega arith) (known until (AllSettledFrom rows trail) (length trail) (is.checked calm) (quiet yes')));
      proper = proper-push vars trail l is.proper free short low high;
      justified = subst (IsJustified rows (trail ++ l ∷ [])) (sym (starts_of-push levels (record { start = length trail; settled = settled }))) (justified-push rows trail (starts_of levels) l is.justified);
      stands = λ found. absurd (let none : ⊥ = cc in none);
      checked = λ still from known_from. (let h = is.checked still from known_from in (omega (arith, h.0, length-append trail (l ∷ [])), λ r exists. settled_from-push trail l from (row_at rows r) h.0 free (h.1 r exists)));
      count = omega (arith, levels_short rows trail levels is.levels_in_order, length-append levels (record { start = length trail; settled = settled } ∷ []));
      small = is.small;
      room = is.room;
    }

pub IsEngine-propagated : (vars : ℕ) (rows : List PositiveRow) (trail new : List Literal) (levels : List Level) (until : Option ℕ) (conflict : Bool) (capacity n : ℕ) → IsEngine vars rows trail levels until conflict capacity → conflict ≡ false → AddsForced rows trail new → IsProperTrail vars new → AllSettled rows new → n ≡ length new → IsEngine vars rows new levels (Some n) conflict capacity
IsEngine-propagated vars rows trail new levels until conflict capacity n is calm added proper settled len = record {
  levels_in_order = AreLevels-longer rows trail new levels added is.levels_in_order;
  proper = proper;
  justified = justified-AddsForced rows trail new (starts_of levels) added is.justified;
  stands = λ found. absurd (let none : ⊥ = cc in none);
  checked = λ still from known_from. (let at : from ≡ n = cc in all_settled_from rows new from (omega arith) settled);
  count = is.count;
  small = is.small;
  room = is.room;
}

pub IsEngine-conflict : (vars : ℕ) (rows : List PositiveRow) (trail new : List Literal) (levels : List Level) (until : Option ℕ) (conflict : Bool) (capacity : ℕ) → IsEngine vars rows trail levels until conflict capacity → AddsForced rows trail new → IsProperTrail vars new → HasNoCompletion rows new → IsEngine vars rows new levels until true capacity
IsEngine-conflict vars rows trail new levels until conflict capacity is added proper none_left = record {
  levels_in_order = AreLevels-longer rows trail new levels added is.levels_in_order;
  proper = proper;
  justified = justified-AddsForced rows trail new (starts_of levels) added is.justified;
  stands = λ found. none_left;
  checked = λ still. absurd (let none : ⊥ = cc in none);
  count = is.count;
  small = is.small;
  room = is.room;
}

pub IsEngine-undo : (vars : ℕ) (rows : List PositiveRow) (trail : List Literal) (levels : List Level) (until : Option ℕ) (conflict : Bool) (capacity n : ℕ) (level : Level) → IsEngine vars rows trail levels until conflict capacity → n < length levels → level ≡ get_or levels n level → (new_until : Option ℕ) → ((from : ℕ) → new_until ≡ Some from → (from ≡ level.start) × (level.settled ≡ true)) → IsEngine vars rows (take level.start trail) (take n levels) new_until false capacity
IsEngine-undo vars rows trail levels until conflict capacity n level is low read new_until says = record {
  levels_in_order = AreLevels-cut rows trail levels n level is.levels_in_order low read;
  proper = proper-take vars trail level.start is.proper;
  justified = subst (IsJustified rows (take level.start trail)) (sym (starts_of-take levels n)) (justified-take rows trail (starts_of levels) level.start n is.justified (λ j d long late. earlier j d long late));
  stands = λ found. absurd (let none : ⊥ = cc in none);
  checked = λ still from known_from. after from (says from known_from);
  count = omega (arith, length-take-le n levels (omega arith), is.count);
  small = is.small;
  room = is.room;
}
  where
    earlier : (j d : ℕ) → j < length (starts_of levels) → n ≤ j → level.start ≤ get_or (starts_of levels) j d
    earlier j d long late =
        let count = length-starts_of levels in
        let at = start_at levels j d level (omega arith) in
        let start = ap (λ (v : Level). v.start) read in
        elim (cases_lt n j) [
          | inl before ↦ (let rises = is.levels_in_order.rising n j level before (omega arith) in omega arith)
          | inr same ↦ (let here : j ≡ n = omega arith in let place = ap (λ (i : ℕ). (get_or levels i level).start) here in omega arith)
        ]

    after : (from : ℕ) → (from ≡ level.start) × (level.settled ≡ true) → AllSettledFrom rows (take level.start trail) from
    after from parts =
        let top = is.levels_in_order.within n level low in
        let start = ap (λ (v : Level). v.start) read in
        let settled = is.levels_in_order.settled n level low (sym (ap (λ (v : Level). v.settled) read) ∙ parts.1) in
        all_settled_from rows (take level.start trail) from (omega (arith, length-take-le level.start trail (omega arith))) (subst (λ (m : ℕ). AllSettled rows (take m trail)) (sym start) settled)

-- the rows of a broken trail
pub negative_since : (rows : List PositiveRow) (trail : List Literal) → IsBroken rows trail → HasNegativeSlack rows trail
negative_since rows trail (r, (exists, low)) = (r, exists, slack-negative (reachable trail (row_at rows r).terms) (row_at rows r).degree low)

pub none_since_broken : (rows : List PositiveRow) (trail : List Literal) → IsBroken rows trail → HasNoCompletion rows trail
none_since_broken rows trail (r, (exists, low)) = no_completion rows trail r exists low

places_of : (rows : List PositiveRow) (trail : List Literal) (levels : List Level) → AreLevels rows trail levels → ArePlaces trail (starts_of levels)
places_of rows trail levels are =
    let count = length-starts_of levels in
    record {
      within = λ k d h. (let at = start_at levels k d (record { start = 0; settled = false }) (omega arith) in let was = are.within k (record { start = 0; settled = false }) (omega arith) in omega arith);
      rising = λ j k d low h.
          (let first = start_at levels j d (record { start = 0; settled = false }) (omega arith) in
          let second = start_at levels k d (record { start = 0; settled = false }) (omega arith) in
          let was = are.rising j k (record { start = 0; settled = false }) low (omega arith) in omega arith);
    }

-- the trail of an engine is sound
pub sound-IsEngine : (form : NormalForm) (vars : ℕ) (rows : List PositiveRow) (trail : List Literal) (levels : List Level) (until : Option ℕ) (conflict shown : Bool) (capacity : ℕ) → IsEngine vars rows trail levels until conflict capacity → IsSoundTrail (record { form = form; vars = vars; rows = rows; trail = trail; levels = starts_of levels; conflict = shown })
sound-IsEngine form vars rows trail levels until conflict shown capacity is = record {
  places = places_of rows trail levels is.levels_in_order;
  forced = assumptions_force rows trail (starts_of levels) is.justified;
  proper = is.proper;
}
