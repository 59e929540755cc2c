-- The way back from a dive stays open.
use Rattle.std.proofs.Common.{◌≡◌, ℕ, ◌+◌, ◌-◌, ◌<◌, ◌≤◌, List, [], ◌∷◌, ◌++◌, length, get_or, take, refl, sym, ◌∙◌, ap, subst, arith, Bool, false, inl, inr, length-append}
use Rattle.std.proofs.lemmas.Bool.{cases_lt}
use Rattle.std.proofs.Math.ListN.{get_or-eq_default}
use Rattle.std.proofs.lemmas.List.{take_all, take-take, take-append-le, length-take, length-take-le, get_or_append_left, get_or-append_right, get_or-take, get_or_default}
use Rattle.pb_inst.specs.Literal.{Literal}
use Rattle.pb_normal.specs.NormalForm.{NormalForm, PositiveRow}
use Rattle.pb_engine.specs.Propagation.{AddsForced}
use Rattle.pb_engine.specs.EngineState.{EngineState, trail_before}
use Rattle.pb_engine.specs.Soundness.{ArePlaces, IsSoundTrail}
use Rattle.pb_trail.proofs.EngineLemmas.{kept_front}
use Rattle.pb_dive.specs.Dives.{IsTakenBackTo, LeadsBack}

-- a place that is added at the end is read there, and where nothing stands yet
place_pushed : (places : List ℕ) (k n d : ℕ) → k ≤ length places → get_or (places ++ n ∷ []) k d ≡ get_or places k n
place_pushed places k n d within = elim (cases_lt k (length places)) [
  | inl low ↦ get_or_append_left places (n ∷ []) d k low ∙ get_or_default places k d n low
  | inr over ↦
      let nought : k - length places ≡ 0 = omega arith in
      get_or-append_right places (n ∷ []) (length places) k d refl over
      ∙ ap (λ (i : ℕ). get_or (n ∷ []) i d) nought ∙ sym (get_or-eq_default places n over)
]

-- where the way back cuts the trail
place_within : (trail : List Literal) (places : List ℕ) (k : ℕ) → ArePlaces trail places → get_or places k (length trail) ≤ length trail
place_within trail places k are = elim (cases_lt k (length places)) [
  | inl low ↦ (let within = are.within k (length trail) low in omega arith)
  | inr over ↦ (let end : get_or places k (length trail) ≡ length trail = get_or-eq_default places (length trail) over in omega arith)
]

place_rises : (trail : List Literal) (places : List ℕ) (j k : ℕ) → ArePlaces trail places → j ≤ k → get_or places j (length trail) ≤ get_or places k (length trail)
place_rises trail places j k are low = elim (cases_lt k (length places)) [
  | inl within ↦
      elim (cases_lt j k) [
        | inl less ↦ (let rises = are.rising j k (length trail) less within in omega arith)
        | inr same ↦ (let e : j ≡ k = omega arith in subst (λ (n : ℕ). get_or places j (length trail) ≤ get_or places n (length trail)) e (omega arith))
      ]
  | inr over ↦
      (let end : get_or places k (length trail) ≡ length trail = get_or-eq_default places (length trail) over in
      let within = place_within trail places j are in
      omega arith)
]

-- the trail before a level, after one more assumption
before_assumed : (trail : List Literal) (places : List ℕ) (l : Literal) (k : ℕ) → ArePlaces trail places → k ≤ length places → take (get_or (places ++ length trail ∷ []) k (length (trail ++ l ∷ []))) (trail ++ l ∷ []) ≡ take (get_or places k (length trail)) trail
before_assumed trail places l k are within =
    ap (λ (n : ℕ). take n (trail ++ l ∷ [])) (place_pushed places k (length trail) (length (trail ++ l ∷ [])) within)
    ∙ take-append-le (get_or places k (length trail)) trail (l ∷ []) (place_within trail places k are)

-- and after later levels were taken back
before_undone : (trail : List Literal) (places : List ℕ) (j k : ℕ) → ArePlaces trail places → j ≤ k → k ≤ length places → take (get_or (take k places) j (length (take (get_or places k (length trail)) trail))) (take (get_or places k (length trail)) trail) ≡ take (get_or places j (length trail)) trail
before_undone trail places j k are low within = elim (cases_lt j k) [
  | inl less ↦
      ap (λ (n : ℕ). take n (take (get_or places k (length trail)) trail)) (get_or-take k places j (length (take (get_or places k (length trail)) trail)) less ∙ get_or_default places j (length (take (get_or places k (length trail)) trail)) (length trail) (omega arith))
      ∙ take-take (get_or places j (length trail)) (get_or places k (length trail)) trail (place_rises trail places j k are low)
  | inr over ↦
      (let same : k ≡ j = omega arith in
      let count = length-take-le k places within in
      let short : length (take k places) ≤ j = omega arith in
      ap (λ (n : ℕ). take n (take (get_or places k (length trail)) trail)) (get_or-eq_default (take k places) (length (take (get_or places k (length trail)) trail)) short)
      ∙ take_all (length (take (get_or places k (length trail)) trail)) (take (get_or places k (length trail)) trail) (omega arith)
      ∙ ap (λ (n : ℕ). take (get_or places n (length trail)) trail) same)
]

-- the levels of the start are among those now
pub levels_within : (s e : EngineState) → LeadsBack s e → length s.levels ≤ length e.levels
levels_within s e h =
    let count : length (take (length s.levels) e.levels) ≡ length s.levels = ap (λ (x : List ℕ). length x) h.levels in
    omega (arith, length-take (length s.levels) e.levels)

-- at the start nothing is to be taken back
pub leads_itself : (s : EngineState) → s.conflict ≡ false → LeadsBack s s
leads_itself s none = record {
  form = refl;
  vars = refl;
  rows = refl;
  trail = ap (λ (n : ℕ). take n s.trail) (get_or-eq_default s.levels (length s.trail) (omega arith)) ∙ take_all (length s.trail) s.trail (omega arith);
  levels = take_all (length s.levels) s.levels (omega arith);
  start_has_no_conflict = none;
}

-- one more assumption
leads_assumed : (s e f : EngineState) (l : Literal) (conflict : Bool) → IsSoundTrail e → f ≡ record e { trail = e.trail ++ l ∷ []; levels = e.levels ++ length e.trail ∷ []; conflict = conflict } → LeadsBack s e → LeadsBack s f
leads_assumed s e f l conflict sound grown h = record {
  form = ap (λ (x : EngineState). x.form) grown ∙ h.form;
  vars = ap (λ (x : EngineState). x.vars) grown ∙ h.vars;
  rows = ap (λ (x : EngineState). x.rows) grown ∙ h.rows;
  trail = ap (λ (x : EngineState). trail_before x (length s.levels)) grown ∙ before_assumed e.trail e.levels l (length s.levels) sound.places (levels_within s e h) ∙ h.trail;
  levels = ap (λ (x : EngineState). take (length s.levels) x.levels) grown ∙ take-append-le (length s.levels) e.levels (length e.trail ∷ []) (levels_within s e h) ∙ h.levels;
  start_has_no_conflict = h.start_has_no_conflict;
}

-- what follows from the assumptions above the start
leads_propagated : (s e f : EngineState) (trail : List Literal) (conflict : Bool) → IsSoundTrail e → length s.levels < length e.levels → f ≡ record e { trail = trail; conflict = conflict } → AddsForced e.rows e.trail trail → LeadsBack s e → LeadsBack s f
leads_propagated s e f trail conflict sound above grown added h = record {
  form = ap (λ (x : EngineState). x.form) grown ∙ h.form;
  vars = ap (λ (x : EngineState). x.vars) grown ∙ h.vars;
  rows = ap (λ (x : EngineState). x.rows) grown ∙ h.rows;
  trail =
      ap (λ (x : EngineState). trail_before x (length s.levels)) grown
      ∙ ap (λ (n : ℕ). take n trail) (get_or_default e.levels (length s.levels) (length trail) (length e.trail) above)
      ∙ kept_front e.rows e.trail trail (get_or e.levels (length s.levels) (length e.trail)) added (place_within e.trail e.levels (length s.levels) sound.places)
      ∙ h.trail;
  levels = ap (λ (x : EngineState). take (length s.levels) x.levels) grown ∙ h.levels;
  start_has_no_conflict = h.start_has_no_conflict;
}

-- one decision of a dive, and what follows
pub leads_on : (s e f g : EngineState) (l : Literal) (trail : List Literal) (first conflict : Bool) → IsSoundTrail e → IsSoundTrail f → f ≡ record e { trail = e.trail ++ l ∷ []; levels = e.levels ++ length e.trail ∷ []; conflict = first } → g ≡ record f { trail = trail; conflict = conflict } → AddsForced f.rows f.trail trail → LeadsBack s e → LeadsBack s g
leads_on s e f g l trail first conflict sound next assumed grown added h =
    let more : length f.levels ≡ length e.levels + 1 = ap (λ (x : EngineState). length x.levels) assumed ∙ length-append e.levels (length e.trail ∷ []) in
    let within = levels_within s e h in
    leads_propagated s f g trail conflict next (omega arith) grown added (leads_assumed s e f l first sound assumed h)

-- some decisions were taken back, down to the start at most
pub leads_undone : (s e f : EngineState) (level : ℕ) → IsSoundTrail e → length s.levels ≤ level → level ≤ length e.levels → f ≡ record e { trail = trail_before e level; levels = take level e.levels; conflict = false } → LeadsBack s e → LeadsBack s f
leads_undone s e f level sound low within shorter h = record {
  form = ap (λ (x : EngineState). x.form) shorter ∙ h.form;
  vars = ap (λ (x : EngineState). x.vars) shorter ∙ h.vars;
  rows = ap (λ (x : EngineState). x.rows) shorter ∙ h.rows;
  trail = ap (λ (x : EngineState). trail_before x (length s.levels)) shorter ∙ before_undone e.trail e.levels (length s.levels) level sound.places low within ∙ h.trail;
  levels = ap (λ (x : EngineState). take (length s.levels) x.levels) shorter ∙ take-take (length s.levels) level e.levels low ∙ h.levels;
  start_has_no_conflict = h.start_has_no_conflict;
}

pub taken_back_onward : (floor : ℕ) (r s t : EngineState) → IsTakenBackTo floor r s → IsTakenBackTo floor s t → IsTakenBackTo floor r t
taken_back_onward floor r s t h k = record {
  back = λ start at first. k.back start at (h.back start at first);
  sound = k.sound;
  same_variables = k.same_variables ∙ h.same_variables;
  no_deeper = omega (arith, h.no_deeper, k.no_deeper);
}

pub taken_back_itself : (floor : ℕ) (s : EngineState) → IsSoundTrail s → IsTakenBackTo floor s s
taken_back_itself floor s sound = record { back = λ start at h. h; sound = sound; same_variables = refl; no_deeper = omega arith }

-- all is taken back
pub back_at_start : (s e f : EngineState) → LeadsBack s e → f ≡ record e { trail = trail_before e (length s.levels); levels = take (length s.levels) e.levels; conflict = false } → f ≡ s
back_at_start s e f h shorter =
    shorter
    ∙ ap (λ (x : List Literal). record e { trail = x; levels = take (length s.levels) e.levels; conflict = false }) h.trail
    ∙ ap (λ (x : List ℕ). record e { trail = s.trail; levels = x; conflict = false }) h.levels
    ∙ ap (λ (x : Bool). record e { trail = s.trail; levels = s.levels; conflict = x }) (sym h.start_has_no_conflict)
    ∙ ap (λ (x : NormalForm). record s { form = x; vars = e.vars; rows = e.rows }) h.form
    ∙ ap (λ (x : ℕ). record s { vars = x; rows = e.rows }) h.vars
    ∙ ap (λ (x : List PositiveRow). record s { rows = x }) h.rows
