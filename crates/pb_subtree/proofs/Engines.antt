-- What the calls of an engine leave of its assumptions and constraints.
use Rattle.std.proofs.Common.{◌≡◌, ℕ, ◌-◌, ◌<◌, ◌≤◌, List, [], ◌∷◌, ◌++◌, length, get_or, take, refl, ◌∙◌, ap, subst, arith, suc, zero, Bool, false, inl, inr, None}
use Rattle.std.proofs.lemmas.Bool.{cases_lt}
use Rattle.std.proofs.lemmas.List.{take_all, take-append-le}
use Rattle.pb_inst.specs.Literal.{Literal}
use Rattle.pb_engine.specs.Trail.{value_on}
use Rattle.pb_engine.specs.Propagation.{AddsForced}
use Rattle.pb_engine.specs.EngineState.{EngineState, trail_before}
use Rattle.pb_engine.specs.Soundness.{assumptions, ArePlaces, IsSoundTrail}
use Rattle.pb_trail.proofs.SoundLemmas.{last_of}
use Rattle.pb_trail.proofs.AssumptionLemmas.{assumptions-assume, assumptions-propagate, assumptions-undo, freed-undo}
use Rattle.pb_prune.specs.Solutions.{SameConstraints}

-- the trail, its assumptions and the conflict may change; the constraints stay
pub same_constraints : (s t : EngineState) (trail : List Literal) (levels : List ℕ) (conflict : Bool) → t ≡ record s { trail = trail; levels = levels; conflict = conflict } → SameConstraints s t
same_constraints s t trail levels conflict e = record {
  form = ap (λ (x : EngineState). x.form) e;
  vars = ap (λ (x : EngineState). x.vars) e;
  rows = ap (λ (x : EngineState). x.rows) e;
}

pub same_constraints_itself : (s : EngineState) → SameConstraints s s
same_constraints_itself s = record { form = refl; vars = refl; rows = refl }

pub same_constraints_onward : (s t u : EngineState) → SameConstraints s t → SameConstraints t u → SameConstraints s u
same_constraints_onward s t u h k = record { form = k.form ∙ h.form; vars = k.vars ∙ h.vars; rows = k.rows ∙ h.rows }

-- the assumptions after each call
pub assumed : (s t : EngineState) (l : Literal) (conflict : Bool) → IsSoundTrail s → t ≡ record s { trail = s.trail ++ l ∷ []; levels = s.levels ++ length s.trail ∷ []; conflict = conflict } → assumptions t ≡ assumptions s ++ l ∷ []
assumed s t l conflict sound e = ap (λ (x : EngineState). assumptions x) e ∙ assumptions-assume s l sound

pub propagated : (s t : EngineState) (trail : List Literal) (conflict : Bool) → IsSoundTrail s → t ≡ record s { trail = trail; conflict = conflict } → AddsForced s.rows s.trail trail → assumptions t ≡ assumptions s
propagated s t trail conflict sound e added = ap (λ (x : EngineState). assumptions x) e ∙ assumptions-propagate s trail sound added

pub undone_all : (s t : EngineState) → t ≡ record s { trail = trail_before s 0; levels = take 0 s.levels; conflict = false } → assumptions t ≡ []
undone_all s t e = ap (λ (x : EngineState). assumptions x) e

-- one assumption fewer
pub record IsUndone (t : EngineState) (rest : List Literal) (l : Literal) : Type 0 where
  pub assumed : assumptions t ≡ rest
  pub free : value_on t.trail l.var ≡ None

pub undone : (s t : EngineState) (rest : List Literal) (l : Literal) (level : ℕ) → IsSoundTrail s → assumptions s ≡ rest ++ l ∷ [] → level ≡ length rest → level < length s.levels → t ≡ record s { trail = trail_before s level; levels = take level s.levels; conflict = false } → IsUndone t rest l
undone s t rest l level sound all is low e = record {
  assumed = ap (λ (x : EngineState). assumptions x) e ∙ assumptions-undo s level sound low ∙ ap (λ (x : List Literal). take level x) all ∙ take-append-le level rest (l ∷ []) (omega arith) ∙ take_all level rest (omega arith);
  free = ap (λ (x : EngineState). value_on x.trail l.var) e ∙ subst (λ (m : Literal). value_on (trail_before s level) m.var ≡ None) at (freed-undo s level l sound low);
}
  where
    at : get_or (assumptions s) level l ≡ l
    at = ap (λ (x : List Literal). get_or x level l) all ∙ ap (λ (n : ℕ). get_or (rest ++ l ∷ []) n l) is ∙ last_of rest l l

-- as many assumptions as literals on the trail at most
place_above : (trail : List Literal) (places : List ℕ) → ArePlaces trail places → (k : ℕ) → k < length places → k ≤ get_or places k 0
place_above trail places are zero h = omega arith
place_above trail places are (suc k) h = let before = place_above trail places are k (omega arith) in let rises = are.rising k (suc k) 0 (omega arith) h in omega arith

pub assumptions-few : (trail : List Literal) (places : List ℕ) → ArePlaces trail places → length places ≤ length trail
assumptions-few trail places are =
    elim (cases_lt 0 (length places)) [
      | inl some ↦ let last = place_above trail places are (length places - 1) (omega arith) in let within = are.within (length places - 1) 0 (omega arith) in omega arith
      | inr none ↦ omega arith
    ]
