-- The counters beside an engine's trail.
use Rattle.std.proofs.Common.{◌≡◌, ℕ, ◌≤◌, List, length, take, sym, subst, arith, Bool}
use Rattle.pb_inst.specs.Literal.{Literal}
use Rattle.pb_row_bound.specs.declared.deficits.Deficits.{Deficits}
use Rattle.pb_row_bound.specs.Deficits.{AreDeficits, AreCounters, HasCounters}
use Rattle.pb_trail.specs.EngineState.{EngineState}
use Rattle.pb_trail.specs.Propagation.{AddsForced}
use Rattle.pb_trail.proofs.CompletionLemmas.{length-AddsForced}
use Rattle.pb_trail.proofs.EngineLemmas.{kept_front}

-- they stay where the literals that are counted stay
HasCounters-front : {limit : ℕ} {C : Type 0} (e new : EngineState) (deficits : Deficits C) (marks : List Bool) (trail : List Literal) (levels : List ℕ) (conflict : Bool) → AreDeficits limit e.form e.rows e.trail deficits → length marks ≡ e.vars → new ≡ record e { trail = trail; levels = levels; conflict = conflict } → deficits.counted ≤ length trail → take deficits.counted trail ≡ take deficits.counted e.trail → HasCounters limit new deficits marks
HasCounters-front {limit} e new deficits marks trail levels conflict are room is low front =
    let P : List Literal → Type 0 = λ t. AreCounters limit e.form e.rows t deficits.paid deficits.by_row.items deficits.open_rows in
    let Q : EngineState → Type 0 = λ k. HasCounters limit k deficits marks in
    subst Q (sym is) (record { deficits_are = record { within = low; counters = subst P (sym front) are.counters }; room = room })

pub HasCounters-propagated : {limit : ℕ} {C : Type 0} (e new : EngineState) (deficits : Deficits C) (marks : List Bool) (conflict : Bool) → HasCounters limit e deficits marks → new ≡ record e { trail = new.trail; conflict = conflict } → AddsForced e.rows e.trail new.trail → HasCounters limit new deficits marks
HasCounters-propagated {limit} e new deficits marks conflict has is added =
    HasCounters-front e new deficits marks new.trail e.levels conflict has.deficits_are has.room is (omega (arith, has.deficits_are.within, length-AddsForced e.rows e.trail new.trail added)) (kept_front e.rows e.trail new.trail deficits.counted added has.deficits_are.within)
