-- What stands beside a trail once it is longer.
use Rattle.std.proofs.Common.{◌≡◌, ℕ, ◌++◌, ◌∷◌, [], List, length, take, sym, ◌∙◌, ap, subst, arith, All, Bool}
use Rattle.std.specs.Prelude.{ℤ, ◌≤ℤ◌, IfSome, Option, Some, None}
use Rattle.std.proofs.lemmas.List.{take-append-le, take_all, length-append}
use Rattle.std.proofs.lemmas.List.Elements.{All-take}
use Rattle.pb_inst.specs.Literal.{Literal}
use Rattle.pb_inst.specs.Meaning.{literal_value}
use Rattle.pb_normal.specs.NormalForm.{PositiveRow, NormalForm, MeetsRows, normal_cost}
use Rattle.pb_trail.specs.EngineState.{EngineState}
use Rattle.pb_trail.specs.Propagation.{AddsForced}
use Rattle.pb_engine.specs.Fixing.{IsBelowCompletions}
use Rattle.pb_trail.proofs.EngineLemmas.{kept_front}
use Rattle.pb_row_bound.specs.declared.deficits.Deficits.{Deficits}
use Rattle.pb_row_bound.specs.Deficits.{AreCounters, HasCounters}
use Rattle.pb_lagrange.specs.Relaxation.{IsBeside}
use Rattle.pb_lagrange.specs.Multipliers.{MultipliersState}
use Rattle.pb_engine.proofs.RelaxedLemmas.{beside-longer}

-- an assignment that completes a trail completes its beginning
below-longer : (e new : EngineState) (bound : ℤ) → new.form ≡ e.form → new.rows ≡ e.rows → take (length e.trail) new.trail ≡ e.trail → IsBelowCompletions e bound → IsBelowCompletions new bound
below-longer e new bound form rows front below = λ a whole.
    subst (λ (f : NormalForm). bound ≤ℤ normal_cost f a) (sym form)
    (below a (record {
      makes_true = subst (λ (t : List Literal). All (λ l. literal_value a l ≡ 1) t) front (All-take (λ (l : Literal). literal_value a l ≡ 1) (length e.trail) new.trail whole.makes_true);
      meets_rows = subst (λ (rs : List PositiveRow). MeetsRows a rs) rows whole.meets_rows;
    }))

pub standing-longer : (e new : EngineState) (standing : Option ℤ) → new.form ≡ e.form → new.rows ≡ e.rows → take (length e.trail) new.trail ≡ e.trail → IfSome standing (IsBelowCompletions e) → IfSome standing (IsBelowCompletions new)
standing-longer e new None form rows front below = tt
standing-longer e new (Some bound) form rows front below = below-longer e new bound form rows front below

-- the beginning of a longer trail
front-appended : (trail more : List Literal) → take (length trail) (trail ++ more) ≡ trail
front-appended trail more = take-append-le (length trail) trail more (omega arith) ∙ take_all (length trail) trail (omega arith)

pub front-forced : (rows : List PositiveRow) (trail longer : List Literal) → AddsForced rows trail longer → take (length trail) longer ≡ trail
front-forced rows trail longer added = kept_front rows trail longer (length trail) added (omega arith) ∙ take_all (length trail) trail (omega arith)

-- one more literal is assumed
abbrev pub IsAssumed : EngineState → EngineState → Literal → Bool → Type 0
IsAssumed e new l conflict = new ≡ record e { trail = e.trail ++ l ∷ []; levels = e.levels ++ length e.trail ∷ []; conflict = conflict }

pub counters-assumed : {limit : ℕ} {C : Type 0} (e new : EngineState) (deficits : Deficits C) (marks : List Bool) (l : Literal) (conflict : Bool) → IsAssumed e new l conflict → HasCounters limit e deficits marks → HasCounters limit new deficits marks
counters-assumed {limit} e new deficits marks l conflict is has =
    let low = has.deficits_are.within in
    let front : take deficits.counted (e.trail ++ l ∷ []) ≡ take deficits.counted e.trail = take-append-le deficits.counted e.trail (l ∷ []) low in
    let P : List Literal → Type 0 = λ t. AreCounters limit e.form e.rows t deficits.paid deficits.by_row.items deficits.open_rows in
    subst (λ (k : EngineState). HasCounters limit k deficits marks) (sym is) (record { deficits_are = record { within = omega (arith, low, length-append e.trail (l ∷ [])); counters = subst P (sym front) has.deficits_are.counters }; room = has.room })

pub beside-assumed : (e new : EngineState) (r : Option MultipliersState) (l : Literal) (conflict : Bool) → IsAssumed e new l conflict → IfSome r (λ m. IsBeside e.form e.trail m) → IfSome r (λ m. IsBeside new.form new.trail m)
beside-assumed e new None l conflict is beside = tt
beside-assumed e new (Some m) l conflict is beside = subst (λ (k : EngineState). IsBeside k.form k.trail m) (sym is) (beside-longer e.form e.trail (l ∷ []) m beside)

pub standing-assumed : (e new : EngineState) (standing : Option ℤ) (l : Literal) (conflict : Bool) → IsAssumed e new l conflict → IfSome standing (IsBelowCompletions e) → IfSome standing (IsBelowCompletions new)
standing-assumed e new standing l conflict is below =
    let trail : new.trail ≡ e.trail ++ l ∷ [] = ap (λ (k : EngineState). k.trail) is in
    standing-longer e new standing (ap (λ (k : EngineState). k.form) is) (ap (λ (k : EngineState). k.rows) is) (subst (λ (t : List Literal). take (length e.trail) t ≡ e.trail) (sym trail) (front-appended e.trail (l ∷ []))) below
