use Rattle.std.proofs.Common.{◌≡◌, ℕ, ◌∙◌, All, [], Some, true, false, Bool, ap, sym, subst}
use Rattle.std.specs.Vec.{vec_capacity}
use Rattle.std.proofs.lemmas.List.{get_or_default}
use Rattle.pb_normal.specs.NormalForm.{PositiveRow}
use Rattle.pb_rows.specs.Constraints.{Constraints}
use Rattle.pb_trail.specs.Tracked.{IsUpToDate}
use Rattle.pb_trail.specs.Propagation.{AddsForced, IsBroken}
use Rattle.pb_trail.specs.Completion.{IsSettled, HasNoCompletion}
use Rattle.pb_trail.specs.EngineState.{EngineState, is_conflict, HasNegativeSlack}
use Rattle.pb_trail.specs.Levels.{AllSettled, starts_of}
use Rattle.pb_trail.proofs.AssumptionLemmas.{full_is_solved}
use Rattle.pb_trail.proofs.EngineLemmas.{IsEngine-propagated, IsEngine-conflict, none_since_broken, negative_since, sound-IsEngine}
use Rattle.pb_trail.specs.Soundness.{IsProperTrail}
use Rattle.pb_trail.proofs.propagator.Propagator.propagate.Goals as goal

pub invariant_of-self : goal.invariant_of-self
invariant_of-self g c =
    let inside = c.self.inside in
    let new = c.propagate_all-step.new.trail in
    let fresh : IsUpToDate inside.source new = subst (λ (t : Constraints). IsUpToDate t new) c.tables-tables.ensures c.propagate_all-step.ensures.up_to_date in
    let forced : AddsForced inside.source.rows inside.trail.lits new.lits = subst (λ (t : Constraints). AddsForced t.rows inside.trail.lits new.lits) c.tables-tables.ensures c.propagate_all-step.ensures.forced in
    let calm : inside.conflict ≡ false = ap (λ (e : EngineState). e.conflict) c.self.view_is ∙ c.requires in
    let proper : IsProperTrail inside.source.vars new.lits = subst (λ (n : ℕ). IsProperTrail n new.lits) fresh.vars c.len-length.ensures.proper in
    let stays = IsEngine-propagated inside.source.vars inside.source.rows inside.trail.lits new.lits inside.levels.items inside.propagated inside.conflict (vec_capacity inside.levels) c.len-length.result c.self.invariant.engine calm forced proper (subst (λ (t : Constraints). AllSettled t.rows new.lits) c.tables-tables.ensures (c.propagate_all-step.ensures.settled c.in-Fixed.is)) c.len-length.ensures.length in
    record { up_to_date = fresh; engine = stays }

pub invariant_of-self-in-Conflict : goal.invariant_of-self-in-Conflict
invariant_of-self-in-Conflict g c =
    let inside = c.self.inside in
    let new = c.propagate_all-step.new.trail in
    let fresh : IsUpToDate inside.source new = subst (λ (t : Constraints). IsUpToDate t new) c.tables-tables.ensures c.propagate_all-step.ensures.up_to_date in
    let forced : AddsForced inside.source.rows inside.trail.lits new.lits = subst (λ (t : Constraints). AddsForced t.rows inside.trail.lits new.lits) c.tables-tables.ensures c.propagate_all-step.ensures.forced in
    let proper : IsProperTrail inside.source.vars new.lits = subst (λ (n : ℕ). IsProperTrail n new.lits) fresh.vars c.len-length.ensures.proper in
    let stays = IsEngine-conflict inside.source.vars inside.source.rows inside.trail.lits new.lits inside.levels.items inside.propagated inside.conflict (vec_capacity inside.levels) c.self.invariant.engine forced proper (none_since_broken inside.source.rows new.lits (subst (λ (t : Constraints). IsBroken t.rows new.lits) c.tables-tables.ensures (c.propagate_all-step.ensures.broken c.in-Conflict.is))) in
    record { up_to_date = fresh; engine = stays }

pub returns-in-Fixed : goal.returns-in-Fixed
returns-in-Fixed g c =
    let inside = c.self.inside in
    let new = c.propagate_all-step.new.trail in
    let fresh : IsUpToDate inside.source new = subst (λ (t : Constraints). IsUpToDate t new) c.tables-tables.ensures c.propagate_all-step.ensures.up_to_date in
    let forced : AddsForced inside.source.rows inside.trail.lits new.lits = subst (λ (t : Constraints). AddsForced t.rows inside.trail.lits new.lits) c.tables-tables.ensures c.propagate_all-step.ensures.forced in
    let calm : inside.conflict ≡ false = ap (λ (e : EngineState). e.conflict) c.self.view_is ∙ c.requires in
    let proper : IsProperTrail inside.source.vars new.lits = subst (λ (n : ℕ). IsProperTrail n new.lits) fresh.vars c.len-length.ensures.proper in
    let all : AllSettled inside.source.rows new.lits = subst (λ (t : Constraints). AllSettled t.rows new.lits) c.tables-tables.ensures (c.propagate_all-step.ensures.settled c.in-Fixed.is) in
    let settled : All (λ (row : PositiveRow). IsSettled new.lits row) inside.source.rows = λ k d h. subst (λ (row : PositiveRow). IsSettled new.lits row) (get_or_default inside.source.rows k (record { terms = []; degree = 0 }) d h) (all k h) in
    let stays = IsEngine-propagated inside.source.vars inside.source.rows inside.trail.lits new.lits inside.levels.items inside.propagated inside.conflict (vec_capacity inside.levels) c.len-length.result c.self.invariant.engine calm forced proper all c.len-length.ensures.length in
    record {
      added =
          ap (λ (b : Bool). let e : EngineState = record { form = inside.source.form; vars = inside.source.vars; rows = inside.source.rows; trail = new.lits; levels = starts_of inside.levels.items; conflict = b } in e) (calm ∙ sym (ap is_conflict c.in-Fixed.is))
          ∙ ap (λ (e : EngineState). let e' : EngineState = record e { trail = new.lits; conflict = is_conflict c.propagate_all-step.result } in e') c.self.view_is;
      forced = subst (λ (e : EngineState). AddsForced e.rows e.trail new.lits) c.self.view_is forced;
      fixed = λ _. subst (λ (e : EngineState). All (λ (row : PositiveRow). IsSettled new.lits row) e.rows) c.self.view_is settled;
      solved = λ _ full. full_is_solved (record { form = inside.source.form; vars = inside.source.vars; rows = inside.source.rows; trail = new.lits; levels = starts_of inside.levels.items; conflict = inside.conflict }) c.self.invariant.up_to_date.rows_over settled full;
      conflict = λ found. absurd (let none : ⊥ = cc in none);
      no_completion = λ found. absurd (let none : ⊥ = cc in none);
      sound = sound-IsEngine inside.source.form inside.source.vars inside.source.rows new.lits inside.levels.items (Some c.len-length.result) inside.conflict inside.conflict (vec_capacity inside.levels) stays;
    }

pub returns-in-Conflict : goal.returns-in-Conflict
returns-in-Conflict g c =
    let inside = c.self.inside in
    let new = c.propagate_all-step.new.trail in
    let fresh : IsUpToDate inside.source new = subst (λ (t : Constraints). IsUpToDate t new) c.tables-tables.ensures c.propagate_all-step.ensures.up_to_date in
    let forced : AddsForced inside.source.rows inside.trail.lits new.lits = subst (λ (t : Constraints). AddsForced t.rows inside.trail.lits new.lits) c.tables-tables.ensures c.propagate_all-step.ensures.forced in
    let proper : IsProperTrail inside.source.vars new.lits = subst (λ (n : ℕ). IsProperTrail n new.lits) fresh.vars c.len-length.ensures.proper in
    let broken : IsBroken inside.source.rows new.lits = subst (λ (t : Constraints). IsBroken t.rows new.lits) c.tables-tables.ensures (c.propagate_all-step.ensures.broken c.in-Conflict.is) in
    let none = none_since_broken inside.source.rows new.lits broken in
    let stays = IsEngine-conflict inside.source.vars inside.source.rows inside.trail.lits new.lits inside.levels.items inside.propagated inside.conflict (vec_capacity inside.levels) c.self.invariant.engine forced proper none in
    record {
      added =
          ap (λ (b : Bool). let e : EngineState = record { form = inside.source.form; vars = inside.source.vars; rows = inside.source.rows; trail = new.lits; levels = starts_of inside.levels.items; conflict = b } in e) (sym (ap is_conflict c.in-Conflict.is))
          ∙ ap (λ (e : EngineState). let e' : EngineState = record e { trail = new.lits; conflict = is_conflict c.propagate_all-step.result } in e') c.self.view_is;
      forced = subst (λ (e : EngineState). AddsForced e.rows e.trail new.lits) c.self.view_is forced;
      fixed = λ fixed. absurd (let none : ⊥ = cc in none);
      solved = λ fixed. absurd (let none : ⊥ = cc in none);
      conflict = λ _. subst (λ (e : EngineState). HasNegativeSlack e.rows new.lits) c.self.view_is (negative_since inside.source.rows new.lits broken);
      no_completion = λ _. subst (λ (e : EngineState). HasNoCompletion e.rows new.lits) c.self.view_is none;
      sound = sound-IsEngine inside.source.form inside.source.vars inside.source.rows new.lits inside.levels.items inside.propagated true true (vec_capacity inside.levels) stays;
    }
