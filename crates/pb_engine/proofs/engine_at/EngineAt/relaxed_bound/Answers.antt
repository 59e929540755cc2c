use Rattle.std.proofs.Common.{rules, ◌≡◌, ap, sym, subst, ◌⊎◌, ◌∙◌, take, length}
use Rattle.std.specs.Prelude.{ℤ, ◌≤ℤ◌}
use Rattle.std.proofs.lemmas.Int.{to_z-of_z}
use mir.Val.{to_z, of_z}
use Rattle.pb_inst.proofs.NumberWidth.{number_width}
use Rattle.pb_trail.specs.Completion.{IsLowerBound}
use Rattle.pb_trail.specs.EngineState.{EngineState}
use Rattle.pb_trail.specs.Tracked.{Tracked}
use Rattle.pb_lagrange.specs.Multipliers.{IsBelowCosts}
use Rattle.pb_engine.proofs.RelaxedLemmas.{raised-in}
use Rattle.pb_engine.proofs.engine_at.EngineAt.relaxed_bound.Goals as goal

pub returns-clause-bound : goal.returns-clause-bound
returns-clause-bound g c =
    let e = c.args.self.now in
    let s = c.trail-trail.result in
    let z = c.raise-raised.result in
    let back : to_z number_width (of_z number_width z) ≡ z = to_z-of_z number_width z (record { sfits = c.raise-raised.type_inv }) in
    let given : to_z number_width (of_z number_width c.args.bound) ≡ c.args.bound = to_z-of_z number_width c.args.bound (record { sfits = c.ranges.bound.sfits }) in
    let first : take (length s.form.rows) s.rows ≡ s.form.rows = subst (λ (k : Tracked). take (length k.form.rows) k.rows ≡ k.form.rows) c.tables.ensures c.facts.ensures.first in
    let answer : (z ≡ c.args.bound) ⊎ ((c.args.bound ≤ℤ z) × IsBelowCosts s.form s.trail z) = subst (λ (b : ℤ). (z ≡ b) ⊎ ((b ≤ℤ z) × IsBelowCosts s.form s.trail z)) given c.raise-raised.ensures.bound in
    subst (λ (n : ℤ). IsLowerBound e.form e.rows e.trail n) (sym back)
    (raised-in e s c.args.bound z first (c.trail-trail.ensures.form ∙ ap (λ (k : EngineState). k.form) c.self.view_is) (c.trail-trail.ensures.rows ∙ ap (λ (k : EngineState). k.rows) c.self.view_is) (c.trail-trail.ensures.trail ∙ ap (λ (k : EngineState). k.trail) c.self.view_is) c.requires answer)

pub invariant_of-self-2 : goal.invariant_of-self-2
invariant_of-self-2 g c =
    let e = c.self.inside.propagator in
    let s = c.trail-trail.result in
    let z = c.raise-raised.result in
    let back : to_z number_width (of_z number_width z) ≡ z = to_z-of_z number_width z (record { sfits = c.raise-raised.type_inv }) in
    let given : to_z number_width (of_z number_width c.args.bound) ≡ c.args.bound = to_z-of_z number_width c.args.bound (record { sfits = c.ranges.bound.sfits }) in
    let lower : IsLowerBound e.form e.rows e.trail c.args.bound = subst (λ (k : EngineState). IsLowerBound k.form k.rows k.trail c.args.bound) (sym c.self.view_is) c.requires in
    let first : take (length s.form.rows) s.rows ≡ s.form.rows = subst (λ (k : Tracked). take (length k.form.rows) k.rows ≡ k.form.rows) c.tables.ensures c.facts.ensures.first in
    let answer : (z ≡ c.args.bound) ⊎ ((c.args.bound ≤ℤ z) × IsBelowCosts s.form s.trail z) = subst (λ (b : ℤ). (z ≡ b) ⊎ ((b ≤ℤ z) × IsBelowCosts s.form s.trail z)) given c.raise-raised.ensures.bound in
    let raised = subst (λ (n : ℤ). IsLowerBound e.form e.rows e.trail n) (sym back) (raised-in e s c.args.bound z first c.trail-trail.ensures.form c.trail-trail.ensures.rows c.trail-trail.ensures.trail lower answer) in
    (c.self.invariant.0, search rules, raised.below_costs)
