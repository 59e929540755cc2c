use Rattle.std.proofs.Common.{◌≡◌, List, ap, sym, subst, ◌∙◌, take, length}
use Rattle.std.specs.Prelude.{ℤ, IfSome}
use Rattle.std.proofs.lemmas.Int.{to_z-of_z}
use mir.Val.{to_z, of_z}
use Rattle.pb_inst.proofs.NumberWidth.{number_width}
use Rattle.pb_normal.specs.NormalForm.{PositiveRow, NormalForm}
use Rattle.pb_trail.specs.EngineState.{EngineState}
use Rattle.pb_trail.specs.Tracked.{Tracked}
use Rattle.pb_lagrange.specs.Multipliers.{IsFixed}
use Rattle.pb_engine.proofs.RelaxedLemmas.{if-fixed-in, if-below-in}
use Rattle.pb_engine.proofs.engine_at.EngineAt.fixed_literal.Goals as goal

pub returns-clause-fixed : goal.returns-clause-fixed
returns-clause-fixed g c =
    let e = c.args.self.now in
    let s = c.trail-trail.result in
    let first : take (length s.form.rows) s.rows ≡ s.form.rows = subst (λ (k : Tracked). take (length k.form.rows) k.rows ≡ k.form.rows) c.tables.ensures c.facts.ensures.first in
    let count : s.vars ≡ s.form.vars = subst (λ (k : Tracked). k.vars ≡ k.form.vars) c.tables.ensures c.facts.ensures.form in
    let form : s.form ≡ e.form = c.trail-trail.ensures.form ∙ ap (λ (k : EngineState). k.form) c.self.view_is in
    let rows : s.rows ≡ e.rows = c.trail-trail.ensures.rows ∙ ap (λ (k : EngineState). k.rows) c.self.view_is in
    let trail : s.trail ≡ e.trail = c.trail-trail.ensures.trail ∙ ap (λ (k : EngineState). k.trail) c.self.view_is in
    let vars : s.vars ≡ e.vars = c.trail-trail.ensures.vars ∙ ap (λ (k : EngineState). k.vars) c.self.view_is in
    let here : take (length e.form.rows) e.rows ≡ e.form.rows = subst (λ (rs : List PositiveRow). take (length e.form.rows) rs ≡ e.form.rows) rows (subst (λ (f : NormalForm). take (length f.rows) s.rows ≡ f.rows) form first) in
    let given : to_z number_width (of_z number_width c.args.limit) ≡ c.args.limit = to_z-of_z number_width c.args.limit (record { sfits = c.ranges.limit.sfits }) in
    let fixed : IfSome c.fixed_literal.result (λ f. IsFixed s.form s.trail c.args.limit f.lit) = subst (λ (z : ℤ). IfSome c.fixed_literal.result (λ f. IsFixed s.form s.trail z f.lit)) given c.fixed_literal.ensures.fixed in
    if-fixed-in e s.form s.trail c.args.limit c.fixed_literal.result here (sym vars ∙ (count ∙ ap (λ (f : NormalForm). f.vars) form)) form trail fixed

pub returns-clause-bound : goal.returns-clause-bound
returns-clause-bound g c =
    let e = c.args.self.now in
    let s = c.trail-trail.result in
    let first : take (length s.form.rows) s.rows ≡ s.form.rows = subst (λ (k : Tracked). take (length k.form.rows) k.rows ≡ k.form.rows) c.tables.ensures c.facts.ensures.first in
    let form : s.form ≡ e.form = c.trail-trail.ensures.form ∙ ap (λ (k : EngineState). k.form) c.self.view_is in
    let rows : s.rows ≡ e.rows = c.trail-trail.ensures.rows ∙ ap (λ (k : EngineState). k.rows) c.self.view_is in
    let trail : s.trail ≡ e.trail = c.trail-trail.ensures.trail ∙ ap (λ (k : EngineState). k.trail) c.self.view_is in
    let here : take (length e.form.rows) e.rows ≡ e.form.rows = subst (λ (rs : List PositiveRow). take (length e.form.rows) rs ≡ e.form.rows) rows (subst (λ (f : NormalForm). take (length f.rows) s.rows ≡ f.rows) form first) in
    if-below-in e s.form s.trail c.fixed_literal.result here form trail c.fixed_literal.ensures.bound
