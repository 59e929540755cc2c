use Rattle.std.proofs.Common.{◌≡◌, List, ap, subst, ◌∙◌, take, length}
use Rattle.pb_normal.specs.NormalForm.{PositiveRow, NormalForm}
use Rattle.pb_trail.specs.EngineState.{EngineState}
use Rattle.pb_trail.specs.Tracked.{Tracked}
use Rattle.pb_engine.proofs.RelaxedLemmas.{if-bound-in}
use Rattle.pb_engine.proofs.engine_at.EngineAt.bound_at_hand.Goals as goal

pub returns-clause-bound : goal.returns-clause-bound
returns-clause-bound g c =
    let e = c.args.self.now in
    let s = c.trail-trail.result in
    let first : take (length s.form.rows) s.rows ≡ s.form.rows = subst (λ (k : Tracked). take (length k.form.rows) k.rows ≡ k.form.rows) c.tables.ensures c.facts.ensures.first in
    let form : s.form ≡ e.form = c.trail-trail.ensures.form ∙ ap (λ (k : EngineState). k.form) c.self.view_is in
    let rows : s.rows ≡ e.rows = c.trail-trail.ensures.rows ∙ ap (λ (k : EngineState). k.rows) c.self.view_is in
    let trail : s.trail ≡ e.trail = c.trail-trail.ensures.trail ∙ ap (λ (k : EngineState). k.trail) c.self.view_is in
    let here : take (length e.form.rows) e.rows ≡ e.form.rows = subst (λ (rs : List PositiveRow). take (length e.form.rows) rs ≡ e.form.rows) rows (subst (λ (f : NormalForm). take (length f.rows) s.rows ≡ f.rows) form first) in
    if-bound-in e s.form s.trail c.bound_at_hand.result here form trail c.bound_at_hand.ensures.bound
