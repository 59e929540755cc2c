use Rattle.std.proofs.Common.{◌≡◌, ℕ, ◌<◌, ◌≤◌, List, length, take, get_or, Some, Option, false, ap, sym, subst, ◌∙◌, arith}
use Rattle.std.specs.Vec.{vec_capacity}
use Rattle.std.proofs.lemmas.List.{take_all}
use Rattle.pb_inst.specs.Literal.{Literal}
use Rattle.pb_normal.specs.NormalForm.{PositiveRow, NormalForm}
use Rattle.pb_trail.specs.declared.propagator.Level.{Level}
use Rattle.pb_rows.specs.Constraints.{Constraints}
use Rattle.pb_trail.specs.Tracked.{IsUpToDate}
use Rattle.pb_trail.specs.EngineState.{EngineState, trail_before}
use Rattle.pb_trail.specs.Levels.{starts_of, IsEngine}
use Rattle.pb_trail.proofs.EngineLemmas.{length-starts_of, starts_of-take, start_at, IsEngine-undo, sound-IsEngine}
use Rattle.pb_trail.specs.Soundness.{IsSoundTrail}
use Rattle.std.proofs.Math.ListN.{get_or-eq_default}
use Rattle.pb_trail.proofs.propagator.Propagator.undo_to.Goals as goal

abbrev state : NormalForm → ℕ → List PositiveRow → List Literal → List ℕ → EngineState
state form vars rows trail levels = record { form = form; vars = vars; rows = rows; trail = trail; levels = levels; conflict = false }

pub returns-then-level-len-clause-undone : goal.returns-then-level-len-clause-undone
returns-then-level-len-clause-undone g c =
    let inside = c.self.inside in
    let now = c.args.self.now in
    let count = length-starts_of inside.levels.items in
    let view = ap (λ (e : EngineState). length e.levels) c.self.view_is in
    let past : length now.levels ≤ c.args.level = omega (arith, inside.levels.ok.0) in
    let place : get_or now.levels c.args.level (length now.trail) ≡ length now.trail = get_or-eq_default now.levels (length now.trail) past in
    let trail : trail_before now c.args.level ≡ now.trail = ap (λ (n : ℕ). take n now.trail) place ∙ take_all (length now.trail) now.trail (omega arith) in
    let levels : take c.args.level now.levels ≡ now.levels = take_all c.args.level now.levels past in
    ap (λ (e : EngineState). state e.form e.vars e.rows e.trail e.levels) c.self.view_is
    ∙ (ap (λ (t : List Literal). state now.form now.vars now.rows t now.levels) (sym trail)
    ∙ ap (λ (ls : List ℕ). state now.form now.vars now.rows (trail_before now c.args.level) ls) (sym levels))

pub index-requires : goal.index-requires
index-requires g c =
    let inside = c.self.inside in
    let count = length-starts_of inside.levels.items in
    let view = ap (λ (e : EngineState). length e.levels) c.self.view_is in
    omega (arith, inside.levels.ok.0, c.requires)

some_is : (a b : ℕ) → ◌≡◌ {A = Option ℕ} (Some a) (Some b) → b ≡ a
some_is a b h = cc

pub invariant_of-self-2 : goal.invariant_of-self-2
invariant_of-self-2 g c =
    let inside = c.self.inside in
    let count = length-starts_of inside.levels.items in
    let view = ap (λ (e : EngineState). length e.levels) c.self.view_is in
    let below : c.args.level < length inside.levels.items = omega (arith, inside.levels.ok.0, c.requires) in
    let stays = IsEngine-undo inside.source.vars inside.source.rows inside.trail.lits inside.levels.items inside.propagated inside.conflict (vec_capacity inside.levels) c.args.level c.index.result.now c.self.invariant.engine below c.index.ensures c.known_if-self-inside-2.result
    (λ from is. (let h = c.known_if-self-inside-2.ensures from is in (some_is c.index.result.now.start from h.1, h.0))) in
    let P : List Literal → Type 0 = λ t. IsEngine inside.source.vars inside.source.rows t c.truncate.new.self.items c.known_if-self-inside-2.result false (vec_capacity c.truncate.new.self) in
    let Q : List Level → Type 0 = λ ls. IsEngine inside.source.vars inside.source.rows (take c.index.result.now.start inside.trail.lits) ls c.known_if-self-inside-2.result false (vec_capacity inside.levels) in
    let R : ℕ → Type 0 = λ n. IsEngine inside.source.vars inside.source.rows (take c.index.result.now.start inside.trail.lits) c.truncate.new.self.items c.known_if-self-inside-2.result false n in
    record { up_to_date = subst (λ (t : Constraints). IsUpToDate t c.cut.new.self) c.tables.ensures c.cut.ensures.up_to_date; engine = subst P (sym c.cut.ensures.left) (subst R (sym c.truncate.ensures.capacity) (subst Q (sym c.truncate.ensures.items) stays)) }

pub returns-clause-undone : goal.returns-clause-undone
returns-clause-undone g c =
    let inside = c.self.inside in
    let now = c.args.self.now in
    let count = length-starts_of inside.levels.items in
    let view = ap (λ (e : EngineState). length e.levels) c.self.view_is in
    let below : c.args.level < length inside.levels.items = omega (arith, inside.levels.ok.0, c.requires) in
    let place : get_or (starts_of inside.levels.items) c.args.level (length inside.trail.lits) ≡ c.index.result.now.start =
    start_at inside.levels.items c.args.level (length inside.trail.lits) c.index.result.now below ∙ ap (λ (l : Level). l.start) (sym c.index.ensures) in
    let levels : starts_of c.truncate.new.self.items ≡ take c.args.level (starts_of inside.levels.items) = ap starts_of c.truncate.ensures.items ∙ starts_of-take inside.levels.items c.args.level in
    ap (λ (t : List Literal). state inside.source.form inside.source.vars inside.source.rows t (starts_of c.truncate.new.self.items)) c.cut.ensures.left
    ∙ (ap (λ (ls : List ℕ). state inside.source.form inside.source.vars inside.source.rows (take c.index.result.now.start inside.trail.lits) ls) levels
    ∙ (ap (λ (n : ℕ). state inside.source.form inside.source.vars inside.source.rows (take n inside.trail.lits) (take c.args.level (starts_of inside.levels.items))) (sym place)
    ∙ ap (λ (e : EngineState). state e.form e.vars e.rows (trail_before e c.args.level) (take c.args.level e.levels)) c.self.view_is))

pub returns-then-level-len-clause-sound : goal.returns-then-level-len-clause-sound
returns-then-level-len-clause-sound g c =
    let inside = c.self.inside in
    sound-IsEngine inside.source.form inside.source.vars inside.source.rows inside.trail.lits inside.levels.items inside.propagated inside.conflict false (vec_capacity inside.levels) c.self.invariant.engine

pub returns-clause-sound : goal.returns-clause-sound
returns-clause-sound g c =
    let inside = c.self.inside in
    let count = length-starts_of inside.levels.items in
    let view = ap (λ (e : EngineState). length e.levels) c.self.view_is in
    let below : c.args.level < length inside.levels.items = omega (arith, inside.levels.ok.0, c.requires) in
    let stays = IsEngine-undo inside.source.vars inside.source.rows inside.trail.lits inside.levels.items inside.propagated inside.conflict (vec_capacity inside.levels) c.args.level c.index.result.now c.self.invariant.engine below c.index.ensures c.known_if-self-inside-2.result
    (λ from is. (let h = c.known_if-self-inside-2.ensures from is in (some_is c.index.result.now.start from h.1, h.0))) in
    let P : List Literal → Type 0 = λ t. IsSoundTrail (record { form = inside.source.form; vars = inside.source.vars; rows = inside.source.rows; trail = t; levels = starts_of c.truncate.new.self.items; conflict = false }) in
    let Q : List Level → Type 0 = λ ls. IsSoundTrail (record { form = inside.source.form; vars = inside.source.vars; rows = inside.source.rows; trail = take c.index.result.now.start inside.trail.lits; levels = starts_of ls; conflict = false }) in
    subst P (sym c.cut.ensures.left) (subst Q (sym c.truncate.ensures.items) (sound-IsEngine inside.source.form inside.source.vars inside.source.rows (take c.index.result.now.start inside.trail.lits) (take c.args.level inside.levels.items) c.known_if-self-inside-2.result false false (vec_capacity inside.levels) stays))
