use Rattle.std.proofs.Common.{◌≡◌, ◌<◌, ◌≤◌, length, get_or, ap, sym, ◌∙◌, arith}
use Rattle.std.proofs.Math.ListN.{get_or-eq_default}
use Rattle.pb_trail.specs.declared.propagator.Level.{Level}
use Rattle.pb_trail.specs.EngineState.{EngineState}
use Rattle.pb_trail.specs.Levels.{starts_of}
use Rattle.pb_trail.proofs.EngineLemmas.{length-starts_of, start_at}
use Rattle.pb_trail.proofs.propagator.Propagator.start_of.Goals as goal

pub returns-then-level-len : goal.returns-then-level-len
returns-then-level-len g c =
    let inside = c.self.inside in
    let below : c.args.level < length inside.levels.items = omega (arith, inside.levels.ok.0) in
    let place : get_or (starts_of inside.levels.items) c.args.level (length inside.trail.lits) ≡ c.index.result.now.start =
    start_at inside.levels.items c.args.level (length inside.trail.lits) c.index.result.now below ∙ ap (λ (l : Level). l.start) (sym c.index.ensures) in
    sym place ∙ ap (λ (e : EngineState). get_or e.levels c.args.level (length e.trail)) c.self.view_is

pub returns-else-level-len : goal.returns-else-level-len
returns-else-level-len g c =
    let inside = c.self.inside in
    let count = length-starts_of inside.levels.items in
    let past : length (starts_of inside.levels.items) ≤ c.args.level = omega (arith, inside.levels.ok.0) in
    c.len-else-level-len.ensures.length ∙ (sym (get_or-eq_default (starts_of inside.levels.items) (length inside.trail.lits) past) ∙ ap (λ (e : EngineState). get_or e.levels c.args.level (length e.trail)) c.self.view_is)
