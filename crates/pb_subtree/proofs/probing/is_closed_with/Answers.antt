use Rattle.std.proofs.Common.{rules, ◌≡◌, ◌++◌, ◌∷◌, [], ◌∙◌, arith, ap, sym, subst, length}
use Rattle.std.specs.Prelude.{◌<ℤ◌}
use Rattle.std.proofs.lemmas.Int.{ints}
use Rattle.pb_engine.specs.EngineState.{EngineState, is_conflict}
use Rattle.pb_engine.specs.Fixing.{IsBelowCompletions}
use Rattle.pb_engine.specs.Soundness.{assumptions}
use Rattle.pb_trail.specs.declared.propagation.Step.TheVariants.{Conflict}
use Rattle.pb_prune.specs.Solutions.{SameConstraints}
use Rattle.pb_prune.specs.Subtree.{IsClosed, IsEngineOf}
use Rattle.pb_subtree.proofs.Engines.{same_constraints, same_constraints_onward, assumed, propagated}
use Rattle.pb_prune.proofs.ClosedLemmas.{closed_over_held, none_closed}
use Rattle.pb_subtree.proofs.SearchLemmas.{same_engine}
use Rattle.pb_subtree.proofs.probing.is_closed_with.Goals as goal

pub returns-then-eq-clause-closed : goal.returns-then-eq-clause-closed
returns-then-eq-clause-closed g c _ =
    let is : c.propagate.result ≡ Conflict = search rules in
    let none = c.propagate.ensures.no_completion is in
    let same : c.propagate.new.self.rows ≡ c.assume.new.self.rows = ap (λ (x : EngineState). x.rows) c.propagate.ensures.added in
    none_closed c.args.best.now.problem c.propagate.new.self c.args.best.now.held (rw same none)

pub returns-then-eq-clause-assumptions : goal.returns-then-eq-clause-assumptions
returns-then-eq-clause-assumptions g c =
    propagated c.assume.new.self c.propagate.new.self c.propagate.new.self.trail (is_conflict c.propagate.result) c.assume.ensures.sound c.propagate.ensures.added c.propagate.ensures.forced
    ∙ assumed c.args.engine.now c.assume.new.self c.args.lit (is_conflict c.assume.result) c.requires.sound c.assume.ensures.assumed

pub returns-in_default-clause-assumptions : goal.returns-in_default-clause-assumptions
returns-in_default-clause-assumptions g c =
    propagated c.assume.new.self c.propagate.new.self c.propagate.new.self.trail (is_conflict c.propagate.result) c.assume.ensures.sound c.propagate.ensures.added c.propagate.ensures.forced
    ∙ assumed c.args.engine.now c.assume.new.self c.args.lit (is_conflict c.assume.result) c.requires.sound c.assume.ensures.assumed

pub returns-in_default-bound_at_hand-clause-assumptions : goal.returns-in_default-bound_at_hand-clause-assumptions
returns-in_default-bound_at_hand-clause-assumptions g c =
    ap (λ (e : EngineState). assumptions e) c.bound_at_hand.ensures.unchanged
    ∙ (propagated c.assume.new.self c.propagate.new.self c.propagate.new.self.trail (is_conflict c.propagate.result) c.assume.ensures.sound c.propagate.ensures.added c.propagate.ensures.forced
    ∙ assumed c.args.engine.now c.assume.new.self c.args.lit (is_conflict c.assume.result) c.requires.sound c.assume.ensures.assumed)

pub returns-clause-assumptions : goal.returns-clause-assumptions
returns-clause-assumptions g c =
    ap (λ (e : EngineState). assumptions e) c.bound_at_hand.ensures.unchanged
    ∙ (propagated c.assume.new.self c.propagate.new.self c.propagate.new.self.trail (is_conflict c.propagate.result) c.assume.ensures.sound c.propagate.ensures.added c.propagate.ensures.forced
    ∙ assumed c.args.engine.now c.assume.new.self c.args.lit (is_conflict c.assume.result) c.requires.sound c.assume.ensures.assumed)

pub returns-clause-closed : goal.returns-clause-closed
returns-clause-closed g c is =
    let over : c.in-Some.cost <ℤ c.in-Some-bound_at_hand.bound = omega (arith, ints, is) in
    let below : IsBelowCompletions c.propagate.new.self c.in-Some-bound_at_hand.bound = search rules in
    let first : SameConstraints c.args.engine.now c.assume.new.self = same_constraints c.args.engine.now c.assume.new.self (c.args.engine.now.trail ++ c.args.lit ∷ []) (c.args.engine.now.levels ++ length c.args.engine.now.trail ∷ []) (is_conflict c.assume.result) c.assume.ensures.assumed in
    let second : SameConstraints c.assume.new.self c.propagate.new.self = same_constraints c.assume.new.self c.propagate.new.self c.propagate.new.self.trail c.assume.new.self.levels (is_conflict c.propagate.result) c.propagate.ensures.added in
    let engine : IsEngineOf c.args.best.now.problem c.propagate.new.self = same_engine c.args.best.now.problem c.args.engine.now c.propagate.new.self (same_constraints_onward c.args.engine.now c.assume.new.self c.propagate.new.self first second) c.requires.engine in
    subst (λ (e : EngineState). IsClosed c.args.best.now.problem e c.args.best.now.held) (sym c.bound_at_hand.ensures.unchanged)
    (closed_over_held c.args.best.now.problem c.propagate.new.self c.args.best.now.held c.in-Some.cost c.in-Some-bound_at_hand.bound engine c.cost.ensures.sound (sym c.in-Some.ensures.value) below over)
