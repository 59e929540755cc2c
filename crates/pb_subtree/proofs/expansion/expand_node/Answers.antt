use Rattle.std.proofs.Common.{rules, ◌≡◌, ◌∙◌, ◌≤◌, ℕ, Option, ap, inl, refl, subst, sym}
use Rattle.std.specs.Prelude.{IfSome}
use Rattle.pb_inst.specs.Literal.{Literal}
use Rattle.pb_inst.specs.declared.limits.TheConstants.{MAX_VARS}
use Rattle.pb_engine.specs.EngineState.{EngineState}
use Rattle.pb_engine.specs.Free.{IsFree}
use Rattle.pb_engine.specs.Soundness.{IsFull, IsSolved, IsSoundTrail}
use Rattle.pb_trail.specs.declared.propagation.Step.TheVariants.{Conflict, Fixed}
use Rattle.pb_prune.specs.AgreedPrefix.{KnowsHeldPrefix}
use Rattle.pb_prune.specs.Subtree.{IsClosed, IsOpenOnOneSide}
use Rattle.pb_prune.proofs.AgreedPrefixLemmas.{knows_added}
use Rattle.pb_prune.proofs.ClosedLemmas.{none_closed}
use Rattle.pb_subtree.specs.declared.search_state.SearchState.{SearchState}
use Rattle.pb_subtree.specs.SearchState.{SameBranchesAndRoom, SameBranches}
use Rattle.pb_subtree.proofs.DivingLemmas.{same_branches_itself}
use Rattle.pb_subtree.proofs.ExpandLemmas.{node_propagated, beside_left, leaf_left, nothing_left, one_side_left, some_left}
use Rattle.pb_control.proofs.BudgetLemmas.{left_itself}
use Rattle.pb_subtree.proofs.GoesOnLemmas.{goes_itself}
use Rattle.pb_subtree.proofs.SearchLemmas.{expanded_state, same_engine}
use Rattle.pb_subtree.proofs.expansion.expand_node.Goals as goal

pub returns-then-conflict-clause-expanded : goal.returns-then-conflict-clause-expanded
returns-then-conflict-clause-expanded g c =
    nothing_left _ c.args.state.now c.args.state.now c.args.best.now (same_branches_itself c.args.state.now) c.requires.sound (none_closed c.args.best.now.problem c.args.state.now.engine c.args.best.now.held (c.conflict.ensures.no_completion c.if-conflict.true))

pub returns-then-eq-clause-expanded : goal.returns-then-eq-clause-expanded
returns-then-eq-clause-expanded g c =
    let went = node_propagated c.args.state.now c.note_propagated.new.state c.propagate-step.new.self c.propagate-step.result c.requires.sound c.propagate-step.ensures.added c.propagate-step.ensures.forced c.propagate-step.ensures.no_completion c.propagate-step.ensures.solved c.propagate-step.ensures.sound c.note_propagated.ensures.engine c.note_propagated.ensures.beside in
    let is : c.propagate-step.result ≡ Conflict = search rules in
    let t : SearchState _ = c.note_propagated.new.state in
    let u : SearchState _ = record t { order = c.learn.new.order } in
    nothing_left _ c.args.state.now u c.args.best.now (beside_left c.args.state.now t u went.same_branches refl (record { branches = refl; room = refl; returns = refl })) went.sound
    (none_closed c.args.best.now.problem t.engine c.args.best.now.held (went.no_completion is))

pub returns-then-conflict-clause-goes_on : goal.returns-then-conflict-clause-goes_on
returns-then-conflict-clause-goes_on g c = goes_itself _ _ g.met.S.Share.keeps_itself _ _ _ _ _ c.requires.known (left_itself c.args.run.now.left)

pub returns-then-eq-clause-goes_on : goal.returns-then-eq-clause-goes_on
returns-then-eq-clause-goes_on g c =
    let went = node_propagated c.args.state.now c.note_propagated.new.state c.propagate-step.new.self c.propagate-step.result c.requires.sound c.propagate-step.ensures.added c.propagate-step.ensures.forced c.propagate-step.ensures.no_completion c.propagate-step.ensures.solved c.propagate-step.ensures.sound c.note_propagated.ensures.engine c.note_propagated.ensures.beside in
    goes_itself _ _ g.met.S.Share.keeps_itself _ _ _ _ _
    (knows_added c.args.state.now.engine.rows c.args.state.now.engine.trail c.note_propagated.new.state.engine.trail c.args.best.now.held c.args.run.now.agreed went.forced c.requires.known) (left_itself c.args.run.now.left)

pub classify_node-pruning-requires-clause-engine : goal.classify_node-pruning-requires-clause-engine
classify_node-pruning-requires-clause-engine g c =
    let went = node_propagated c.args.state.now c.note_propagated.new.state c.propagate-step.new.self c.propagate-step.result c.requires.sound c.propagate-step.ensures.added c.propagate-step.ensures.forced c.propagate-step.ensures.no_completion c.propagate-step.ensures.solved c.propagate-step.ensures.sound c.note_propagated.ensures.engine c.note_propagated.ensures.beside in
    same_engine c.args.best.now.problem c.args.state.now.engine c.note_propagated.new.state.engine went.same_branches.constraints c.requires.state.engine

pub classify_node-pruning-requires-clause-known : goal.classify_node-pruning-requires-clause-known
classify_node-pruning-requires-clause-known g c =
    let went = node_propagated c.args.state.now c.note_propagated.new.state c.propagate-step.new.self c.propagate-step.result c.requires.sound c.propagate-step.ensures.added c.propagate-step.ensures.forced c.propagate-step.ensures.no_completion c.propagate-step.ensures.solved c.propagate-step.ensures.sound c.note_propagated.ensures.engine c.note_propagated.ensures.beside in
    knows_added c.args.state.now.engine.rows c.args.state.now.engine.trail c.note_propagated.new.state.engine.trail c.args.best.now.held c.args.run.now.agreed went.forced c.requires.known

pub returns-then-eq-2-clause-expanded : goal.returns-then-eq-2-clause-expanded
returns-then-eq-2-clause-expanded g c =
    let went = node_propagated c.args.state.now c.note_propagated.new.state c.propagate-step.new.self c.propagate-step.result c.requires.sound c.propagate-step.ensures.added c.propagate-step.ensures.forced c.propagate-step.ensures.no_completion c.propagate-step.ensures.solved c.propagate-step.ensures.sound c.note_propagated.ensures.engine c.note_propagated.ensures.beside in
    let t : SearchState _ = c.note_propagated.new.state in
    let u : SearchState _ = record c.note_propagated.new.state { engine = c.classify_node-pruning.new.engine; order = c.learn_gap.new.order } in
    nothing_left _ c.args.state.now u c.args.best.now (beside_left c.args.state.now t u went.same_branches c.classify_node-pruning.ensures.unchanged (record { branches = refl; room = refl; returns = refl }))
    (subst (λ (e : EngineState). IsSoundTrail e) (sym c.classify_node-pruning.ensures.unchanged) went.sound)
    (subst (λ (e : EngineState). IsClosed c.args.best.now.problem e c.args.best.now.held) (sym c.classify_node-pruning.ensures.unchanged) (c.classify_node-pruning.ensures.closed (search rules)))

pub returns-in-Some-clause-expanded : goal.returns-in-Some-clause-expanded
returns-in-Some-clause-expanded g c =
    let went = node_propagated c.args.state.now c.note_propagated.new.state c.propagate-step.new.self c.propagate-step.result c.requires.sound c.propagate-step.ensures.added c.propagate-step.ensures.forced c.propagate-step.ensures.no_completion c.propagate-step.ensures.solved c.propagate-step.ensures.sound c.note_propagated.ensures.engine c.note_propagated.ensures.beside in
    let t : SearchState _ = c.note_propagated.new.state in
    let u : SearchState _ = record c.note_propagated.new.state { engine = c.classify_node-pruning.new.engine; order = c.learn_gap.new.order } in
    let fixed : c.propagate-step.result ≡ Fixed = search rules in
    let here : IsOpenOnOneSide c.args.best.now.problem t.engine c.args.best.now.held c.in-Some.lit =
    subst (λ (o : Option Literal). IfSome o (λ l. IsOpenOnOneSide c.args.best.now.problem t.engine c.args.best.now.held l)) c.in-Some.is c.classify_node-pruning.ensures.fixed in
    let side : IsOpenOnOneSide c.args.best.now.problem u.engine c.args.best.now.held c.in-Some.lit =
    subst (λ (e : EngineState). IsOpenOnOneSide c.args.best.now.problem e c.args.best.now.held c.in-Some.lit) (sym c.classify_node-pruning.ensures.unchanged) here in
    one_side_left _ c.args.state.now u c.args.best.now c.one_sided.result c.in-Some.lit c.one_sided.ensures.literal
    (beside_left c.args.state.now t u went.same_branches c.classify_node-pruning.ensures.unchanged (record { branches = refl; room = refl; returns = refl }))
    (subst (λ (e : EngineState). IsSoundTrail e) (sym c.classify_node-pruning.ensures.unchanged) went.sound)
    (ap (λ (e : EngineState). e.conflict) c.classify_node-pruning.ensures.unchanged ∙ went.fixed fixed) side

pub work_at_root-requires-clause-engine : goal.work_at_root-requires-clause-engine
work_at_root-requires-clause-engine g c =
    let went = node_propagated c.args.state.now c.note_propagated.new.state c.propagate-step.new.self c.propagate-step.result c.requires.sound c.propagate-step.ensures.added c.propagate-step.ensures.forced c.propagate-step.ensures.no_completion c.propagate-step.ensures.solved c.propagate-step.ensures.sound c.note_propagated.ensures.engine c.note_propagated.ensures.beside in
    let t : SearchState _ = c.note_propagated.new.state in
    let u : SearchState _ = record c.note_propagated.new.state { engine = c.classify_node-pruning.new.engine; order = c.learn_gap.new.order } in
    (expanded_state c.args.best.now.problem c.args.state.now u (beside_left c.args.state.now t u went.same_branches c.classify_node-pruning.ensures.unchanged (record { branches = refl; room = refl; returns = refl })) c.requires.state).engine

pub work_at_root-requires-clause-no_conflict : goal.work_at_root-requires-clause-no_conflict
work_at_root-requires-clause-no_conflict g c =
    let went = node_propagated c.args.state.now c.note_propagated.new.state c.propagate-step.new.self c.propagate-step.result c.requires.sound c.propagate-step.ensures.added c.propagate-step.ensures.forced c.propagate-step.ensures.no_completion c.propagate-step.ensures.solved c.propagate-step.ensures.sound c.note_propagated.ensures.engine c.note_propagated.ensures.beside in
    let fixed : c.propagate-step.result ≡ Fixed = search rules in
    ap (λ (e : EngineState). e.conflict) c.classify_node-pruning.ensures.unchanged ∙ went.fixed fixed

pub work_at_root-requires-clause-sound : goal.work_at_root-requires-clause-sound
work_at_root-requires-clause-sound g c =
    let went = node_propagated c.args.state.now c.note_propagated.new.state c.propagate-step.new.self c.propagate-step.result c.requires.sound c.propagate-step.ensures.added c.propagate-step.ensures.forced c.propagate-step.ensures.no_completion c.propagate-step.ensures.solved c.propagate-step.ensures.sound c.note_propagated.ensures.engine c.note_propagated.ensures.beside in
    subst (λ (e : EngineState). IsSoundTrail e) (sym c.classify_node-pruning.ensures.unchanged) went.sound

-- where the search stands after the work at the root, and that its engine is the one that propagated
record IsWorked {C : Type 0} (s t w : SearchState C) : Type 0 where
  engine : w.engine ≡ t.engine
  same : SameBranches s w
  sound : IsSoundTrail w.engine

worked : {C : Type 0} (s t u w : SearchState C) → SameBranches s t → IsSoundTrail t.engine → u.engine ≡ t.engine → SameBranchesAndRoom t u → w.engine ≡ u.engine → SameBranchesAndRoom u w → IsWorked s t w
worked s t u w same sound first beside second later = record {
  engine = second ∙ first;
  same = beside_left s u w (beside_left s t u same first beside) second later;
  sound = subst (λ (e : EngineState). IsSoundTrail e) (sym (second ∙ first)) sound;
}

pub returns-in-Some-work_at_root-clause-expanded : goal.returns-in-Some-work_at_root-clause-expanded
returns-in-Some-work_at_root-clause-expanded g c =
    let went = node_propagated c.args.state.now c.note_propagated.new.state c.propagate-step.new.self c.propagate-step.result c.requires.sound c.propagate-step.ensures.added c.propagate-step.ensures.forced c.propagate-step.ensures.no_completion c.propagate-step.ensures.solved c.propagate-step.ensures.sound c.note_propagated.ensures.engine c.note_propagated.ensures.beside in
    let u : SearchState _ = record c.note_propagated.new.state { engine = c.classify_node-pruning.new.engine; order = c.learn_gap.new.order } in
    let t : SearchState _ = c.note_propagated.new.state in
    let w : SearchState _ = c.work_at_root.new.state in
    let fixed : c.propagate-step.result ≡ Fixed = search rules in
    let there = worked c.args.state.now t u w went.same_branches went.sound c.classify_node-pruning.ensures.unchanged (record { branches = refl; room = refl; returns = refl }) c.work_at_root.ensures.engine c.work_at_root.ensures.beside in
    one_side_left _ c.args.state.now w c.args.best.now c.one_sided-in-Some-work_at_root.result c.in-Some-work_at_root.lit c.one_sided-in-Some-work_at_root.ensures.literal there.same there.sound
    (ap (λ (e : EngineState). e.conflict) there.engine ∙ went.fixed fixed) c.in-Some-work_at_root.ensures.found

pub choose-requires-clause-few : goal.choose-requires-clause-few
choose-requires-clause-few g c =
    let went = node_propagated c.args.state.now c.note_propagated.new.state c.propagate-step.new.self c.propagate-step.result c.requires.sound c.propagate-step.ensures.added c.propagate-step.ensures.forced c.propagate-step.ensures.no_completion c.propagate-step.ensures.solved c.propagate-step.ensures.sound c.note_propagated.ensures.engine c.note_propagated.ensures.beside in
    let u : SearchState _ = record c.note_propagated.new.state { engine = c.classify_node-pruning.new.engine; order = c.learn_gap.new.order } in
    let w : SearchState _ = c.work_at_root.new.state in
    let there = worked c.args.state.now c.note_propagated.new.state u w went.same_branches went.sound c.classify_node-pruning.ensures.unchanged (record { branches = refl; room = refl; returns = refl }) c.work_at_root.ensures.engine c.work_at_root.ensures.beside in
    let made = expanded_state c.args.best.now.problem c.args.state.now w there.same c.requires.state in
    subst (λ (n : ℕ). n ≤ MAX_VARS) (sym made.engine.vars) made.few_variables

pub choose-requires-clause-candidate : goal.choose-requires-clause-candidate
choose-requires-clause-candidate g c =
    let went = node_propagated c.args.state.now c.note_propagated.new.state c.propagate-step.new.self c.propagate-step.result c.requires.sound c.propagate-step.ensures.added c.propagate-step.ensures.forced c.propagate-step.ensures.no_completion c.propagate-step.ensures.solved c.propagate-step.ensures.sound c.note_propagated.ensures.engine c.note_propagated.ensures.beside in
    let u : SearchState _ = record c.note_propagated.new.state { engine = c.classify_node-pruning.new.engine; order = c.learn_gap.new.order } in
    let w : SearchState _ = c.work_at_root.new.state in
    let there = worked c.args.state.now c.note_propagated.new.state u w went.same_branches went.sound c.classify_node-pruning.ensures.unchanged (record { branches = refl; room = refl; returns = refl }) c.work_at_root.ensures.engine c.work_at_root.ensures.beside in
    let made = expanded_state c.args.best.now.problem c.args.state.now w there.same c.requires.state in
    made.candidate ∙ sym made.engine.vars

pub returns-in-Some-choose-clause-expanded : goal.returns-in-Some-choose-clause-expanded
returns-in-Some-choose-clause-expanded g c =
    let went = node_propagated c.args.state.now c.note_propagated.new.state c.propagate-step.new.self c.propagate-step.result c.requires.sound c.propagate-step.ensures.added c.propagate-step.ensures.forced c.propagate-step.ensures.no_completion c.propagate-step.ensures.solved c.propagate-step.ensures.sound c.note_propagated.ensures.engine c.note_propagated.ensures.beside in
    let u : SearchState _ = record c.note_propagated.new.state { engine = c.classify_node-pruning.new.engine; order = c.learn_gap.new.order } in
    let t : SearchState _ = c.note_propagated.new.state in
    let w : SearchState _ = c.work_at_root.new.state in
    let z : SearchState _ = c.choose.new.state in
    let fixed : c.propagate-step.result ≡ Fixed = search rules in
    let there = worked c.args.state.now t u w went.same_branches went.sound c.classify_node-pruning.ensures.unchanged (record { branches = refl; room = refl; returns = refl }) c.work_at_root.ensures.engine c.work_at_root.ensures.beside in
    let free : IsFree w.engine c.in-Some-choose.branch.lit = record { variable = c.in-Some-choose.ensures.free.0; no_value = c.in-Some-choose.ensures.free.1; no_conflict = ap (λ (e : EngineState). e.conflict) there.engine ∙ went.fixed fixed } in
    some_left _ c.args.state.now z c.args.best.now c.in-Some-choose.branch (beside_left c.args.state.now w z there.same c.choose.ensures.engine c.choose.ensures.beside)
    (subst (λ (e : EngineState). IsSoundTrail e) (sym c.choose.ensures.engine) there.sound)
    (subst (λ (e : EngineState). IsFree e c.in-Some-choose.branch.lit) (sym c.choose.ensures.engine) free) (inl c.in-Some-choose.ensures.fresh)

pub take_leaf-requires : goal.take_leaf-requires
take_leaf-requires g c =
    let went = node_propagated c.args.state.now c.note_propagated.new.state c.propagate-step.new.self c.propagate-step.result c.requires.sound c.propagate-step.ensures.added c.propagate-step.ensures.forced c.propagate-step.ensures.no_completion c.propagate-step.ensures.solved c.propagate-step.ensures.sound c.note_propagated.ensures.engine c.note_propagated.ensures.beside in
    let u : SearchState _ = record c.note_propagated.new.state { engine = c.classify_node-pruning.new.engine; order = c.learn_gap.new.order } in
    let w : SearchState _ = c.work_at_root.new.state in
    let z : SearchState _ = c.choose.new.state in
    let there = worked c.args.state.now c.note_propagated.new.state u w went.same_branches went.sound c.classify_node-pruning.ensures.unchanged (record { branches = refl; room = refl; returns = refl }) c.work_at_root.ensures.engine c.work_at_root.ensures.beside in
    let made = expanded_state c.args.best.now.problem c.args.state.now z (beside_left c.args.state.now w z there.same c.choose.ensures.engine c.choose.ensures.beside) c.requires.state in
    let fixed : c.propagate-step.result ≡ Fixed = search rules in
    let full : IsFull w.engine = search rules in
    record {
      engine = made.engine;
      room = made.candidate;
      full = subst (λ (e : EngineState). IsFull e) (sym c.choose.ensures.engine) full;
      solved = subst (λ (e : EngineState). IsSolved e) (sym (c.choose.ensures.engine ∙ there.engine)) (went.solved fixed (subst (λ (e : EngineState). IsFull e) there.engine full));
      sound = subst (λ (e : EngineState). IsSoundTrail e) (sym c.choose.ensures.engine) there.sound;
    }

pub returns-clause-expanded : goal.returns-clause-expanded
returns-clause-expanded g c =
    let went = node_propagated c.args.state.now c.note_propagated.new.state c.propagate-step.new.self c.propagate-step.result c.requires.sound c.propagate-step.ensures.added c.propagate-step.ensures.forced c.propagate-step.ensures.no_completion c.propagate-step.ensures.solved c.propagate-step.ensures.sound c.note_propagated.ensures.engine c.note_propagated.ensures.beside in
    let u : SearchState _ = record c.note_propagated.new.state { engine = c.classify_node-pruning.new.engine; order = c.learn_gap.new.order } in
    let w : SearchState _ = c.work_at_root.new.state in
    let z : SearchState _ = c.choose.new.state in
    let there = worked c.args.state.now c.note_propagated.new.state u w went.same_branches went.sound c.classify_node-pruning.ensures.unchanged (record { branches = refl; room = refl; returns = refl }) c.work_at_root.ensures.engine c.work_at_root.ensures.beside in
    leaf_left _ c.args.state.now z c.take_leaf.new.state c.args.best.now c.take_leaf.new.best (beside_left c.args.state.now w z there.same c.choose.ensures.engine c.choose.ensures.beside)
    (subst (λ (e : EngineState). IsSoundTrail e) (sym c.choose.ensures.engine) there.sound) c.take_leaf.ensures.stays.engine c.take_leaf.ensures.stays.beside c.take_leaf.ensures.closed c.take_leaf.ensures.stays.moves_on c.take_leaf.ensures.own

pub returns-then-eq-2-clause-goes_on : goal.returns-then-eq-2-clause-goes_on
returns-then-eq-2-clause-goes_on g c =
    goes_itself _ _ g.met.S.Share.keeps_itself _ _ _ _ _
    (subst (λ (e : EngineState). KnowsHeldPrefix e.trail c.args.best.now.held c.classify_node-pruning.new.agreed) (sym c.classify_node-pruning.ensures.unchanged) c.classify_node-pruning.ensures.known) (left_itself c.args.run.now.left)

pub returns-in-Some-clause-goes_on : goal.returns-in-Some-clause-goes_on
returns-in-Some-clause-goes_on g c =
    goes_itself _ _ g.met.S.Share.keeps_itself _ _ _ _ _
    (subst (λ (e : EngineState). KnowsHeldPrefix e.trail c.args.best.now.held c.classify_node-pruning.new.agreed) (sym c.classify_node-pruning.ensures.unchanged) c.classify_node-pruning.ensures.known) (left_itself c.args.run.now.left)

pub returns-in-Some-work_at_root-clause-goes_on : goal.returns-in-Some-work_at_root-clause-goes_on
returns-in-Some-work_at_root-clause-goes_on g c =
    goes_itself _ _ g.met.S.Share.keeps_itself _ _ _ _ _
    (subst (λ (e : EngineState). KnowsHeldPrefix e.trail c.args.best.now.held c.classify_node-pruning.new.agreed) (sym (c.work_at_root.ensures.engine ∙ c.classify_node-pruning.ensures.unchanged)) c.classify_node-pruning.ensures.known) c.work_at_root.ensures.budget

pub returns-in-Some-choose-clause-goes_on : goal.returns-in-Some-choose-clause-goes_on
returns-in-Some-choose-clause-goes_on g c =
    goes_itself _ _ g.met.S.Share.keeps_itself _ _ _ _ _
    (subst (λ (e : EngineState). KnowsHeldPrefix e.trail c.args.best.now.held c.classify_node-pruning.new.agreed) (sym (c.choose.ensures.engine ∙ (c.work_at_root.ensures.engine ∙ c.classify_node-pruning.ensures.unchanged))) c.classify_node-pruning.ensures.known) c.work_at_root.ensures.budget

pub returns-clause-goes_on : goal.returns-clause-goes_on
returns-clause-goes_on g c = record {
  kept = c.take_leaf.ensures.stays.kept;
  same_lending = c.take_leaf.ensures.stays.same_lending;
  known = c.take_leaf.ensures.known c.take_leaf.new.state.engine.trail;
  budget = c.work_at_root.ensures.budget;
}
