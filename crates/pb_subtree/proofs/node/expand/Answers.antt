use Rattle.std.proofs.Common.{◌∙◌, Bool, None, Some, subst}
use Rattle.pb_subtree.specs.Nodes.{IsBackFromDive, IsExpanded}
use Rattle.pb_subtree.specs.declared.search_state.SearchState.{SearchState}
use Rattle.pb_subtree.proofs.ExpandLemmas.{dived_onward, expanded_dived, expanded_looked, expanded_onward, looked_onward}
use Rattle.pb_subtree.proofs.GoesOnLemmas.{goes_onward, held_onward}
use Rattle.pb_subtree.proofs.node.expand.Goals as goal

pub returns-in_default-clause-expanded : goal.returns-in_default-clause-expanded
returns-in_default-clause-expanded g c =
    let before = c.loop.invariant in
    expanded_onward _ c.args.state.now c.loop.state c.expand_node.new.state c.args.best.now c.loop.best c.expand_node.new.best None before.same_branches before.sound before.moves_on before.own
    (subst (λ (b : Bool). IsExpanded b c.loop.state c.expand_node.new.state c.loop.best c.expand_node.new.best None) before.goes_on.same_lending c.in_default.ensures.expanded)

pub returns-then-not-has_borrowed-clause-expanded : goal.returns-then-not-has_borrowed-clause-expanded
returns-then-not-has_borrowed-clause-expanded g c =
    let before = c.loop.invariant in
    let asked = c.borrow_after-has_borrowed.ensures in
    let t : SearchState _ = c.expand_node.new.state in
    let u : SearchState _ = c.borrow_after-has_borrowed.new.state in
    expanded_looked _ c.args.state.now t u c.args.best.now c.expand_node.new.best c.borrow_after-has_borrowed.new.best (Some c.in-Some.branch) asked.stays.engine asked.stays.beside asked.stays.moves_on (asked.refused c.if-not-has_borrowed.true)
    (λ alone. asked.own (c.expand_node.ensures.goes_on.same_lending ∙ (before.goes_on.same_lending ∙ alone)))
    (expanded_onward _ c.args.state.now c.loop.state t c.args.best.now c.loop.best c.expand_node.new.best (Some c.in-Some.branch) before.same_branches before.sound before.moves_on before.own
    (subst (λ (b : Bool). IsExpanded b c.loop.state t c.loop.best c.expand_node.new.best (Some c.in-Some.branch)) before.goes_on.same_lending c.in-Some.ensures.expanded))

pub returns-in_default-clause-goes_on : goal.returns-in_default-clause-goes_on
returns-in_default-clause-goes_on g c =
    goes_onward _ _ g.met.S.Share.keeps_onward _ _ _ _ _ _ _ _ _ _ c.loop.invariant.goes_on c.expand_node.ensures.goes_on

pub returns-then-not-has_borrowed-clause-goes_on : goal.returns-then-not-has_borrowed-clause-goes_on
returns-then-not-has_borrowed-clause-goes_on g c =
    held_onward _ _ g.met.S.Share.keeps_onward _ _ _ c.expand_node.new.state c.borrow_after-has_borrowed.new.state c.expand_node.new.best c.borrow_after-has_borrowed.new.best c.args.run.now c.expand_node.new.run c.borrow_after-has_borrowed.new.agreed
    (goes_onward _ _ g.met.S.Share.keeps_onward _ _ _ _ _ _ _ _ _ _ c.loop.invariant.goes_on c.expand_node.ensures.goes_on) c.borrow_after-has_borrowed.ensures.stays c.borrow_after-has_borrowed.ensures.known

pub returns-then-branch-2-clause-goes_on : goal.returns-then-branch-2-clause-goes_on
returns-then-branch-2-clause-goes_on g c =
    goes_onward _ _ g.met.S.Share.keeps_onward _ _ _ _ _ _ _ _ _ _ c.loop.invariant.goes_on c.expand_node.ensures.goes_on

pub returns-then-not-is_better-clause-goes_on : goal.returns-then-not-is_better-clause-goes_on
returns-then-not-is_better-clause-goes_on g c =
    goes_onward _ _ g.met.S.Share.keeps_onward _ _ _ _ _ _ _ _ _ _ c.loop.invariant.goes_on
    (goes_onward _ _ g.met.S.Share.keeps_onward _ _ _ _ _ _ _ _ _ _ c.expand_node.ensures.goes_on c.dive_from_root-is_better.ensures.goes_on)

pub returns-clause-goes_on : goal.returns-clause-goes_on
returns-clause-goes_on g c =
    goes_onward _ _ g.met.S.Share.keeps_onward _ _ _ _ _ _ _ _ _ _ c.loop.invariant.goes_on c.expand_node-2.ensures.goes_on

pub loop-preserved-then-is_look_due : goal.loop-preserved-then-is_look_due
loop-preserved-then-is_look_due g c =
    let before = c.loop.invariant in
    let asked = c.borrow_after-has_borrowed.ensures in
    let t : SearchState _ = c.expand_node.new.state in
    let u : SearchState _ = c.borrow_after-has_borrowed.new.state in
    let there = expanded_onward _ c.args.state.now c.loop.state t c.args.best.now c.loop.best c.expand_node.new.best (Some c.in-Some.branch) before.same_branches before.sound before.moves_on before.own
    (subst (λ (b : Bool). IsExpanded b c.loop.state t c.loop.best c.expand_node.new.best (Some c.in-Some.branch)) before.goes_on.same_lending c.in-Some.ensures.expanded) in
    let looked = looked_onward _ c.args.state.now t u c.args.best.now c.expand_node.new.best c.borrow_after-has_borrowed.new.best (Some c.in-Some.branch) asked.stays.engine asked.stays.beside asked.stays.moves_on
    (λ alone. asked.own (c.expand_node.ensures.goes_on.same_lending ∙ (before.goes_on.same_lending ∙ alone))) there in
    record {
      same_branches = looked.same_branches;
      sound = looked.sound;
      moves_on = looked.moves_on;
      own = looked.own;
      goes_on = held_onward _ _ g.met.S.Share.keeps_onward _ _ _ t u c.expand_node.new.best c.borrow_after-has_borrowed.new.best c.args.run.now c.expand_node.new.run c.borrow_after-has_borrowed.new.agreed
          (goes_onward _ _ g.met.S.Share.keeps_onward _ _ _ _ _ _ _ _ _ _ before.goes_on c.expand_node.ensures.goes_on) asked.stays asked.known;
    }

pub returns-then-branch-2-clause-expanded : goal.returns-then-branch-2-clause-expanded
returns-then-branch-2-clause-expanded g c =
    let before = c.loop.invariant in
    expanded_onward _ c.args.state.now c.loop.state c.expand_node.new.state c.args.best.now c.loop.best c.expand_node.new.best (Some c.in-Some.branch) before.same_branches before.sound before.moves_on before.own
    (subst (λ (b : Bool). IsExpanded b c.loop.state c.expand_node.new.state c.loop.best c.expand_node.new.best (Some c.in-Some.branch)) before.goes_on.same_lending c.in-Some.ensures.expanded)

pub returns-then-not-is_better-clause-expanded : goal.returns-then-not-is_better-clause-expanded
returns-then-not-is_better-clause-expanded g c =
    let before = c.loop.invariant in
    let lends = g.S.Share.lends c.args.share.now in
    let t : SearchState _ = c.expand_node.new.state in
    let d : SearchState _ = c.dive_from_root-is_better.new.state in
    let after : SearchState _ = record d { root_work = c.take_borrowed.new.self } in
    let dived = c.dive_from_root-is_better.ensures.back in
    let there : IsExpanded lends c.args.state.now t c.args.best.now c.expand_node.new.best (Some c.in-Some.branch) =
    expanded_onward lends c.args.state.now c.loop.state t c.args.best.now c.loop.best c.expand_node.new.best (Some c.in-Some.branch) before.same_branches before.sound before.moves_on before.own
    (subst (λ (b : Bool). IsExpanded b c.loop.state t c.loop.best c.expand_node.new.best (Some c.in-Some.branch)) before.goes_on.same_lending c.in-Some.ensures.expanded) in
    let back : IsBackFromDive lends t after c.expand_node.new.best c.dive_from_root-is_better.new.best =
    record { taken_back = dived.taken_back; same_branches = record { constraints = dived.same_branches.constraints; assumptions = dived.same_branches.assumptions; branches = dived.same_branches.branches; room = dived.same_branches.room; returns = c.take_borrowed.ensures ∙ dived.same_branches.returns }; moves_on = dived.moves_on; own = λ alone. dived.own (c.expand_node.ensures.goes_on.same_lending ∙ (before.goes_on.same_lending ∙ alone)) } in
    expanded_dived lends c.args.state.now t after c.args.best.now c.expand_node.new.best c.dive_from_root-is_better.new.best c.in-Some.branch c.if-branch-2.false there back

pub loop-preserved : goal.loop-preserved
loop-preserved g c =
    let before = c.loop.invariant in
    let lends = g.S.Share.lends c.args.share.now in
    let t : SearchState _ = c.expand_node.new.state in
    let d : SearchState _ = c.dive_from_root-is_better.new.state in
    let after : SearchState _ = record d { root_work = c.take_borrowed.new.self } in
    let dived = c.dive_from_root-is_better.ensures.back in
    let there : IsExpanded lends c.args.state.now t c.args.best.now c.expand_node.new.best (Some c.in-Some.branch) =
    expanded_onward lends c.args.state.now c.loop.state t c.args.best.now c.loop.best c.expand_node.new.best (Some c.in-Some.branch) before.same_branches before.sound before.moves_on before.own
    (subst (λ (b : Bool). IsExpanded b c.loop.state t c.loop.best c.expand_node.new.best (Some c.in-Some.branch)) before.goes_on.same_lending c.in-Some.ensures.expanded) in
    let back : IsBackFromDive lends t after c.expand_node.new.best c.dive_from_root-is_better.new.best =
    record { taken_back = dived.taken_back; same_branches = record { constraints = dived.same_branches.constraints; assumptions = dived.same_branches.assumptions; branches = dived.same_branches.branches; room = dived.same_branches.room; returns = c.take_borrowed.ensures ∙ dived.same_branches.returns }; moves_on = dived.moves_on; own = λ alone. dived.own (c.expand_node.ensures.goes_on.same_lending ∙ (before.goes_on.same_lending ∙ alone)) } in
    let onward = dived_onward lends c.args.state.now t after c.args.best.now c.expand_node.new.best c.dive_from_root-is_better.new.best (Some c.in-Some.branch) there back in
    record {
      same_branches = onward.same_branches;
      sound = onward.sound;
      moves_on = onward.moves_on;
      own = onward.own;
      goes_on = goes_onward _ _ g.met.S.Share.keeps_onward _ _ _ _ _ _ _ _ _ _ before.goes_on
          (goes_onward _ _ g.met.S.Share.keeps_onward _ _ _ _ _ _ _ _ _ _ c.expand_node.ensures.goes_on c.dive_from_root-is_better.ensures.goes_on);
    }

pub returns-clause-expanded : goal.returns-clause-expanded
returns-clause-expanded g c =
    let before = c.loop.invariant in
    expanded_onward _ c.args.state.now c.loop.state c.expand_node-2.new.state c.args.best.now c.loop.best c.expand_node-2.new.best c.expand_node-2.result before.same_branches before.sound before.moves_on before.own
    (subst (λ (b : Bool). IsExpanded b c.loop.state c.expand_node-2.new.state c.loop.best c.expand_node-2.new.best c.expand_node-2.result) before.goes_on.same_lending c.expand_node-2.ensures.expanded)
