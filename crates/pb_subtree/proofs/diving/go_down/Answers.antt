use Rattle.std.proofs.Common.{rules, ◌∙◌, subst, sym}
use Rattle.pb_dive.specs.Dives.{LeadsBack}
use Rattle.pb_engine.specs.EngineState.{EngineState}
use Rattle.pb_engine.specs.Soundness.{IsSoundTrail}
use Rattle.pb_subtree.proofs.DescentLemmas.{descent_goes_on}
use Rattle.pb_subtree.proofs.HeldLemmas.{moves_onward}
use Rattle.pb_subtree.proofs.diving.go_down.Goals as goal

pub returns-in-Full-clause-paid : goal.returns-in-Full-clause-paid
returns-in-Full-clause-paid g c =
    descent_goes_on c.args.state.now.engine c.loop.state.engine c.descend-descent.new.engine c.borrow_after.new.state.engine c.descend-descent.result.decisions c.args.run.now.left c.loop.run.left c.descend-descent.new.left
    c.loop.invariant.paid c.descend-descent.ensures.assumed c.descend-descent.ensures.counted c.borrow_after.ensures.stays.engine

pub returns-in-Stuck-clause-paid : goal.returns-in-Stuck-clause-paid
returns-in-Stuck-clause-paid g c =
    descent_goes_on c.args.state.now.engine c.loop.state.engine c.descend-descent.new.engine c.borrow_after.new.state.engine c.descend-descent.result.decisions c.args.run.now.left c.loop.run.left c.descend-descent.new.left
    c.loop.invariant.paid c.descend-descent.ensures.assumed c.descend-descent.ensures.counted c.borrow_after.ensures.stays.engine

pub returns-then-rest-eq0-clause-paid : goal.returns-then-rest-eq0-clause-paid
returns-then-rest-eq0-clause-paid g c =
    descent_goes_on c.args.state.now.engine c.loop.state.engine c.descend-descent.new.engine c.borrow_after.new.state.engine c.descend-descent.result.decisions c.args.run.now.left c.loop.run.left c.descend-descent.new.left
    c.loop.invariant.paid c.descend-descent.ensures.assumed c.descend-descent.ensures.counted c.borrow_after.ensures.stays.engine

pub loop-preserved : goal.loop-preserved
loop-preserved g c =
    let start = c.args.state.now.engine in
    let same = c.borrow_after.ensures.stays.engine in
    let before = c.loop.invariant in
    let asked = c.borrow_after.ensures in
    record {
      back = subst (λ (e : EngineState). LeadsBack start e) (sym same) (c.descend-descent.ensures.back start (sym c.level-floor.ensures.count) before.back);
      sound = subst (λ (e : EngineState). IsSoundTrail e) (sym same) c.descend-descent.ensures.sound;
      free = search rules;
      beside = record { branches = asked.stays.beside.branches ∙ before.beside.branches; room = asked.stays.beside.room ∙ before.beside.room; returns = asked.stays.beside.returns ∙ before.beside.returns };
      moves_on = moves_onward c.args.best.now c.loop.best c.borrow_after.new.best before.moves_on asked.stays.moves_on;
      own = λ alone. asked.own (before.same_lending ∙ alone) ∙ before.own alone;
      kept = g.met.S.Share.keeps_onward _ _ _ before.kept asked.stays.kept;
      same_lending = asked.stays.same_lending ∙ before.same_lending;
      known = λ trail h. asked.known trail (before.known trail h);
      paid =
          descent_goes_on start c.loop.state.engine c.descend-descent.new.engine c.borrow_after.new.state.engine c.descend-descent.result.decisions c.args.run.now.left c.loop.run.left c.descend-descent.new.left
          before.paid c.descend-descent.ensures.assumed c.descend-descent.ensures.counted same;
    }
