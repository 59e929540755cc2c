use Rattle.std.proofs.Common.{◌∙◌, Bool, ap, subst, sym}
use Rattle.pb_engine.specs.EngineState.{EngineState}
use Rattle.pb_subtree.specs.Nodes.{IsDived}
use Rattle.pb_subtree.proofs.RoundLemmas.{dived_in_vain, dived_to_better, node_after_dives}
use Rattle.pb_subtree.proofs.diving.dive_in_round.Goals as goal
use Rattle.pb_subtree.proofs.diving.dive_in_round.Goals.{then-has_led, else-has_led}

pub loop-preserved : goal.loop-preserved
loop-preserved g c =
    let before = c.loop.invariant in
    let made = c.dive_once-has_led.ensures in
    let new = c.dive_once-has_led.new in
    record {
      node = node_after_dives _ _ c.loop.share new.share c.loop.state new.state c.loop.best new.best c.loop.run new.run c.dive_once-has_led.result before.node made;
      no_conflict = ap (λ (e : EngineState). e.conflict) made.back.taken_back ∙ before.no_conflict;
      dived = elim c.if-has_led.branch [
        | then-has_led w ↦
            subst (λ (b : Bool). IsDived g.S.Share.keeps g.S.Share.lends c.args.share.now new.share c.args.state.now new.state c.args.best.now new.best c.args.run.now new.run b) (sym w.is_better-is)
            (dived_to_better _ _ g.met.S.Share.keeps_onward c.args.share.now c.loop.share new.share c.args.state.now c.loop.state new.state c.args.best.now c.loop.best new.best c.args.run.now c.loop.run new.run c.loop.is_better before.dived
            (subst (λ (b : Bool). IsDived g.S.Share.keeps g.S.Share.lends c.loop.share new.share c.loop.state new.state c.loop.best new.best c.loop.run new.run b) w.if-has_led.true made))
        | else-has_led w ↦
            subst (λ (b : Bool). IsDived g.S.Share.keeps g.S.Share.lends c.args.share.now new.share c.args.state.now new.state c.args.best.now new.best c.args.run.now new.run b) (sym w.is_better-is)
            (dived_in_vain _ _ g.met.S.Share.keeps_onward c.args.share.now c.loop.share new.share c.args.state.now c.loop.state new.state c.args.best.now c.loop.best new.best c.args.run.now c.loop.run new.run c.loop.is_better c.dive_once-has_led.result before.dived made)
      ];
    }
