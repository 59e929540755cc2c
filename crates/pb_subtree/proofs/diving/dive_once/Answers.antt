use Rattle.std.proofs.Common.{◌≡◌, ◌∙◌, ap, sym, subst}
use Rattle.pb_inst.specs.Incumbent.{Incumbent}
use Rattle.pb_inst.specs.Problem.{Problem}
use Rattle.pb_dive.specs.Dives.{LeadsBack}
use Rattle.pb_dive.proofs.DiveLemmas.{levels_within, back_at_start}
use Rattle.pb_engine.specs.EngineState.{EngineState}
use Rattle.pb_prune.specs.AgreedPrefix.{KnowsHeldPrefix}
use Rattle.pb_subtree.specs.Nodes.{IsFoundAt}
use Rattle.pb_subtree.specs.declared.search_state.SearchState.{SearchState}
use Rattle.pb_prune.specs.Subtree.{IsEngineOf}
use Rattle.pb_control.proofs.BudgetLemmas.{left_of_more}
use Rattle.pb_subtree.proofs.HeldLemmas.{moves_onward}
use Rattle.pb_subtree.proofs.SearchLemmas.{same_engine}
use Rattle.pb_subtree.proofs.DivingLemmas.{dive_constraints, own_at_start, dive_is_paid, same_branches_back}
use Rattle.pb_subtree.proofs.diving.dive_once.Goals as goal

pub take_where_full-is_better-requires : goal.take_where_full-is_better-requires
take_where_full-is_better-requires g c full =
    let down = c.go_down-is_full.ensures in
    record {
      engine = subst (λ (p : Problem). IsEngineOf p c.go_down-is_full.new.state.engine) (sym down.moves_on.same_instance)
          (same_engine c.args.best.now.problem c.args.state.now.engine c.go_down-is_full.new.state.engine (dive_constraints c.args.state.now.engine c.go_down-is_full.new.state.engine down.back) c.requires.node.state.engine);
      room = down.beside.room ∙ (c.requires.node.state.candidate ∙ ap (λ (p : Problem). p.vars) (sym down.moves_on.same_instance));
      full = down.full full;
      solved = down.solved full;
      sound = down.sound;
    }

back_to_end : {C : Type 0} (start : EngineState) (mid end : SearchState C) → end.engine ≡ mid.engine → LeadsBack start mid.engine → LeadsBack start end.engine
back_to_end start mid end same back = subst (λ (e : EngineState). LeadsBack start e) (sym same) back

pub undo_to-requires : goal.undo_to-requires
undo_to-requires g c =
    rw c.level-level.ensures.count
    (levels_within c.args.state.now.engine c.take_where_full-is_better.new.state.engine (back_to_end c.args.state.now.engine c.go_down-is_full.new.state c.take_where_full-is_better.new.state c.take_where_full-is_better.ensures.stays.engine c.go_down-is_full.ensures.back))

pub returns : goal.returns
returns g c =
    let start = c.args.state.now.engine in
    let mid : SearchState _ = c.go_down-is_full.new.state in
    let end : SearchState _ = c.take_where_full-is_better.new.state in
    let down = c.go_down-is_full.ensures in
    let full = c.take_where_full-is_better.ensures in
    let same : c.undo_to.new.self ≡ start = back_at_start start end.engine c.undo_to.new.self (back_to_end start mid end full.stays.engine down.back) (rw c.level-level.ensures.count at c.undo_to.ensures.undone) in
    let back : SearchState _ = record end { engine = c.undo_to.new.self } in
    record {
      back = record {
        taken_back = same;
        same_branches = same_branches_back c.args.state.now back same (record { branches = full.stays.beside.branches ∙ down.beside.branches; room = full.stays.beside.room ∙ down.beside.room; returns = full.stays.beside.returns ∙ down.beside.returns });
        moves_on = moves_onward c.args.best.now c.go_down-is_full.new.best c.take_where_full-is_better.new.best down.moves_on full.stays.moves_on;
        own = λ alone. subst (λ (i : Incumbent). IsFoundAt start i c.take_where_full-is_better.new.best) (down.own alone)
            (own_at_start start mid.engine c.go_down-is_full.new.best c.take_where_full-is_better.new.best down.back full.own);
      };
      goes_on = record {
        kept = g.met.S.Share.keeps_onward _ _ _ down.kept full.stays.kept;
        same_lending = full.stays.same_lending ∙ down.same_lending;
        known = subst (λ (e : EngineState). KnowsHeldPrefix e.trail c.take_where_full-is_better.new.best.held c.take_where_full-is_better.new.agreed) (sym same)
            (full.known start.trail (down.known start.trail c.requires.node.known));
        budget = left_of_more down.paid.decisions c.args.run.now.left c.go_down-is_full.new.run.left down.paid.counted;
      };
      paid = λ better. dive_is_paid start mid.engine c.args.run.now.left c.go_down-is_full.new.run.left down.back down.paid (down.full (full.only_full better));
    }
