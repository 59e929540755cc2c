use Rattle.std.proofs.Common.{refl, subst, sym}
use Rattle.pb_engine.specs.EngineState.{EngineState}
use Rattle.pb_prune.specs.AgreedPrefix.{KnowsHeldPrefix}
use Rattle.pb_subtree.specs.declared.search_state.SearchState.{SearchState}
use Rattle.pb_subtree.proofs.RoundLemmas.{back_beside}
use Rattle.pb_subtree.proofs.diving.dive_from_root.Goals as goal

pub returns-clause-back : goal.returns-clause-back
returns-clause-back g c =
    let begun : SearchState _ = record c.args.state.now { root_work = c.take_dive.new.self } in
    let dived = c.dive_in_round-is_better in
    back_beside (g.S.Share.lends c.args.share.now) c.args.state.now begun dived.new.state c.work_anew.new.state c.args.best.now dived.new.best refl (record { branches = refl; room = refl; returns = c.take_dive.ensures }) c.work_anew.ensures.engine c.work_anew.ensures.beside dived.ensures.back

pub returns-clause-goes_on : goal.returns-clause-goes_on
returns-clause-goes_on g c =
    let dived = c.dive_in_round-is_better in
    let on = dived.ensures.goes_on in
    record {
      kept = on.kept;
      same_lending = on.same_lending;
      known = subst (λ (e : EngineState). KnowsHeldPrefix e.trail dived.new.best.held dived.new.run.agreed) (sym c.work_anew.ensures.engine) on.known;
      budget = on.budget;
    }
