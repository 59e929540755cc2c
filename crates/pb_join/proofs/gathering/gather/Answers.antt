use Rattle.std.proofs.Common.{◌≡◌, ◌∙◌, ◌+◌, List, [], ◌∷◌, ◌++◌, ap, subst, sym, take}
use Rattle.std.proofs.lemmas.List.{take_more}
use Rattle.pb_join.specs.declared.reports.PieceReport.{PieceReport}
use Rattle.pb_join.specs.Joining.{AreGathered}
use Rattle.pb_join.proofs.gathering.gather.Goals as goal

pub returns-in-Err-clause-refused : goal.returns-in-Err-clause-refused
returns-in-Err-clause-refused c = (
  c.index-reports-place.result,
  c.loop-place-test.true,
  sym c.index-reports-place.is,
  c.in-Err.ensures.rejected (take c.loop-place.place c.args.reports.now) c.args.pieces c.loop-place.invariant.gathered,
)

pub loop-place-preserved : goal.loop-place-preserved
loop-place-preserved c =
    let one : PieceReport = c.index-reports-place.result in
    let more : take (c.loop-place.place + 1) c.args.reports.now ≡ take c.loop-place.place c.args.reports.now ++ one ∷ [] =
    take_more c.args.reports.now c.loop-place.place one c.loop-place-test.true ∙ ap (λ (x : PieceReport). take c.loop-place.place c.args.reports.now ++ x ∷ []) (sym c.index-reports-place.is) in
    record {
      same_instance = c.take.ensures.same_instance;
      gathered = subst (λ (rs : List PieceReport). AreGathered c.args.instance.now c.args.pieces rs c.take.new.gathered.best.held c.take.new.gathered.states.items) (sym more)
          (c.in_default.ensures.taken (take c.loop-place.place c.args.reports.now) c.args.pieces c.loop-place.invariant.gathered);
    }
