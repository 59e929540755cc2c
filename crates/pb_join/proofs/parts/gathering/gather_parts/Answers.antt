use Rattle.std.proofs.Common.{◌≡◌, ◌∙◌, ◌+◌, List, [], ◌∷◌, ◌++◌, ap, subst, sym, take}
use Rattle.std.proofs.lemmas.List.{take_more}
use Rattle.pb_parts.specs.declared.parts.PartReport.{PartReport}
use Rattle.pb_join.specs.Parts.{AreGatheredParts}
use Rattle.pb_join.proofs.parts.gathering.gather_parts.Goals as goal

pub returns-in-Err-clause-refused : goal.returns-in-Err-clause-refused
returns-in-Err-clause-refused c = (
  c.index-parts-place.result,
  c.loop-place-test.true,
  sym c.index-parts-place.is,
  c.in-Err.ensures.rejected (take c.loop-place.place c.args.parts.now) c.args.tasks c.loop-place.invariant.gathered,
)

pub loop-place-preserved : goal.loop-place-preserved
loop-place-preserved c =
    let one : PartReport = c.index-parts-place.result in
    let more : take (c.loop-place.place + 1) c.args.parts.now ≡ take c.loop-place.place c.args.parts.now ++ one ∷ [] =
    take_more c.args.parts.now c.loop-place.place one c.loop-place-test.true ∙ ap (λ (x : PartReport). take c.loop-place.place c.args.parts.now ++ x ∷ []) (sym c.index-parts-place.is) in
    record {
      same_instance = c.take_part.ensures.same_instance;
      gathered = subst (λ (rs : List PartReport). AreGatheredParts c.args.instance.now c.args.digest.now c.args.tasks rs c.take_part.new.gathered.division c.take_part.new.gathered.best.held c.take_part.new.gathered.reports.items) (sym more)
          (c.in_default.ensures.taken (take c.loop-place.place c.args.parts.now) c.args.tasks c.loop-place.invariant.gathered);
    }

pub loop-place-init : goal.loop-place-init
loop-place-init c = record { same_instance = c.in_ok-gathered.ensures.same_instance; gathered = c.in_ok-gathered.ensures.gathered c.args.digest.now }
