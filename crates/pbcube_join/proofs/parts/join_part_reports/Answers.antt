use Rattle.std.proofs.Common.{◌≡◌, ◌⊎◌, Err, List, ap, inl, inr, refl, subst}
use Rattle.std.specs.Prelude.{◌≢◌}
use Rattle.pb_join.specs.declared.parts.faults.PartsFault.{PartsFault}
use Rattle.pb_join.specs.declared.parts.faults.PartsFault.TheVariants.{Memory, Report, Write}
use Rattle.pb_parts.specs.declared.parts.PartReport.{PartReport}
use Rattle.pbcube_join.specs.Joining.{TellsOfParts}
use Rattle.pbcube_join.proofs.parts.join_part_reports.Goals as goal

pub returns-in-Ok-clause-tells : goal.returns-in-Ok-clause-tells
returns-in-Ok-clause-tells g c =
    let same : c.deref.result.now ≡ c.args.read.parts.items = cc in
    let told : TellsOfParts c.args.format c.args.whole.now.instance c.args.whole.now.digest c.args.tasks c.deref.result.now (g.W.Write.contents c.args.out.now.held) (g.W.Write.contents c.join_parts.new.out.held) c.in-Ok.joined = record {
      fit = c.in-Ok.ensures.fit;
      states = c.in-Ok.ensures.states;
      named = c.in-Ok.ensures.named;
      first = c.in-Ok.ensures.first;
      whole = c.in-Ok.ensures.whole;
      answer = c.in-Ok.ensures.headline;
    } in
    subst (λ (parts : List PartReport). TellsOfParts c.args.format c.args.whole.now.instance c.args.whole.now.digest c.args.tasks parts (g.W.Write.contents c.args.out.now.held) (g.W.Write.contents c.join_parts.new.out.held) c.in-Ok.joined) same told

pub returns-clause-unwritten : goal.returns-clause-unwritten
returns-clause-unwritten g c = λ other. c.in-Err.ensures.unwritten (λ is. other (c.fault_of.ensures is))

-- what holds after each fault but one, or what holds after that
after : {P Q : Type 0} (fault : PartsFault) → (fault ≢ Write → P) → (fault ≡ Write → Q) → P ⊎ Q
after Write others own = inr (own refl)
after Memory others own = inl (others (λ is. cc))
after (Report place why) others own = inl (others (λ is. cc))

pub returns-clause-kept : goal.returns-clause-kept
returns-clause-kept g c = after c.in-Err.fault c.in-Err.ensures.unwritten (λ is. c.in-Err.ensures.write.1 (ap Err is))
