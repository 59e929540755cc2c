use Rattle.std.proofs.Common.{◌≡◌, ◌∙◌, ◌<◌, Bool, ap, arith, cond, get_or, length, rules}
use Rattle.pb_report.specs.Claims.{is_final}
use Rattle.pb_join.specs.declared.states.PieceState.TheVariants.{Missing, Cut, Done}
use Rattle.pb_join.specs.Joining.{all_found}
use Rattle.pb_join.proofs.Steps.{gathered_more}
use Rattle.pb_join.proofs.Wholes.{solutions}
use Rattle.pb_join.proofs.gathering.take.Goals as goal

pub returns-clause-taken : goal.returns-clause-taken
returns-clause-taken c = λ earlier pieces h.
    let count : length c.args.gathered.now.states.items ≡ pieces = h.became.count in
    let inside : c.args.report.now.number < length c.args.gathered.now.states.items = search rules in
    let missing : get_or c.args.gathered.now.states.items c.args.report.now.number Missing ≡ Missing = search rules in
    gathered_more c.args.instance.now pieces earlier c.args.report.now c.args.gathered.now.best.held c.take_claim.new.best.held c.args.gathered.now.states.items c.state_of.result h
    (omega arith) missing c.in_ok-take_claim.ensures.witness
    (c.in_ok-take_claim.ensures.first (all_found c.args.instance.now earlier) (solutions c.args.instance.now pieces earlier h.fit) h.first)
    (c.state_of.ensures ∙ ap (λ (b : Bool). cond (is_final b c.args.report.now.claim) Done Cut) c.has_objective.ensures)
