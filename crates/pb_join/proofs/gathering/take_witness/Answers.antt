use Rattle.std.proofs.Common.{◌≡◌, ◌∙◌, length, sym}
use Rattle.pb_inst.specs.Meaning.{IsFeasible}
use Rattle.pb_join.proofs.Steps.{first_taken}
use Rattle.pb_join.proofs.gathering.take_witness.Goals as goal

pub returns-2-clause-first : goal.returns-2-clause-first
returns-2-clause-first c =
    let number : length c.args.witness.now.values ≡ c.args.instance.now.vars = sym c.len.ensures ∙ c.if-len-vars.false ∙ c.vars.ensures.value in
    let feasible : IsFeasible c.args.instance.now c.args.witness.now.values = c.in-Some.ensures.0 in
    first_taken c.args.best.now c.take.new.self c.args.instance.now c.args.witness.now.values c.take.result c.requires number feasible
    c.take.ensures.was_sound c.take.ensures.decides c.take.ensures.held
