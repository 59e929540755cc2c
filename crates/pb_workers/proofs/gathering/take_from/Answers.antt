use Rattle.std.proofs.Common.{subst}
use Rattle.std.specs.Option.{IfSome}
use Rattle.pb_inst.specs.Problem.{Problem}
use Rattle.pb_inst.specs.Incumbent.{IsSolution}
use Rattle.pb_cubes.proofs.FirstLaws.{adds_other}
use Rattle.pb_workers.proofs.gathering.take_from.Goals as goal

pub returns-in-Some-clause-adds : goal.returns-in-Some-clause-adds
returns-in-Some-clause-adds c =
    adds_other c.args.into.now.problem c.args.into.now.held c.take.new.self.held c.in-Some.assignment.now c.take.result c.args.other.now.held
    c.in-Some.ensures.value (subst (λ (q : Problem). IfSome c.args.other.now.held (λ s. IsSolution q s)) c.requires c.assignment.ensures.sound)
    c.facts_of.ensures c.take.ensures.decides c.take.ensures.held
