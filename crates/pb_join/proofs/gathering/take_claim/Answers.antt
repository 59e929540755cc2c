use Rattle.std.proofs.Common.{◌++◌, ◌∷◌, [], Option, subst}
use Rattle.std.specs.Option.{option_map}
use Rattle.pb_inst.specs.Incumbent.{solution_of}
use Rattle.pb_cubes.specs.First.{IsFirst}
use Rattle.pb_report.specs.declared.claims.Witness.{Witness}
use Rattle.pb_join.proofs.Steps.{first_still}
use Rattle.pb_join.proofs.gathering.take_claim.Goals as goal

pub returns-in-None-clause-first : goal.returns-in-None-clause-first
returns-in-None-clause-first c = λ found all first.
    subst (λ (o : Option Witness). IsFirst (found ++ option_map (λ (w : Witness). solution_of c.args.instance.now w.values) o ∷ []) c.args.best.now.held)
    c.in-None.ensures (first_still found c.args.best.now.held first)
