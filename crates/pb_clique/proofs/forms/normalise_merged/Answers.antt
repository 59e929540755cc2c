use Rattle.std.proofs.Common.{Option, subst}
use Rattle.std.proofs.lemmas.Result.{IfOk-weaker}
use Rattle.std.specs.Option.{IfSome}
use Rattle.pb_inst.specs.Problem.{Problem}
use Rattle.pb_clique.specs.Cliques.{SaysTheSame}
use Rattle.pb_clique.proofs.CliqueLemmas.{form_of_same}
use Rattle.pb_clique.proofs.forms.normalise_merged.Goals as goal

pub returns-in-Some-clause-feasible : goal.returns-in-Some-clause-feasible
returns-in-Some-clause-feasible c =
    let same = subst (λ (o : Option Problem). IfSome o (λ q. SaysTheSame c.args.instance.now q)) c.in-Some.is c.in_ok-merged.ensures in
    IfOk-weaker c.normalise.result _ _ (λ form keeps. form_of_same c.args.instance.now c.in-Some.merged form same keeps) c.normalise.ensures.feasible
