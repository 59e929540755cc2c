use Rattle.std.proofs.Common.{◌≡◌, List, subst}
use Rattle.std.specs.Prelude.{All}
use Rattle.pb_join.specs.declared.states.PieceState.{PieceState}
use Rattle.pb_join.specs.declared.states.PieceState.TheVariants.{Done}
use Rattle.pb_join.proofs.LeastCosts.{least_cost, none_cheaper}
use Rattle.pb_join.proofs.Wholes.{headline, held_is, whole_least}
use Rattle.pb_join.proofs.joining.join.Goals as goal

pub returns-clause-headline : goal.returns-clause-headline
returns-clause-headline g c = λ cubes right whole.
    let gathered = c.in_ok-gathered.gathered in
    let done : All (λ (state : PieceState). state ≡ Done) gathered.states.items =
    subst (λ (states : List PieceState). All (λ (state : PieceState). state ≡ Done) states) c.deref.ensures.value (c.are_all_done-whole.ensures.0 whole) in
    headline c.args.format c.args.instance.now gathered.best.held c.are_all_done-whole.result _ _ c.in-Ok.status
    (whole_least c.args.instance.now c.args.pieces c.args.reports.now gathered.best.held gathered.states.items cubes c.in_ok-gathered.ensures.gathered done right)
    whole c.in-Ok.ensures.written c.in-Ok.ensures.status

pub returns-clause-least_cost : goal.returns-clause-least_cost
returns-clause-least_cost g c = λ cubes right whole.
    let gathered = c.in_ok-gathered.gathered in
    let done : All (λ (state : PieceState). state ≡ Done) gathered.states.items =
    subst (λ (states : List PieceState). All (λ (state : PieceState). state ≡ Done) states) c.deref.ensures.value (c.are_all_done-whole.ensures.0 whole) in
    least_cost c.args.format c.args.instance.now gathered.best.held c.are_all_done-whole.result _ _ c.in-Ok.status
    (held_is c.args.instance.now c.args.pieces c.args.reports.now gathered.best.held gathered.states.items c.in_ok-gathered.ensures.gathered)
    (none_cheaper c.args.instance.now c.args.pieces c.args.reports.now gathered.best.held gathered.states.items cubes c.in_ok-gathered.ensures.gathered done right)
    whole c.in-Ok.ensures.written c.in-Ok.ensures.status
