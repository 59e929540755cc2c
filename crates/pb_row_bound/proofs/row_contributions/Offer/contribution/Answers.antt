use Rattle.std.proofs.Common.{◌≢◌, ◌∙◌, ap, arith}
use Rattle.pb_row_bound.specs.Offers.{Offer, contribution_in}
use Rattle.pb_row_bound.proofs.OfferLemmas.{one_is_enough}
use Rattle.pb_count.proofs.CounterLemmas.{is_zero-false, is_below-false}
use Rattle.pb_row_bound.proofs.row_contributions.Offer.contribution.Goals as goal

pub returns-then-not-is_below : goal.returns-then-not-is_below
returns-then-not-is_below g c =
    let offer : Offer = record { total = c.self.inside.total; greatest = c.self.inside.greatest; cheapest = c.self.inside.cheapest } in
    let needed : c.args.need ≢ 0 = is_zero-false c.is_zero.result c.args.need c.is_zero.ensures c.if-is_zero.false in
    let reach = is_below-false c.is_below.result offer.total c.args.need c.is_below.ensures c.if-is_below.false in
    let enough = is_below-false c.is_below-2.result offer.greatest c.args.need c.is_below-2.ensures c.if-not-is_below.true in
    one_is_enough offer c.args.need (omega (arith, needed)) reach enough ∙ ap (λ (o : Offer). contribution_in o c.args.need) c.self.view_is
