use Rattle.std.proofs.Common.{◌≡◌, arith, sym, subst, Option, Some}
use Rattle.std.specs.Prelude.{◌≤ℤ◌}
use Rattle.std.specs.Option.{IfSome}
use Rattle.std.proofs.lemmas.Int.{ints}
use Rattle.pb_inst.specs.Incumbent.{Solution, IsSolution}
use Rattle.pb_prune.specs.Subtree.{IsClosed, IsTied}
use Rattle.pb_prune.proofs.ClosedLemmas.{closed_at_tie, tied_at, held_is}
use Rattle.pb_prune.proofs.AgreedPrefixLemmas.{knows_of, knows_held}
use Rattle.pb_prune.proofs.pruning.classify_bound.Goals as goal

pub classify_tie-requires-clause-known : goal.classify_tie-requires-clause-known
classify_tie-requires-clause-known g c = knows_of c.args.engine.now.trail c.args.best.now.held c.in-Some-assignment.held.now c.args.agreed.now (sym c.in-Some-assignment.ensures.value) c.requires.known

pub returns-clause-closed : goal.returns-clause-closed
returns-clause-closed g c is =
    let t : Solution = record { cost = c.in-Some.cost; assignment = c.in-Some-assignment.held.now } in
    let held : c.args.best.now.held ≡ Some t = held_is c.args.best.now.held c.in-Some.cost c.in-Some-assignment.held.now (sym c.in-Some.ensures.value) (sym c.in-Some-assignment.ensures.value) in
    let sound : IsSolution c.args.best.now.problem t = subst (λ (o : Option Solution). IfSome o (λ s. IsSolution c.args.best.now.problem s)) held c.cost.ensures.sound in
    let low : c.in-Some.cost ≤ℤ c.args.bound = omega (arith, ints, c.if-bound-cost.false) in
    subst (λ (o : Option Solution). IsClosed c.args.best.now.problem c.args.engine.now o) (sym held)
    (closed_at_tie c.args.best.now.problem c.args.engine.now c.args.bound t c.requires.engine c.requires.bound sound low (c.classify_tie.ensures.closed is))

pub returns-clause-tied : goal.returns-clause-tied
returns-clause-tied g c var is =
    let t : Solution = record { cost = c.in-Some.cost; assignment = c.in-Some-assignment.held.now } in
    let held : c.args.best.now.held ≡ Some t = held_is c.args.best.now.held c.in-Some.cost c.in-Some-assignment.held.now (sym c.in-Some.ensures.value) (sym c.in-Some-assignment.ensures.value) in
    let sound : IsSolution c.args.best.now.problem t = subst (λ (o : Option Solution). IfSome o (λ s. IsSolution c.args.best.now.problem s)) held c.cost.ensures.sound in
    let low : c.in-Some.cost ≤ℤ c.args.bound = omega (arith, ints, c.if-bound-cost.false) in
    subst (λ (o : Option Solution). IsTied c.args.best.now.problem c.args.engine.now o var) (sym held)
    (tied_at c.args.best.now.problem c.args.engine.now c.args.bound t var c.requires.engine c.requires.bound sound low (c.classify_tie.ensures.tied var is))

pub returns-clause-known : goal.returns-clause-known
returns-clause-known g c = knows_held c.args.engine.now.trail c.args.best.now.held c.in-Some-assignment.held.now c.classify_tie.new.agreed (sym c.in-Some-assignment.ensures.value) c.classify_tie.ensures.known
