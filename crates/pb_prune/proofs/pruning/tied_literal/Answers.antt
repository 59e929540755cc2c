use Rattle.std.proofs.Common.{◌≡◌, ◌+◌, ◌-◌, ◌<◌, ◌≤◌, ◌∙◌, arith, rules, refl, sym, subst, false}
use Rattle.pb_inst.specs.Literal.{Literal}
use Rattle.pb_prune.specs.Subtree.{IsOpenOnOneSide}
use Rattle.pb_prune.proofs.ClosedLemmas.{at, tied_open}
use Rattle.pb_prune.proofs.pruning.tied_literal.Goals as goal

pub returns : goal.returns
returns g c =
    let n = c.settled_from-place.result in
    let l : Literal = record { var = n + 1; positive = false } in
    let e : c.in-Ok.lit ≡ l = c.in-Ok.ensures.in_range.1 in
    let low : n < c.min-end.result = omega (arith, c.if-place-end.false) in
    let fits : c.min-end.result ≤ c.args.engine.now.vars = search rules in
    let zero : at c.in_ok-held.held.now (n + 1 - 1) ≡ false = sym c.get.ensures ∙ c.if-get.false in
    subst (λ (x : Literal). IsOpenOnOneSide c.args.best.now.problem c.args.engine.now c.args.best.now.held x) (sym e)
    (tied_open c.args.best.now.problem c.args.engine.now c.args.best.now.held c.in_ok-held.held.now c.in-Tied.var l (sym c.in_ok-held.ensures.value) (c.requires.tied c.in-Tied.var c.in-Tied.is) refl (omega arith)
    (omega (arith, low, c.min-end.ensures, c.saturating_sub.ensures)) zero (omega (arith, low, fits)) (c.settled_from-place.ensures.free low))
