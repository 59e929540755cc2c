use Rattle.std.proofs.Common.{◌≡◌, ◌+◌, ◌-◌, ◌∙◌, arith, ap, sym, subst, ℕ, false, length}
use Rattle.pb_prune.specs.Subtree.{HasOnesWithin}
use Rattle.pb_prune.proofs.ClosedLemmas.{at, ones_not_before, later_not_before}
use Rattle.pb_prune.proofs.AgreedPrefixLemmas.{ones_to_zero}
use Rattle.pb_prune.proofs.pruning.classify_tie.Goals as goal

pub returns-then-has_surplus-clause-closed : goal.returns-then-has_surplus-clause-closed
returns-then-has_surplus-clause-closed g c _ = c.has_surplus.ensures.later c.if-has_surplus.true

pub returns-then-count-len-clause-closed : goal.returns-then-count-len-clause-closed
returns-then-count-len-clause-closed g c _ =
    let all : c.extend-count.result ≡ length c.args.held.now = omega arith in
    ones_not_before c.args.engine.now.trail c.args.held.now (subst (λ (n : ℕ). HasOnesWithin c.args.engine.now.trail c.args.held.now 0 n) all c.extend-count.ensures.ones)

pub returns-clause-closed : goal.returns-clause-closed
returns-clause-closed g c _ =
    let place : c.extend-count.result + 1 - 1 ≡ c.extend-count.result = omega arith in
    let zero : at c.args.held.now (c.extend-count.result + 1 - 1) ≡ false = sym c.get.ensures ∙ c.if-get.false in
    later_not_before c.args.engine.now.trail c.args.held.now (c.extend-count.result + 1) (c.extend-count.ensures.differ (omega arith)) zero
    (ones_to_zero c.args.engine.now.trail c.args.held.now c.extend-count.result c.extend-count.ensures.ones (ap (λ (n : ℕ). at c.args.held.now n) (sym place) ∙ zero))
