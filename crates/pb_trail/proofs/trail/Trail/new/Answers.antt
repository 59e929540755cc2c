use Rattle.std.proofs.Common.{arith, rules, length, ap, ◌∙◌, List, Option, Bool}
use Rattle.std.proofs.lemmas.List.{length-replicate}
use Rattle.std.specs.Vec.{vec_capacity}
use Rattle.pb_trail.proofs.TrackedLemmas.{AreValues-nil, IsUpToDate-nil}
use Rattle.pb_trail.proofs.trail.Trail.new.Goals as goal

pub invariant_of-result : goal.invariant_of-result
invariant_of-result g c =
    AreValues-nil c.in_ok-values.values.items c.in_ok-lits.lits.items (vec_capacity c.in_ok-lits.lits) c.vars-vars.result (c.in_ok-values.ensures.items_if_clones_equal (search rules)) c.in_ok-lits.ensures.items (omega (arith, c.in_ok-lits.ensures.exact)) (omega arith)

pub returns-clause-up_to_date : goal.returns-clause-up_to_date
returns-clause-up_to_date g c =
    let unset = c.in_ok-values.ensures.items_if_clones_equal (search rules) in
    IsUpToDate-nil c.args.tables.now (record { vars = length c.in_ok-values.values.items; lits = c.in_ok-lits.lits.items; sums = c.in_ok-sums.sums.items; slack_cache = c.in_ok-slack_cache.slack_cache }) c.in_ok-sums.ensures.0 c.in_ok-sums.ensures.1 c.in_ok-lits.ensures.items (ap (λ (xs : List (Option Bool)). length xs) unset ∙ (length-replicate c.vars-vars.result _ ∙ c.vars-vars.ensures)) c.facts.ensures.rows c.in_ok-slack_cache.ensures
