use Rattle.std.proofs.Common.{◌∙◌, ◌++◌, ap}
use Rattle.pb_inst.proofs.FlatLemmas.{added_units}
use Rattle.pb_inst.proofs.flat_terms.TermList.extend_with_units.Goals as goal

pub returns-clause-added : goal.returns-clause-added
returns-clause-added c =
    added_units c.self.inside.coefs _ c.self.inside.lits.items _ _ c.args.lits.now c.self.view_is c.self.invariant c.in_ok-extend_with_ones.ensures.added (c.in_ok-extend_from_slice.ensures.items ∙ ap (λ ls. ls ++ c.args.lits.now) c.in_ok-reserve.ensures.items)
