use Rattle.std.proofs.Common.{◌∙◌, ◌++◌, ap, map}
use Rattle.pb_inst.specs.declared.constraints.Term.{Term}
use Rattle.pb_inst.proofs.FlatLemmas.{added_terms}
use Rattle.pb_inst.proofs.flat_terms.TermList.extend_from_slice.Goals as goal

pub returns-clause-added : goal.returns-clause-added
returns-clause-added c =
    added_terms c.self.inside.coefs _ c.self.inside.lits.items _ _ c.args.terms.now c.self.view_is c.self.invariant c.in_ok-extend_with_coefficients.ensures.added (c.push_literals.ensures ∙ ap (λ ls. ls ++ map (λ (t : Term). t.lit) c.args.terms.now) c.in_ok-reserve.ensures.items)
