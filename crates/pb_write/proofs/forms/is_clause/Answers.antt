use Rattle.std.proofs.Common.{◌≡◌, pos, rules}
use Rattle.pb_inst.specs.Constraints.{linear}
use Rattle.pb_inst.specs.declared.constraints.Relation.TheVariants.{AtLeast}
use Rattle.pb_write.proofs.ClauseForms.{is_clause_from, units_of_clause}
use Rattle.pb_write.proofs.forms.is_clause.Goals as goal

pub returns-then-constraint-eq1 : goal.returns-then-constraint-eq1
returns-then-constraint-eq1 c =
    let relation : (linear c.args.constraint.now).relation ≡ AtLeast = c.in-AtLeast.is in
    let bound : (linear c.args.constraint.now).bound ≡ pos 1 = search rules in
    (λ t. is_clause_from (linear c.args.constraint.now) relation bound (c.have_unit_coefficients.ensures.0 t), λ h. c.have_unit_coefficients.ensures.1 (units_of_clause (linear c.args.constraint.now) h))
