use Rattle.std.proofs.Common.{rules, FitsSigned}
use Rattle.std.proofs.lemmas.Int.{to_z-of_z}
use Rattle.pb_inst.proofs.NumberWidth.{number_width}
use Rattle.pb_inst.specs.Constraints.{linear}
use Rattle.pb_inst.specs.declared.constraints.Relation.TheVariants.{AtLeast, AtMost, Equal}
use Rattle.pb_normal.proofs.FormLemmas.{relation_rows, at_least_rows, at_most_rows, equal_rows}
use Rattle.pb_normal.proofs.forms.add_constraint.Goals as goal

pub returns-in-AtLeast-clause-rows : goal.returns-in-AtLeast-clause-rows
returns-in-AtLeast-clause-rows g c =
    let fits : FitsSigned number_width c.args.constraint.now.bound = search rules in
    relation_rows c.add_at_least.result AtLeast (linear c.args.constraint.now) c.args.rows.now c.add_at_least.new.rows _ c.in-AtLeast.is (to_z-of_z number_width c.args.constraint.now.bound fits) (at_least_rows c.add_at_least.result c.args.rows.now c.add_at_least.new.rows c.args.constraint.now.terms c.merge.new.self.base _ c.merge.new.self.terms.items c.in_ok-merge.ensures.value c.in_ok-merge.ensures.positive c.add_at_least.ensures.rows)

pub returns-in-AtMost-clause-rows : goal.returns-in-AtMost-clause-rows
returns-in-AtMost-clause-rows g c =
    let fits : FitsSigned number_width c.args.constraint.now.bound = search rules in
    relation_rows c.add_at_most.result AtMost (linear c.args.constraint.now) c.args.rows.now c.add_at_most.new.rows _ c.in-AtMost.is (to_z-of_z number_width c.args.constraint.now.bound fits) (at_most_rows c.add_at_most.result c.args.rows.now c.add_at_most.new.rows c.args.constraint.now.terms c.merge.new.self.base _ c.merge.new.self.terms.items c.in_ok-merge.ensures.value c.in_ok-merge.ensures.positive c.add_at_most.ensures.rows)

pub returns-in_ok-add_at_least-in-Equal-clause-rows : goal.returns-in_ok-add_at_least-in-Equal-clause-rows
returns-in_ok-add_at_least-in-Equal-clause-rows g c =
    let fits : FitsSigned number_width c.args.constraint.now.bound = search rules in
    relation_rows c.add_at_most-in-Equal.result Equal (linear c.args.constraint.now) c.args.rows.now c.add_at_most-in-Equal.new.rows _ c.in-Equal.is (to_z-of_z number_width c.args.constraint.now.bound fits) (equal_rows c.add_at_most-in-Equal.result c.args.rows.now c.add_at_least-in-Equal.new.rows c.add_at_most-in-Equal.new.rows c.args.constraint.now.terms c.merge.new.self.base _ c.merge.new.self.terms.items c.in_ok-merge.ensures.value c.in_ok-merge.ensures.positive c.in_ok-add_at_least-in-Equal.ensures.rows c.add_at_most-in-Equal.ensures.rows)
