use Rattle.std.proofs.Common.{◌≤◌, sym, subst, arith, rules, FitsSigned}
use Rattle.std.proofs.lemmas.Int.{to_z-of_z}
use Rattle.pb_inst.proofs.NumberWidth.{number_width}
use Rattle.pb_inst.specs.Constraints.{linear}
use Rattle.pb_inst.specs.Limits.{constraint_magnitude, AllVariablesWithin}
use Rattle.pb_inst.specs.Problem.{LinearConstraint}
use Rattle.pb_inst.specs.declared.limits.TheConstants.{SUM_BOUND}
use Rattle.pb_normal.specs.Exact.{IsNormalFormOf}
use Rattle.pb_normal.specs.NormalForm.{NormalForm, KeepsFeasible, KeepsCost}
use Rattle.pb_normal.proofs.FormLemmas.{form_is, form_is_normal, form_keeps_cost}
use Rattle.pb_normal.proofs.RowLemmas.{read_all, room_for, no_rows_yet, rows_step, all_rows, rows_mean}
use Rattle.pb_normal.proofs.forms.form_of.Goals as goal

pub add_constraint-requires : goal.add_constraint-requires
add_constraint-requires g c = record {
  bounded = read_all (λ (d : LinearConstraint). constraint_magnitude d ≤ SUM_BOUND) c.args.instance.now.constraints c.loop-i.i (linear c.constraint.result) c.constraint.ensures.value c.constraint.ensures.proper.limits.constraint_sums;
  room = room_for c.args.instance.now.vars c.args.instance.now c.loop-i.i (linear c.constraint.result) c.loop-i.rows c.constraint.ensures.proper c.constraint.ensures.value c.loop-i.invariant;
}

pub loop-i-init : goal.loop-i-init
loop-i-init g c = no_rows_yet c.args.instance.now.vars c.args.instance.now.constraints c.new-rows.result c.new-rows.ensures

pub loop-i-preserved : goal.loop-i-preserved
loop-i-preserved g c =
    let n = c.args.instance.now.vars in
    let constraints = c.args.instance.now.constraints in
    let here : LinearConstraint = linear c.constraint.result in
    let within = read_all (λ (d : LinearConstraint). AllVariablesWithin n d.terms) constraints c.loop-i.i here c.constraint.ensures.value c.constraint.ensures.proper.variables.in_constraints in
    rows_step n constraints c.loop-i.i here c.loop-i.rows _ c.constraint.ensures.value within c.loop-i.invariant c.in_ok-add_constraint.ensures.rows c.in_ok-add_constraint.ensures.room

pub shared-requires : goal.shared-requires
shared-requires g c =
    let vars = c.args.instance.now.vars in
    let rows = all_rows vars c.args.instance.now.constraints c.loop-i.i c.loop-i.rows (omega arith) c.loop-i.invariant in
    let fits : FitsSigned number_width c.merge_objective.new.sum.base = search rules in
    let told = c.in_ok-merge_objective.ensures in
    record { normal = form_is_normal c.args.instance.now c.vars.result c.loop-i.rows c.merge_objective.new.sum.base _ c.merge_objective.new.sum.terms.items _ c.deref.result.now c.vars.ensures.value c.vars.ensures.proper.limits.constraint_count rows told.sum told.value told.bounded (to_z-of_z number_width _ fits) c.deref.ensures.value c.in_ok-objective.ensures.terms; fits = record { rows = c.facts.ensures; objective = c.in_ok-objective.ensures.fits } }

pub returns-clause-exact : goal.returns-clause-exact
returns-clause-exact g c =
    let vars = c.args.instance.now.vars in
    let rows = all_rows vars c.args.instance.now.constraints c.loop-i.i c.loop-i.rows (omega arith) c.loop-i.invariant in
    let fits : FitsSigned number_width c.merge_objective.new.sum.base = search rules in
    subst (λ (form : NormalForm). IsNormalFormOf c.args.instance.now form) (sym c.in_ok-shared.ensures) (form_is c.args.instance.now c.vars.result c.loop-i.rows c.merge_objective.new.sum.base _ c.merge_objective.new.sum.terms.items _ c.deref.result.now c.vars.ensures.value rows c.in_ok-merge_objective.ensures.sum (to_z-of_z number_width _ fits) c.deref.ensures.value c.in_ok-objective.ensures.terms)

pub returns-clause-feasible : goal.returns-clause-feasible
returns-clause-feasible g c =
    subst (λ (form : NormalForm). KeepsFeasible c.args.instance.now form) (sym c.in_ok-shared.ensures) (rows_mean c.args.instance.now.vars c.args.instance.now.constraints c.loop-i.rows (all_rows c.args.instance.now.vars c.args.instance.now.constraints c.loop-i.i c.loop-i.rows (omega arith) c.loop-i.invariant))

pub returns-clause-cost : goal.returns-clause-cost
returns-clause-cost g c =
    let fits : FitsSigned number_width c.merge_objective.new.sum.base = search rules in
    subst (λ (form : NormalForm). KeepsCost c.args.instance.now form) (sym c.in_ok-shared.ensures) (form_keeps_cost c.args.instance.now c.vars.result c.loop-i.rows c.merge_objective.new.sum.base _ c.merge_objective.new.sum.terms.items _ c.deref.result.now c.in_ok-merge_objective.ensures.value (to_z-of_z number_width _ fits) c.deref.ensures.value c.in_ok-objective.ensures.terms)
