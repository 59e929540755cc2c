use Rattle.std.proofs.Common.{Result, sym, subst}
use Rattle.std.specs.Prelude.{IfErr}
use Rattle.pb_session.specs.declared.faults.SessionFault.{SessionFault}
use Rattle.pb_c.specs.Called.{RefusesClause}
use Rattle.pb_c.proofs.ClauseLaws.{none_told, refused_at_end}
use Rattle.pb_c.proofs.building.add_clause.Goals as goal
use Rattle.pb_c.proofs.building.add_clause.Goals.{in-Ok, in_default}

pub add_units-requires : goal.add_units-requires
add_units-requires c = none_told _ _ c.has_terms.ensures c.if-has_terms.false

pub returns-clause-refused : goal.returns-clause-refused
returns-clause-refused c =
    let Refused = λ (said : Result (Unit {0}) SessionFault). IfErr said (RefusesClause c.args.session.now c.args.literals.now) in
    elim c.match-add_units.branch [
      | in-Ok w ↦
          let units = w.in-Ok.ensures.units in let end = w.end-said.ensures in
          subst Refused (sym w.said-is) (refused_at_end _ c.add_units.new.session units.0 _ _ units.1 units.2 end.too_large end.too_many end.other)
      | in_default w ↦ subst Refused (sym w.said-is) c.add_units.ensures.refused
    ]
