use Rattle.std.proofs.Common.{◌≡◌, ◌≢◌, ◌∙◌, Bool, None, Some, ap, false, rules, subst, sym}
use Rattle.std.specs.Prelude.{◌↔◌, IfOk, IsErrOf, IsTrue}
use Rattle.pb_read.specs.declared.fault.ReadFault.{ReadFault}
use Rattle.pb_report.specs.declared.ends.RunFault.TheVariants as fault
use Rattle.pb_report.specs.declared.statuses.Status.TheVariants.{Unknown}
use Rattle.pb_solve.specs.declared.options.Ran.{Ran}
use Rattle.pb_solve.specs.Run.{IsPrepared, ReportsRefusal, StopsAtFault, stops_at_cubes}
use Rattle.pb_solve.proofs.OutcomeLaws.{found_by_answer, answers_report, both_told, cubes_read, cubes_unread, found_report_of, where_none}
use Rattle.pb_solve.proofs.TextLaws.{where_refused}
use Rattle.pb_solve.proofs.whole_run.run.Goals as goal
use Rattle.pb_solve.proofs.whole_run.run.Goals.{in-None, in-Some}

pub returns-in-Ok-clause-headline : goal.returns-in-Ok-clause-headline
returns-in-Ok-clause-headline g c = elim c.match-cubes.branch [
  | in-None w ↦ rw w.in-None.is (answers_report _ _ c.in-Ok.found _ None _ _ _ (subst (IsPrepared c.args.options.format (g.I.Read.remaining c.args.input.now.held) None c.args.options.split) (sym w.found-is ∙ c.in-Ok.is) w.prepare-found.ensures.prepared) c.report_answered.ensures.answers)
  | in-Some w ↦ rw w.in-Some.is (answers_report _ _ c.in-Ok.found _ (Some (g.C.Read.remaining w.in-Some.cubes.now.held)) _ _ _ (subst (IsPrepared c.args.options.format (g.I.Read.remaining c.args.input.now.held) (Some (g.C.Read.remaining w.in-Some.cubes.now.held)) c.args.options.split) (sym w.found-is ∙ c.in-Ok.is) w.prepare-found-in-Some.ensures.prepared) c.report_answered.ensures.answers)
]

pub returns-in-Ok-clause-budgeted : goal.returns-in-Ok-clause-budgeted
returns-in-Ok-clause-budgeted g c =
    let by_parts = found_by_answer _ _ c.args.options.format c.in-Ok.found.instance c.in-Ok.found.pieces c.args.options.nodes _ _ c.solve-answered.ensures.parts c.report_answered.ensures.uncut c.report_answered.ensures.budgeted in
    elim c.match-cubes.branch [
      | in-None w ↦ rw w.in-None.is (found_report_of _ _ c.in-Ok.found _ None _ _ _ (subst (IsPrepared c.args.options.format (g.I.Read.remaining c.args.input.now.held) None c.args.options.split) (sym w.found-is ∙ c.in-Ok.is) w.prepare-found.ensures.prepared) by_parts)
      | in-Some w ↦ rw w.in-Some.is (found_report_of _ _ c.in-Ok.found _ (Some (g.C.Read.remaining w.in-Some.cubes.now.held)) _ _ _ (subst (IsPrepared c.args.options.format (g.I.Read.remaining c.args.input.now.held) (Some (g.C.Read.remaining w.in-Some.cubes.now.held)) c.args.options.split) (sym w.found-is ∙ c.in-Ok.is) w.prepare-found-in-Some.ensures.prepared) by_parts)
    ]

pub returns-in-Ok-clause-no_budget : goal.returns-in-Ok-clause-no_budget
returns-in-Ok-clause-no_budget g c = where_none c.args.options.nodes _ _ c.report_answered.ensures.uncut c.solve-answered.ensures.no_budget

pub returns-in-Ok-clause-read_cubes : goal.returns-in-Ok-clause-read_cubes
returns-in-Ok-clause-read_cubes g c =
    let told : IsTrue (stops_at_cubes c.match-cubes.found) ↔ IsErrOf c.report_answered.result fault.ReadCubes = cubes_read _ _ c.in-Ok.found c.in-Ok.is c.report_answered.ensures.fault in
    elim c.match-cubes.branch [
      | in-None w ↦ rw w.in-None.is (subst (λ (b : Bool). IsTrue b ↔ IsErrOf c.report_answered.result fault.ReadCubes) (ap stops_at_cubes w.found-is ∙ sym w.prepare-found.ensures.cubes) told)
      | in-Some w ↦ rw (w.in-Some.is, w.cubes-is) (subst (λ (b : Bool). IsTrue b ↔ IsErrOf c.report_answered.result fault.ReadCubes) (ap stops_at_cubes w.found-is ∙ sym w.prepare-found-in-Some.ensures.cubes) told)
    ]

pub returns-in-Ok-clause-unread : goal.returns-in-Ok-clause-unread
returns-in-Ok-clause-unread g c = elim c.match-cubes.branch [
  | in-None w ↦ rw w.in-None.is (search rules)
  | in-Some w ↦ rw (w.in-Some.is, w.cubes-is) w.prepare-found-in-Some.ensures.unread
]

pub returns-in-Ok-clause-refused_input : goal.returns-in-Ok-clause-refused_input
returns-in-Ok-clause-refused_input g c = elim c.match-cubes.branch [
  | in-None w ↦ where_refused _ _ _ _ w.prepare-found.ensures.refused_input (λ fault stops. absurd (subst (StopsAtFault fault) (sym w.found-is ∙ c.in-Ok.is) stops))
  | in-Some w ↦ where_refused _ _ _ _ w.prepare-found-in-Some.ensures.refused_input (λ fault stops. absurd (subst (StopsAtFault fault) (sym w.found-is ∙ c.in-Ok.is) stops))
]

pub returns-in-Err-clause-headline : goal.returns-in-Err-clause-headline
returns-in-Err-clause-headline g c = elim c.match-cubes.branch [
  | in-None w ↦ rw w.in-None.is (c.report_prepare_error.ensures.reports _ _ None _ (subst (IsPrepared c.args.options.format (g.I.Read.remaining c.args.input.now.held) None c.args.options.split) (sym w.found-is ∙ c.in-Err.is) w.prepare-found.ensures.prepared))
  | in-Some w ↦ rw w.in-Some.is (c.report_prepare_error.ensures.reports _ _ (Some (g.C.Read.remaining w.in-Some.cubes.now.held)) _ (subst (IsPrepared c.args.options.format (g.I.Read.remaining c.args.input.now.held) (Some (g.C.Read.remaining w.in-Some.cubes.now.held)) c.args.options.split) (sym w.found-is ∙ c.in-Err.is) w.prepare-found-in-Some.ensures.prepared))
]

pub returns-in-Err-clause-unread : goal.returns-in-Err-clause-unread
returns-in-Err-clause-unread g c = elim c.match-cubes.branch [
  | in-None w ↦ rw w.in-None.is (search rules)
  | in-Some w ↦ rw (w.in-Some.is, w.cubes-is) w.prepare-found-in-Some.ensures.unread
]

pub returns-in-Err-clause-refused_input : goal.returns-in-Err-clause-refused_input
returns-in-Err-clause-refused_input g c =
    let refused : (fault : ReadFault) → StopsAtFault fault c.match-cubes.found → IfOk c.report_prepare_error.result (λ (ran : Ran). (ran.cut ≡ false) × (ran.status ≢ Unknown → ReportsRefusal fault (g.W.Write.contents c.args.out.now.held) (g.W.Write.contents c.report_prepare_error.new.out.held) ran.status)) =
    λ fault stops. both_told _ (λ (ran : Ran). ran.cut ≡ false) (λ (ran : Ran). ran.status ≢ Unknown → ReportsRefusal fault (g.W.Write.contents c.args.out.now.held) (g.W.Write.contents c.report_prepare_error.new.out.held) ran.status)
    c.report_prepare_error.ensures.uncut (c.report_prepare_error.ensures.refused_input fault (subst (StopsAtFault fault) c.in-Err.is stops)) in
    elim c.match-cubes.branch [
      | in-None w ↦ where_refused _ _ _ _ w.prepare-found.ensures.refused_input (λ fault stops. refused fault (rw w.found-is stops))
      | in-Some w ↦ where_refused _ _ _ _ w.prepare-found-in-Some.ensures.refused_input (λ fault stops. refused fault (rw w.found-is stops))
    ]

pub returns-in-Err-clause-read_cubes : goal.returns-in-Err-clause-read_cubes
returns-in-Err-clause-read_cubes g c =
    let told : IsTrue (stops_at_cubes c.match-cubes.found) ↔ IsErrOf c.report_prepare_error.result fault.ReadCubes = cubes_unread _ _ c.in-Err.error c.in-Err.is c.report_prepare_error.ensures.read_cubes in
    elim c.match-cubes.branch [
      | in-None w ↦ rw w.in-None.is (subst (λ (b : Bool). IsTrue b ↔ IsErrOf c.report_prepare_error.result fault.ReadCubes) (ap stops_at_cubes w.found-is ∙ sym w.prepare-found.ensures.cubes) told)
      | in-Some w ↦ rw (w.in-Some.is, w.cubes-is) (subst (λ (b : Bool). IsTrue b ↔ IsErrOf c.report_prepare_error.result fault.ReadCubes) (ap stops_at_cubes w.found-is ∙ sym w.prepare-found-in-Some.ensures.cubes) told)
    ]
