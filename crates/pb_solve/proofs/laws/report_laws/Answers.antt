use Rattle.pb_solve.proofs.DivisionLaws.{division_changes_nothing, one_outcome, outcome_is_of_text_alone}
use Rattle.pb_solve.proofs.laws.report_laws.Goals as goal

pub returns : goal.returns
returns c = record {
  one_outcome = one_outcome;
  division_changes_nothing = division_changes_nothing;
  of_text_alone = outcome_is_of_text_alone;
}
