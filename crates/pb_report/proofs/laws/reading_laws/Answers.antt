use Rattle.pb_report.proofs.ReadingLaws.{attained_is_read_back, infeasible_is_read_back, memory_is_read_back, optimum_is_read_back, refusal_is_read_back, satisfiable_is_read_back, unknown_is_read_back}
use Rattle.pb_report.proofs.laws.reading_laws.Goals as goal

pub returns : goal.returns
returns c = record {
  optimum = optimum_is_read_back;
  attained = attained_is_read_back;
  satisfiable = satisfiable_is_read_back;
  infeasible = infeasible_is_read_back;
  unknown = unknown_is_read_back;
  memory = memory_is_read_back;
  refusal = refusal_is_read_back;
}
