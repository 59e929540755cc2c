use Rattle.pb_write.proofs.Turned.{never_at_most, feasible_as_written, cost_as_written, variables_as_written}
use Rattle.pb_write.proofs.laws.written_laws.Goals as goal

pub returns : goal.returns
returns c = record {
  never_at_most = never_at_most;
  feasible = feasible_as_written;
  cost = cost_as_written;
  variables = variables_as_written;
}
