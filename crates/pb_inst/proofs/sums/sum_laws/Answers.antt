use Rattle.pb_inst.proofs.SumProofs.{sum_value-cons, sum_value-append, sum_value-le, cost-le}
use Rattle.pb_inst.proofs.sums.sum_laws.Goals as goal

pub returns : goal.returns
returns c = record {
  of_term_and_rest = sum_value-cons;
  of_two_lists = sum_value-append;
  within_magnitude = sum_value-le;
  cost_within_bound = cost-le;
}
