use Rattle.pb_inst.proofs.OrderProofs.{none_before_itself, before_is_transitive, before_is_total, least_is_unique}
use Rattle.pb_inst.proofs.LeastProofs.{least_exists}
use Rattle.pb_inst.proofs.order.order_laws.Goals as goal

pub returns : goal.returns
returns c = record {
  none_before_itself = none_before_itself;
  transitive = before_is_transitive;
  total = before_is_total;
  one_least = least_is_unique;
  least_exists = least_exists;
}
