use Rattle.pb_normal.proofs.MinimaLemmas.{least_by_variables}
use Rattle.pb_normal.proofs.UniqueLemmas.{one_form}
use Rattle.pb_normal.proofs.laws.normal_form_laws.Goals as goal

pub returns : goal.returns
returns c = record { one_form = one_form; least_value = least_by_variables }
