use Rattle.pb_engine.proofs.ClauseLemmas.{clauses_exactly, one_list}
use Rattle.pb_engine.proofs.laws.clause_laws.Goals as goal

pub returns : goal.returns
returns c = record { met = clauses_exactly; one_list = one_list }
