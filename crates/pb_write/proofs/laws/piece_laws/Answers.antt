use Rattle.pb_write.proofs.Meaning.{feasible_in_piece, cost_in_piece, variables_in_piece}
use Rattle.pb_write.proofs.laws.piece_laws.Goals as goal

pub returns : goal.returns
returns c = record {
  feasible = feasible_in_piece;
  cost = cost_in_piece;
  variables = variables_in_piece;
}
