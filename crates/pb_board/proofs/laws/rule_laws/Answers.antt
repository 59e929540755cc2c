use Rattle.pb_board.proofs.LawLemmas.{next_number_is_new, least_word_is_least, claims_of_the_rest, offers_of_the_rest}
use Rattle.pb_board.proofs.laws.rule_laws.Goals as goal

pub returns-clause-next_number : goal.returns-clause-next_number
returns-clause-next_number c = next_number_is_new

pub returns-clause-least_word : goal.returns-clause-least_word
returns-clause-least_word c = least_word_is_least

pub returns-clause-claims_of_the_rest : goal.returns-clause-claims_of_the_rest
returns-clause-claims_of_the_rest c = claims_of_the_rest

pub returns-clause-offers_of_the_rest : goal.returns-clause-offers_of_the_rest
returns-clause-offers_of_the_rest c = offers_of_the_rest
