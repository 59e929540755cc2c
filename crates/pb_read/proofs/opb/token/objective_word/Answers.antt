use Rattle.std.proofs.Common.{sym, ap}
use Rattle.pb_read.specs.Capped.{capped}
use Rattle.pb_read.proofs.TokenCuts.{no_objective_word, objective_word_is}
use Rattle.pb_read.proofs.opb.token.objective_word.Goals as goal

pub returns-in-None-clause-token : goal.returns-in-None-clause-token
returns-in-None-clause-token c = sym (ap capped (no_objective_word c.args.after.now c.as_slice.result.now c.as_slice.ensures c.in-None.ensures.cases))

pub returns-in-Some-clause-token : goal.returns-in-Some-clause-token
returns-in-Some-clause-token c =
    let h = c.in-Some.ensures.cases in
    sym (ap capped (objective_word_is c.args.after.now c.in-Some.rest.now c.as_slice.result.now c.as_slice.ensures h.0 h.1).token)

pub returns-in-Some-clause-rest : goal.returns-in-Some-clause-rest
returns-in-Some-clause-rest c =
    let h = c.in-Some.ensures.cases in
    sym (objective_word_is c.args.after.now c.in-Some.rest.now c.as_slice.result.now c.as_slice.ensures h.0 h.1).rest_is
