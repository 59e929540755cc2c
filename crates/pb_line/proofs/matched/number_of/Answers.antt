use Rattle.std.proofs.Common.{◌∙◌}
use Rattle.clap.specs.Words.{found_of}
use Rattle.clap.proofs.WalkLemmas.{one_text-rows}
use Rattle.pb_line.proofs.Values.{got_if_spelled, spelled}
use Rattle.pb_line.proofs.matched.number_of.Goals as goal

pub returns-clause-some : goal.returns-clause-some
returns-clause-some c =
    let rows = one_text-rows (found_of c.args.matches.now) c.args.name.now in
    spelled 32 _ c.get_one.result (λ e. c.get_one.ensures.none (rows ∙ e)) (λ t e. c.get_one.ensures.value t (rows ∙ e))

pub returns-clause-only : goal.returns-clause-only
returns-clause-only c =
    let rows = one_text-rows (found_of c.args.matches.now) c.args.name.now in
    got_if_spelled 32 _ c.get_one.result (λ e. c.get_one.ensures.none (rows ∙ e)) (λ t e. c.get_one.ensures.value t (rows ∙ e))
