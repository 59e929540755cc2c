use Rattle.std.proofs.Common.{◌∙◌, subst, sym}
use Rattle.std.specs.Prelude.{IfSome, IsNone}
use Rattle.clap.specs.Words.{found_of, one_of, rows_of}
use Rattle.clap.proofs.WalkLemmas.{one_text-rows}
use Rattle.pb_line.specs.Values.{SpellsIfGiven}
use Rattle.pb_line.proofs.Values.{spelled_if_given, unspelled_if_given}
use Rattle.pb_line.proofs.matched.count_if_given.Goals as goal

pub returns-clause-some : goal.returns-clause-some
returns-clause-some c =
    let found = found_of c.args.matches.now in
    let rows = one_text-rows found c.args.name.now in
    subst (λ got. IfSome got (SpellsIfGiven 32 (one_of c.args.name.now (rows_of found)))) (sym c.ok.ensures.value)
    (spelled_if_given 32 _ c.try_get_one.result (λ e. c.try_get_one.ensures.none (rows ∙ e)) (λ t e. c.try_get_one.ensures.value t (rows ∙ e)))

pub returns-clause-none : goal.returns-clause-none
returns-clause-none c =
    let rows = one_text-rows (found_of c.args.matches.now) c.args.name.now in
    λ none number. unspelled_if_given 32 _ c.try_get_one.result number (λ e. c.try_get_one.ensures.none (rows ∙ e)) (λ t e. c.try_get_one.ensures.value t (rows ∙ e)) (subst IsNone c.ok.ensures.value none)
