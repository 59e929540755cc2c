use Rattle.std.proofs.Common.{◌∙◌, subst}
use Rattle.pb_search.specs.Held.{IsNotAfter}
use Rattle.pb_search.specs.Searcher.{Searcher}
use Rattle.pb_subtree.proofs.HeldLemmas.{not_after_onward}
use Rattle.pb_workers.proofs.piece.search_piece_beside.Goals as goal

pub returns-clause-not_after : goal.returns-clause-not_after
returns-clause-not_after g c =
    not_after_onward c.args.search.now.division.problem c.args.best.now.held c.begin.new.best.held c.run_beside.new.best.held c.begin.ensures.not_after
    (subst (λ (s : Searcher). IsNotAfter s.division.problem c.begin.new.best.held c.run_beside.new.best.held) (c.is_settled-is_settled.ensures.unchanged ∙ c.begin.ensures.unchanged) c.run_beside.ensures.not_after)
