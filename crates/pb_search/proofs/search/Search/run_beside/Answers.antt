use Rattle.std.proofs.Common.{◌∙◌, ap, sym}
use Rattle.pb_normal.specs.Widths.{either}
use Rattle.pb_search.specs.Searcher.{Searcher}
use Rattle.pb_search.proofs.DoneLemmas.{own_renamed}
use Rattle.pb_search.proofs.search.Search.run_beside.Goals as goal
use Rattle.pb_search.proofs.search.Search.run_beside.Goals.{in-Narrow, in-Wide}

pub returns-clause-own : goal.returns-clause-own
returns-clause-own g c alone =
    let inside = ap (λ (s : Searcher). s.division) c.self.view_is in
    elim c.match-self.branch [
      | in-Narrow w ↦ own_renamed c.args.self.now.division w.in-Narrow.search c.args.piece c.args.best.now w.search.new.best c.match-self.best (sym (ap (λ x. either x) w.in-Narrow.is) ∙ inside) w.best-is (w.search.ensures.searched.own alone)
      | in-Wide w ↦ own_renamed c.args.self.now.division w.in-Wide.search c.args.piece c.args.best.now w.search-in-Wide.new.best c.match-self.best (sym (ap (λ x. either x) w.in-Wide.is) ∙ inside) w.best-is (w.search-in-Wide.ensures.searched.own alone)
    ]
