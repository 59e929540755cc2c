use Rattle.std.proofs.Common.{◌∙◌, ap, sym}
use Rattle.pb_normal.specs.Widths.{either}
use Rattle.pb_search.specs.Searcher.{Searcher}
use Rattle.pb_search.proofs.DoneLemmas.{own_renamed}
use Rattle.pb_search.proofs.search.Search.run.Goals as goal
use Rattle.pb_search.proofs.search.Search.run.Goals.{in-Narrow, in-Wide}

pub returns-in-Some-Some-clause-own : goal.returns-in-Some-Some-clause-own
returns-in-Some-Some-clause-own g c alone =
    let inside = ap (λ (s : Searcher). s.division) c.self.view_is in
    elim c.match-self.branch [
      | in-Narrow w ↦ own_renamed c.args.self.now.division w.in-Narrow.search c.args.piece c.args.best.now w.search-outcome.new.best c.match-self.best (sym (ap (λ x. either x) w.in-Narrow.is) ∙ inside) w.best-is (w.search-outcome.ensures.searched.own alone)
      | in-Wide w ↦ own_renamed c.args.self.now.division w.in-Wide.search c.args.piece c.args.best.now w.search-outcome-in-Wide.new.best c.match-self.best (sym (ap (λ x. either x) w.in-Wide.is) ∙ inside) w.best-is (w.search-outcome-in-Wide.ensures.searched.own alone)
    ]

pub returns-after-self-2-clause-own : goal.returns-after-self-2-clause-own
returns-after-self-2-clause-own g c alone =
    let inside = ap (λ (s : Searcher). s.division) c.self.view_is in
    elim c.match-self.branch [
      | in-Narrow w ↦ own_renamed c.args.self.now.division w.in-Narrow.search c.args.piece c.args.best.now w.search-outcome.new.best c.match-self.best (sym (ap (λ x. either x) w.in-Narrow.is) ∙ inside) w.best-is (w.search-outcome.ensures.searched.own alone)
      | in-Wide w ↦ own_renamed c.args.self.now.division w.in-Wide.search c.args.piece c.args.best.now w.search-outcome-in-Wide.new.best c.match-self.best (sym (ap (λ x. either x) w.in-Wide.is) ∙ inside) w.best-is (w.search-outcome-in-Wide.ensures.searched.own alone)
    ]
