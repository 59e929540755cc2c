use Rattle.std.proofs.Common.{◌∙◌, Bool, IsTrue, ap, subst, sym}
use Rattle.pb_normal.specs.Widths.{either}
use Rattle.pb_cubes.specs.Done.{Division, IsDone}
use Rattle.pb_search.specs.Searcher.{Searcher}
use Rattle.pb_search.proofs.search.Search.is_settled.Goals as goal
use Rattle.pb_search.proofs.search.Search.is_settled.Goals.{in-Narrow, in-Wide}

pub returns-clause-settled : goal.returns-clause-settled
returns-clause-settled c closed i =
    let inside = ap (λ (s : Searcher). s.division) c.self.view_is in
    elim c.match-self.branch [
      | in-Narrow w ↦ subst (λ (d : Division). IsDone d i c.args.best.now.held) (sym (ap (λ x. either x) w.in-Narrow.is) ∙ inside) (w.is_settled.ensures.settled (subst (λ (b : Bool). IsTrue b) w.result-is closed) i)
      | in-Wide w ↦ subst (λ (d : Division). IsDone d i c.args.best.now.held) (sym (ap (λ x. either x) w.in-Wide.is) ∙ inside) (w.is_settled-in-Wide.ensures.settled (subst (λ (b : Bool). IsTrue b) w.result-is closed) i)
    ]
