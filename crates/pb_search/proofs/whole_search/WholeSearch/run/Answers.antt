use Rattle.std.proofs.Common.{◌≡◌, sym, subst}
use Rattle.pb_normal.specs.NormalForm.{NormalForm}
use Rattle.pb_search.specs.Searched.{MaySearchUnder}
use Rattle.pb_search.proofs.whole_search.WholeSearch.run.Goals as goal

pub search-requires : goal.search-requires
search-requires g c =
    let same : c.in-Narrow.search ≡ c.args.self.now = cc in
    subst (λ (f : NormalForm). MaySearchUnder c.args.best.now.problem f c.args.cube.now) (sym same) c.requires

pub search-requires-in-Wide : goal.search-requires-in-Wide
search-requires-in-Wide g c =
    let same : c.in-Wide.search ≡ c.args.self.now = cc in
    subst (λ (f : NormalForm). MaySearchUnder c.args.best.now.problem f c.args.cube.now) (sym same) c.requires
