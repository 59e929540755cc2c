use Rattle.std.proofs.Common.{◌≡◌, ◌∙◌, ap}
use Rattle.pb_search.specs.Searcher.{Searcher}
use Rattle.pb_workers.proofs.AloneLaws.{answer_alone}
use Rattle.pb_workers.proofs.alone.solve_from.Goals as goal

pub returns-clause-parts : goal.returns-clause-parts
returns-clause-parts c =
    let of_instance : c.search_all-cut.new.best.problem ≡ c.args.inst.now = c.search_all-cut.ensures.same_instance ∙ (c.begin.ensures.same_instance ∙ c.requires.same_instance) in
    answer_alone c.args.inst.now c.args.pieces.now c.begin.new.self.division c.len.result c.args.nodes c.search_all-cut.new.best c.search_all-cut.result
    (ap (λ (s : Searcher). s.division) (c.begin.ensures.unchanged ∙ c.in_ok-search.ensures)) of_instance c.len.ensures.count c.search_all-cut.ensures.searched
