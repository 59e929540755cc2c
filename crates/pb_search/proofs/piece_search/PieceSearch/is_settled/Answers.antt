use Rattle.std.proofs.Common.{◌≡◌, ◌∙◌, ap, subst, sym}
use Rattle.pb_inst.specs.Problem.{Problem}
use Rattle.pb_cubes.specs.Done.{Division, IsDone}
use Rattle.pb_search.specs.Root.{IsFixedFor}
use Rattle.pb_search.proofs.DoneLemmas.{closed_done}
use Rattle.pb_search.proofs.piece_search.PieceSearch.is_settled.Goals as goal

pub returns-clause-settled : goal.returns-clause-settled
returns-clause-settled g c closed i =
    let d : Division = record { problem = c.self.inside.instance.now; cubes = c.self.inside.pieces.now.cubes } in
    let e : c.args.best.now.problem ≡ d.problem = c.requires ∙ sym (ap (λ (x : Division). x.problem) c.self.view_is) in
    let there : IsFixedFor d.problem c.fixed-is_closed.result.0.now c.fixed-is_closed.result.1 c.args.best.now.held =
    subst (λ (p : Problem). IsFixedFor p c.fixed-is_closed.result.0.now c.fixed-is_closed.result.1 c.args.best.now.held) e (c.fixed-is_closed.ensures c.args.best.now.problem c.args.best.now.held c.serve.ensures.fixed) in
    subst (λ (x : Division). IsDone x i c.args.best.now.held) c.self.view_is (closed_done d i c.fixed-is_closed.result.0.now c.fixed-is_closed.result.1 c.args.best.now e c.cost.ensures.sound there closed)
