use Rattle.std.proofs.Common.{ℕ, Option, refl, subst, sym}
use Rattle.pbcube_join.specs.Joining.{JoinsLine}
use Rattle.pbcube_join.proofs.run.join_asked.Goals as goal

pub returns-in_ok-end-in-Some-clause-joins : goal.returns-in_ok-end-in-Some-clause-joins
returns-in_ok-end-in-Some-clause-joins g c =
    subst (λ (tasks : Option ℕ). JoinsLine g.F.Files.reads g.F.Files.lists c.args.line.now tasks c.args.files.now c.join_tasks.new.files (g.W.Write.contents c.args.out.now.held) (g.W.Write.contents c.join_tasks.new.out.held) c.status.result) (sym c.in-Some.is) (c.in_ok-end-in-Some.end, c.in_ok-end-in-Some.ensures.joins, c.status.ensures)

pub returns-in_ok-joined-in-None-clause-joins : goal.returns-in_ok-joined-in-None-clause-joins
returns-in_ok-joined-in-None-clause-joins g c =
    subst (λ (tasks : Option ℕ). JoinsLine g.F.Files.reads g.F.Files.lists c.args.line.now tasks c.args.files.now c.join_line.new.files (g.W.Write.contents c.args.out.now.held) (g.W.Write.contents c.join_line.new.out.held) c.in_ok-joined-in-None.joined.status) (sym c.in-None.is) (c.in_ok-joined-in-None.joined, c.in_ok-joined-in-None.ensures.joins, refl)
