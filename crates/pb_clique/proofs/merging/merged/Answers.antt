use Rattle.std.proofs.Common.{ap, ◌∙◌}
use Rattle.pb_inst.specs.Problem.{Problem, Statements}
use Rattle.pb_clique.proofs.CliqueLemmas.{says_same}
use Rattle.pb_clique.proofs.merging.merged.Goals as goal

pub returns-in-Ok : goal.returns-in-Ok
returns-in-Ok c =
    let finished = c.in-Ok.ensures.finished in
    says_same c.args.cliques.now c.args.instance.now c.in-Ok.merged c.put_kept.new.builder.constraints
    (ap (λ (q : Problem). q.vars) finished ∙ c.vars.ensures.value)
    (ap (λ (q : Problem). q.objective) finished ∙ c.in_ok-put_cliques.ensures.objective ∙ c.in_ok-put_kept.ensures.objective ∙ ap (λ (s : Statements). s.objective) c.in_ok-put_objective.ensures)
    (ap (λ (q : Problem). q.constraints) finished ∙ c.in_ok-put_cliques.ensures.added)
    c.in_ok-put_kept.ensures.kept c.requires
