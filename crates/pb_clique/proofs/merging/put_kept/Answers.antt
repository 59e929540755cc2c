use Rattle.std.proofs.Common.{ap, refl, subst, sym, ◌∙◌}
use Rattle.pb_inst.specs.Constraints.{linear}
use Rattle.pb_inst.specs.Problem.{Statements}
use Rattle.pb_clique.specs.Cliques.{Keeps}
use Rattle.pb_clique.proofs.CliqueLemmas.{keeps_added, keeps_followed}
use Rattle.std.proofs.Common.{take, ◌+◌}
use Rattle.pb_clique.proofs.merging.put_kept.Goals as goal

pub loop-i-preserved-then-follows : goal.loop-i-preserved-then-follows
loop-i-preserved-then-follows c = record {
  objective = c.loop-i.invariant.objective;
  kept = keeps_followed c.args.cliques.now c.args.instance.now.constraints c.loop-i.builder.constraints c.loop-i.i (linear c.constraint-constraint.result) c.constraint-constraint.ensures.value (c.if-follows.ensures refl) c.loop-i.invariant.kept;
}

pub loop-i-preserved : goal.loop-i-preserved
loop-i-preserved c =
    let cliques = c.args.cliques.now in
    record {
      objective = ap (λ (s : Statements). s.objective) c.in_ok-put_constraint.ensures ∙ c.loop-i.invariant.objective;
      kept = subst (λ (s : Statements). Keeps cliques (take (c.loop-i.i + 1) c.args.instance.now.constraints) s.constraints) (sym c.in_ok-put_constraint.ensures)
          (keeps_added cliques c.args.instance.now.constraints c.loop-i.builder.constraints c.loop-i.i (linear c.constraint-constraint.result) c.constraint-constraint.ensures.value c.loop-i.invariant.kept);
    }
