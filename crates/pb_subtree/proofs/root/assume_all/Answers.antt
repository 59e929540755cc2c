use Rattle.std.proofs.Common.{rules, arith, ◌≡◌, ◌↔◌, List, take, sym, subst}
use Rattle.std.proofs.lemmas.List.{take_all}
use Rattle.std.proofs.lemmas.List.Elements.{All-nil}
use Rattle.pb_inst.specs.Literal.{Literal}
use Rattle.pb_inst.specs.Meaning.{literal_value}
use Rattle.pb_inst.specs.Cubes.{MakesTrue}
use Rattle.pb_engine.specs.Soundness.{assumptions}
use Rattle.pb_trail.specs.declared.propagation.Step.TheVariants.{Fixed, Conflict}
use Rattle.pb_subtree.proofs.Engines.{same_constraints_itself, same_constraints_onward}
use Rattle.pb_subtree.proofs.SearchLemmas.{same_solution}
use Rattle.pb_subtree.proofs.RootLemmas.{front_true, literals_next}
use Rattle.pb_subtree.proofs.root.assume_all.Goals as goal

pub returns-then-eq-clause-conflict : goal.returns-then-eq-clause-conflict
returns-then-eq-clause-conflict g c _ a h before all =
    let is : c.assume_literal.result ≡ Conflict = search rules in
    c.assume_literal.ensures.conflict is a (same_solution c.args.engine.now c.loop-lit.engine a c.loop-lit.invariant.constraints h)
    ((c.loop-lit.invariant.assumed a h).1 (before, front_true a c.loop-lit.lit-index c.args.literals.now all))
    (subst (λ (l : Literal). literal_value a l ≡ 1) (sym c.lit-item.is) (all c.loop-lit.lit-index c.lit-item.result c.loop-lit-test.true))

pub loop-lit-preserved : goal.loop-lit-preserved
loop-lit-preserved g c =
    let fixed : c.assume_literal.result ≡ Fixed = search rules in
    record {
      constraints = same_constraints_onward c.args.engine.now c.loop-lit.engine c.assume_literal.new.engine c.loop-lit.invariant.constraints c.assume_literal.ensures.constraints;
      sound = c.assume_literal.ensures.sound;
      no_conflict = c.assume_literal.ensures.fixed fixed;
      assumed = λ a h. literals_next a (assumptions c.args.engine.now) c.args.literals.now (assumptions c.loop-lit.engine) (assumptions c.assume_literal.new.engine) c.loop-lit.lit-index c.lit-item.result c.loop-lit-test.true c.lit-item.is (c.loop-lit.invariant.assumed a h)
          (c.assume_literal.ensures.kept fixed a (same_solution c.args.engine.now c.loop-lit.engine a c.loop-lit.invariant.constraints h));
    }

pub returns-clause-fixed : goal.returns-clause-fixed
returns-clause-fixed g c _ a h =
    let whole : take c.loop-lit.lit-index c.args.literals.now ≡ c.args.literals.now = take_all c.loop-lit.lit-index c.args.literals.now (omega arith) in
    subst (λ (x : List Literal). MakesTrue a (assumptions c.loop-lit.engine) ↔ (MakesTrue a (assumptions c.args.engine.now) × MakesTrue a x)) whole (c.loop-lit.invariant.assumed a h)

pub loop-lit-init : goal.loop-lit-init
loop-lit-init g c = record {
  constraints = same_constraints_itself c.args.engine.now;
  sound = c.requires.sound;
  no_conflict = c.requires.no_conflict;
  assumed = λ a h. ((λ all. (all, All-nil (λ l. literal_value a l ≡ 1))), (λ both. both.0));
}
