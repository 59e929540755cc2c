use Rattle.std.proofs.Common.{rules, ◌≡◌, ◌≤◌, ℕ, List, All, subst, sym}
use Rattle.std.proofs.lemmas.List.Elements.{All-nil}
use Rattle.pb_inst.specs.Literal.{Literal}
use Rattle.pb_inst.specs.Meaning.{literal_value}
use Rattle.pb_inst.specs.Cubes.{MakesTrue}
use Rattle.pb_engine.specs.Soundness.{assumptions}
use Rattle.pb_trail.specs.declared.propagation.Step.TheVariants.{Fixed, Conflict}
use Rattle.pb_subtree.proofs.Engines.{same_constraints_onward}
use Rattle.pb_subtree.proofs.Moves.{All_front}
use Rattle.pb_subtree.proofs.SearchLemmas.{same_solution}
use Rattle.pb_subtree.proofs.RootLemmas.{All_back, root_and_cube}
use Rattle.pb_subtree.proofs.root.stand_below.Goals as goal

pub assume_all-requires-clause-variables : goal.assume_all-requires-clause-variables
assume_all-requires-clause-variables g c = subst (λ (n : ℕ). All (λ (l : Literal). l.var ≤ n) c.args.root.now) (sym c.return_to_root.ensures.constraints.vars) c.requires.root

pub assume_all-requires-2-clause-variables : goal.assume_all-requires-2-clause-variables
assume_all-requires-2-clause-variables g c =
    let same = same_constraints_onward c.args.engine.now c.return_to_root.new.engine c.assume_all.new.engine c.return_to_root.ensures.constraints c.assume_all.ensures.constraints in
    subst (λ (n : ℕ). All (λ (l : Literal). l.var ≤ n) c.args.cube.now) (sym same.vars) c.requires.cube

pub returns-then-eq-clause-conflict : goal.returns-then-eq-clause-conflict
returns-then-eq-clause-conflict g c _ a h _ =
    let is : c.return_to_root.result ≡ Conflict = search rules in
    c.return_to_root.ensures.conflict is a h

pub returns-then-eq-2-clause-constraints : goal.returns-then-eq-2-clause-constraints
returns-then-eq-2-clause-constraints g c = same_constraints_onward c.args.engine.now c.return_to_root.new.engine c.assume_all.new.engine c.return_to_root.ensures.constraints c.assume_all.ensures.constraints

pub returns-then-eq-2-clause-conflict : goal.returns-then-eq-2-clause-conflict
returns-then-eq-2-clause-conflict g c _ a h all =
    let fixed : c.return_to_root.result ≡ Fixed = search rules in
    let is : c.assume_all.result ≡ Conflict = search rules in
    let nothing : MakesTrue a (assumptions c.return_to_root.new.engine) = subst (λ (x : List Literal). MakesTrue a x) (sym (c.return_to_root.ensures.no_assumptions fixed)) (All-nil (λ l. literal_value a l ≡ 1)) in
    c.assume_all.ensures.conflict is a (same_solution c.args.engine.now c.return_to_root.new.engine a c.return_to_root.ensures.constraints h) nothing (All_front (λ l. literal_value a l ≡ 1) c.args.root.now c.args.cube.now all)

pub returns-clause-constraints : goal.returns-clause-constraints
returns-clause-constraints g c =
    same_constraints_onward c.args.engine.now c.assume_all.new.engine c.assume_all-2.new.engine (same_constraints_onward c.args.engine.now c.return_to_root.new.engine c.assume_all.new.engine c.return_to_root.ensures.constraints c.assume_all.ensures.constraints) c.assume_all-2.ensures.constraints

pub returns-clause-fixed : goal.returns-clause-fixed
returns-clause-fixed g c is a h =
    let fixed : c.return_to_root.result ≡ Fixed = search rules in
    let first : c.assume_all.result ≡ Fixed = search rules in
    let at_root = same_solution c.args.engine.now c.return_to_root.new.engine a c.return_to_root.ensures.constraints h in
    let under_root = same_solution c.return_to_root.new.engine c.assume_all.new.engine a c.assume_all.ensures.constraints at_root in
    root_and_cube a (assumptions c.return_to_root.new.engine) (assumptions c.assume_all.new.engine) (assumptions c.assume_all-2.new.engine) c.args.root.now c.args.cube.now (c.return_to_root.ensures.no_assumptions fixed)
    (c.assume_all.ensures.fixed first a at_root) (c.assume_all-2.ensures.fixed is a under_root)

pub returns-clause-conflict : goal.returns-clause-conflict
returns-clause-conflict g c is a h all =
    let fixed : c.return_to_root.result ≡ Fixed = search rules in
    let first : c.assume_all.result ≡ Fixed = search rules in
    let at_root = same_solution c.args.engine.now c.return_to_root.new.engine a c.return_to_root.ensures.constraints h in
    let under_root = same_solution c.return_to_root.new.engine c.assume_all.new.engine a c.assume_all.ensures.constraints at_root in
    let nothing : MakesTrue a (assumptions c.return_to_root.new.engine) = subst (λ (x : List Literal). MakesTrue a x) (sym (c.return_to_root.ensures.no_assumptions fixed)) (All-nil (λ l. literal_value a l ≡ 1)) in
    c.assume_all-2.ensures.conflict is a under_root ((c.assume_all.ensures.fixed first a at_root).1 (nothing, All_front (λ l. literal_value a l ≡ 1) c.args.root.now c.args.cube.now all)) (All_back (λ l. literal_value a l ≡ 1) c.args.root.now c.args.cube.now all)
