use Rattle.std.proofs.Common.{rules, ◌≡◌, ◌∙◌, ◌≤◌, [], ℕ, List, Bool, All, ap, sym, subst}
use Rattle.std.proofs.lemmas.List.Elements.{All-nil}
use Rattle.pb_inst.specs.Literal.{Literal}
use Rattle.pb_inst.specs.Meaning.{literal_value}
use Rattle.pb_inst.specs.Problem.{Problem}
use Rattle.pb_subtree.specs.Held.{IsNotAfter}
use Rattle.pb_subtree.specs.Solutions.{SatisfiesUnder}
use Rattle.pb_search.specs.Root.{Root, IsBetter, IsFixedFor}
use Rattle.pb_search.proofs.DoneLemmas.{fixed_under}
use Rattle.pb_search.proofs.RootLemmas.{better_than_earlier}
use Rattle.pb_search.proofs.whole_root.WholeRoot.begin.Goals as goal

pub begin_whole-outcome-requires-clause-variables : goal.begin_whole-outcome-requires-clause-variables
begin_whole-outcome-requires-clause-variables g c =
    let fixed : IsFixedFor c.args.best.now.problem c.self.inside.literals.items c.self.inside.is_closed c.args.best.now.held = subst (λ (r : Root). IsFixedFor c.args.best.now.problem r.literals r.closed c.args.best.now.held) (sym c.self.view_is) c.requires.fixed in
    subst (λ (n : ℕ). All (λ (l : Literal). l.var ≤ n) c.self.inside.literals.items) (sym c.requires.state.state.engine.vars) fixed.variables

pub begin_whole-outcome-requires-clause-root : goal.begin_whole-outcome-requires-clause-root
begin_whole-outcome-requires-clause-root g c a h better =
    let fixed : IsFixedFor c.args.best.now.problem c.self.inside.literals.items c.self.inside.is_closed c.args.best.now.held = subst (λ (r : Root). IsFixedFor c.args.best.now.problem r.literals r.closed c.args.best.now.held) (sym c.self.view_is) c.requires.fixed in
    fixed_under c.args.best.now.problem c.args.state.now.engine c.self.inside.literals.items c.self.inside.is_closed c.args.best.now.held a c.requires.state.state.engine fixed h better

pub invariant_of-self : goal.invariant_of-self
invariant_of-self g c =
    let p = c.args.best.now.problem in
    let s = c.args.state.now.engine in
    let whole = c.begin_whole-outcome in
    let kept = c.keep.new.kept in
    let same : whole.new.best.problem ≡ p = whole.ensures.ended.moves_on.same_instance in
    let view : c.self.inside.best.problem ≡ p = ap (λ (r : Root). r.best.problem) c.self.view_is ∙ c.requires.same_instance in
    let is : kept.problem ≡ p = c.keep.ensures.same_instance ∙ view in
    let later : IsNotAfter p whole.new.best.held kept.held = subst (λ (q : Problem). IsNotAfter q whole.new.best.held kept.held) same c.keep.ensures.not_after in
    let solution : (a : List Bool) → IsBetter p kept.held a → SatisfiesUnder s [] a =
    λ a h. record { solution = record { for_all_variables = h.for_all_variables ∙ sym c.requires.state.state.engine.vars; meets_rows = c.requires.state.rows a h.feasible }; makes_true = All-nil (λ l. literal_value a l ≡ 1) } in
    let there : IsFixedFor p whole.new.root.items c.eq-self-inside.result kept.held =
    record {
      variables = subst (λ (n : ℕ). All (λ (l : Literal). l.var ≤ n) whole.new.root.items) c.requires.state.state.engine.vars whole.ensures.variables;
      fixed = λ a h. whole.ensures.root a (solution a h) (better_than_earlier p whole.new.best.held kept.held a later h).improvement;
      none_better = λ closed a h. whole.ensures.searched (search rules) a (solution a h) (better_than_earlier p whole.new.best.held kept.held a later h).improvement;
    } in
    subst (λ (q : Problem). IsFixedFor q whole.new.root.items c.eq-self-inside.result kept.held) (sym is) there
