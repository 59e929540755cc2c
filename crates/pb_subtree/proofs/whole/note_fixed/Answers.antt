use Rattle.std.proofs.Common.{rules, ◌≡◌, ◌≤◌, ◌+◌, ◌++◌, ◌∷◌, [], ◌∙◌, ℕ, List, Bool, All, ap, refl, subst, sym, take, true}
use Rattle.std.proofs.lemmas.List.{append-nil, append_assoc, take_more}
use Rattle.std.proofs.lemmas.List.Elements.{All-nil, All-cons, All-append}
use Rattle.pb_inst.specs.Literal.{Literal}
use Rattle.pb_inst.specs.Cubes.{MakesTrue}
use Rattle.pb_inst.specs.Meaning.{literal_value}
use Rattle.pb_control.specs.declared.branch.Branch.{Branch}
use Rattle.pb_subtree.specs.Paths.{decided, LiesOpen}
use Rattle.pb_subtree.proofs.Moves.{decided-push}
use Rattle.pb_subtree.proofs.PathLemmas.{AreFixed, fixed_true, fixed_within}
use Rattle.pb_subtree.proofs.whole.note_fixed.Goals as goal

pub loop-branch-init : goal.loop-branch-init
loop-branch-init c = record {
  written = sym (append-nil c.args.root.now.items);
  fixed = All-nil (λ (x : Branch). x.flipped ≡ true);
  same_room = refl;
}

pub loop-branch-preserved : goal.loop-branch-preserved
loop-branch-preserved c =
    let path = c.args.path.now in
    let first = c.args.root.now.items in
    let i = c.loop-branch.branch-index in
    let b = c.branch-item.result in
    let before = c.loop-branch.invariant in
    let more : take (i + 1) path ≡ take i path ++ b ∷ [] = take_more path i b c.loop-branch-test.true ∙ ap (λ (x : Branch). take i path ++ x ∷ []) (sym c.branch-item.is) in
    record {
      written = c.push_reserved.ensures.items ∙ (ap (λ (xs : List Literal). xs ++ b.lit ∷ []) before.written ∙ (append_assoc first (decided (take i path)) (b.lit ∷ []) ∙ ap (λ (xs : List Literal). first ++ xs) (sym (decided-push (take i path) b) ∙ ap (λ (xs : List Branch). decided xs) (sym more))));
      fixed = subst (λ (xs : List Branch). AreFixed xs) (sym more) (All-append (λ (x : Branch). x.flipped ≡ true) (take i path) (b ∷ []) before.fixed (All-cons (λ (x : Branch). x.flipped ≡ true) b [] (search rules) (All-nil (λ (x : Branch). x.flipped ≡ true))));
      same_room = search rules;
    }

-- what was there, and then the first literals of the path, which have no other value to try
fixed_after : (a : List Bool) (i : ℕ) (path : List Branch) (first after : List Literal) → after ≡ first ++ decided (take i path) → AreFixed (take i path) → LiesOpen a path → MakesTrue a first → MakesTrue a after
fixed_after a i path first after is fixed lies true_before = subst (λ (xs : List Literal). MakesTrue a xs) (sym is) (All-append (λ l. literal_value a l ≡ 1) first (decided (take i path)) true_before (fixed_true a i path fixed lies))

within_after : (n i : ℕ) (path : List Branch) (first after : List Literal) → after ≡ first ++ decided (take i path) → All (λ b. b.lit.var ≤ n) path → All (λ l. l.var ≤ n) first → All (λ l. l.var ≤ n) after
within_after n i path first after is within before = subst (λ (xs : List Literal). All (λ (l : Literal). l.var ≤ n) xs) (sym is) (All-append (λ (l : Literal). l.var ≤ n) first (decided (take i path)) before (fixed_within n i path within))

pub returns-clause-fixed : goal.returns-clause-fixed
returns-clause-fixed c a lies before = fixed_after a c.loop-branch.branch-index c.args.path.now c.args.root.now.items c.loop-branch.root.items c.loop-branch.invariant.written c.loop-branch.invariant.fixed lies before

pub returns-clause-variables : goal.returns-clause-variables
returns-clause-variables c n within before = within_after n c.loop-branch.branch-index c.args.path.now c.args.root.now.items c.loop-branch.root.items c.loop-branch.invariant.written within before

pub returns-then-not-branch-clause-fixed : goal.returns-then-not-branch-clause-fixed
returns-then-not-branch-clause-fixed c a lies before = fixed_after a c.loop-branch.branch-index c.args.path.now c.args.root.now.items c.loop-branch.root.items c.loop-branch.invariant.written c.loop-branch.invariant.fixed lies before

pub returns-then-not-branch-clause-variables : goal.returns-then-not-branch-clause-variables
returns-then-not-branch-clause-variables c n within before = within_after n c.loop-branch.branch-index c.args.path.now c.args.root.now.items c.loop-branch.root.items c.loop-branch.invariant.written within before
