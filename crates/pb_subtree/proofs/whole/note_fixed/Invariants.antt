use Rattle.std.proofs.Common.{◌≡◌, ◌++◌, take}
use Rattle.std.specs.Vec.{vec_capacity}
use Rattle.pb_subtree.specs.Paths.{decided}
use Rattle.pb_subtree.proofs.PathLemmas.{AreFixed}
use Rattle.pb_subtree.proofs.whole.note_fixed.Given as goal

abbrev pub invariant-loop-branch : goal.invariant-loop-branch
invariant-loop-branch l = record {
  written : l.root.items ≡ l.initial.root.items ++ decided (take l.branch-index l.path);
  fixed : AreFixed (take l.branch-index l.path);
  same_room : vec_capacity l.root ≡ vec_capacity l.initial.root;
}
