use Rattle.std.proofs.Common.{◌≡◌, false}
use Rattle.std.specs.Prelude.{IfNone}
use Rattle.pb_workers.specs.Parts.{AreSearched}
use Rattle.pb_workers.proofs.alone.search_all.Given as goal

-- the pieces so far are searched
abbrev pub invariant-loop-piece : goal.invariant-loop-piece
invariant-loop-piece l = record {
  same_instance : l.best.problem ≡ l.initial.best.problem;
  same_search : l.search.division ≡ l.initial.search.division;
  searched : AreSearched l.initial.search.division l.piece l.nodes l.best.held l.cut;
  uncut : IfNone l.nodes (l.cut ≡ false);
}
