use Rattle.std.proofs.Common.{◌∙◌, ◌++◌, ap, sym}
use Rattle.std.proofs.lemmas.List.Filters.{dedup_is}
use Rattle.std.proofs.lemmas.List.Kept.{Contains-dedup_nat, Contains-from_dedup}
use Rattle.std.proofs.lemmas.List.Sorted.{Contains-permutation, IsPermutation-sym}
use Rattle.std.proofs.lemmas.Map.Keys.{IsStrictlyIncreasing-dedup}
use Rattle.pb_join.proofs.PartNames.{named_all, named_more}
use Rattle.pb_join.proofs.parts.naming.named_pieces.Goals as goal

pub returns : goal.returns
returns c =
    let is = dedup_is _ _ _ c.dedup.ensures.filtered in
    let moved = c.sort_unstable.ensures.permutation in
    let here = named_all c.args.parts.now c.loop-part.part-index _ c.loop-part.invariant c.loop-part-test.false in
    record {
      rising = rw is (IsStrictlyIncreasing-dedup _ c.sort_unstable.ensures.sorted);
      each = λ i. (
        λ has. (here i).0 (Contains-permutation _ _ i (IsPermutation-sym _ _ moved) (Contains-from_dedup _ _ i (rw is at has))),
        λ named. rw is (Contains-dedup_nat _ i (Contains-permutation _ _ i moved ((here i).1 named))),
      );
    }

pub loop-part-preserved : goal.loop-part-preserved
loop-part-preserved c =
    c.in_ok-extend_from_slice.ensures.items ∙ ap (λ l. c.loop-part.named.items ++ l) c.deref.ensures.value
    ∙ named_more c.args.parts.now c.loop-part.part-index c.part-item.result c.loop-part.named.items c.loop-part-test.true (sym c.part-item.is) c.loop-part.invariant
