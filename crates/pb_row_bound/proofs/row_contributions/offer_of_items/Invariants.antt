use Rattle.std.proofs.Common.{◌≡◌, take, false, map}
use Rattle.pb_row_bound.specs.DisjointRows.{meets_marks}
use Rattle.pb_row_bound.specs.Offers.{offer_of}
use Rattle.pb_row_bound.proofs.row_contributions.offer_of_items.Given as goal

abbrev pub invariant-loop-item : goal.invariant-loop-item
invariant-loop-item g l = record {
  offer_is : l.offer ≡ offer_of g.C.Coefficient.limit l.trail.form.objective l.trail.trail (take l.item-index (map g.T.Weighs.term l.items));
  unmet : meets_marks l.trail.trail l.marks (take l.item-index (map g.T.Weighs.term l.items)) ≡ false;
}
