use Rattle.std.proofs.Common.{◌≡◌, ◌+◌, ◌*◌, ◌≤◌, length, get_or, take}
use Rattle.pb_inst.specs.Literal.{Literal}
use Rattle.pb_normal.specs.Literals.{weight_of}
use Rattle.pb_rows.specs.Index.{literal_place}
use Rattle.pb_dual.specs.Saturation.{capped}
use Rattle.pb_dual.specs.ReducedCosts.{parts}
use Rattle.pb_dual.proofs.reduced_costs.reprice.Given as goal

abbrev pub invariant-loop-term : goal.invariant-loop-term
invariant-loop-term g l = record {
  count : length l.costs ≡ length l.initial.costs;
  each : (m : Literal) → 1 ≤ m.var → m.var ≤ length l.values → get_or l.costs (literal_place m) 0 + l.to * weight_of m (take l.term-index (capped l.most l.terms)) ≡ get_or l.initial.costs (literal_place m) 0 + l.from * weight_of m (take l.term-index (capped l.most l.terms));
  sum : l.sum ≡ parts l.costs l.values;
}
