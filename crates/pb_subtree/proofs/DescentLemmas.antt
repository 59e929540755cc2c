-- What a dive takes off a budget of decisions.
use Rattle.std.proofs.Common.{◌≡◌, ◌≤◌, ℕ, ◌+◌, sym, subst, arith, length, Option}
use Rattle.pb_control.specs.Budget.{with_more}
use Rattle.pb_control.proofs.BudgetLemmas.{none_counted, counted_onward}
use Rattle.pb_subtree.specs.Descent.{IsDescentPaid}
use Rattle.pb_engine.specs.EngineState.{EngineState}

-- before the first decision
pub descent_begun : (s : EngineState) (budget : Option ℕ) → IsDescentPaid s s budget budget
descent_begun s budget = record { decisions = 0; counted = none_counted budget; assumed = omega arith }

-- after `more` decisions, and where the engine is the same then
pub descent_goes_on : (s e f g : EngineState) (more : ℕ) (budget left less : Option ℕ) → IsDescentPaid s e budget left → length f.levels ≤ length e.levels + more → left ≡ with_more more less → g ≡ f → IsDescentPaid s g budget less
descent_goes_on s e f g more budget left less h assumed counted same = record {
  decisions = h.decisions + more;
  counted = counted_onward h.decisions more budget left less h.counted counted;
  assumed = subst (λ (x : EngineState). length x.levels ≤ length s.levels + (h.decisions + more)) (sym same) (omega (arith, h.assumed, assumed));
}
