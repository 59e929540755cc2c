use Rattle.std.proofs.Common.{◌∙◌, ap, Some}
use Rattle.pb_report.specs.Draft.{status_lines}
use Rattle.pb_report.proofs.draft.Draft.finish.Goals as goal

pub returns-in_ok-witness-in-Optimum-clause-claimed : goal.returns-in_ok-witness-in-Optimum-clause-claimed
returns-in_ok-witness-in-Optimum-clause-claimed c = λ vars text h. record {
  known = h.known;
  status = h.status ∙ ap status_lines (c.in-Some.is ∙ ap Some c.in-Optimum.is);
  cost = c.args.self.cost;
  last_cost = h.cost;
  cost_is = c.in_ok-witness-in-Optimum.ensures.cost;
  values = c.in_ok-witness-in-Optimum.ensures.values vars _ h;
}

pub returns-in_ok-witness-in-Satisfiable-clause-claimed : goal.returns-in_ok-witness-in-Satisfiable-clause-claimed
returns-in_ok-witness-in-Satisfiable-clause-claimed c = λ vars text h. record {
  known = h.known;
  status = h.status ∙ ap status_lines (c.in-Some.is ∙ ap Some c.in-Satisfiable.is);
  cost = c.args.self.cost;
  last_cost = h.cost;
  cost_is = c.in_ok-witness-in-Satisfiable.ensures.cost;
  values = c.in_ok-witness-in-Satisfiable.ensures.values vars _ h;
}
