use Rattle.std.proofs.Common.{rules, subst, sym}
use Rattle.pb_questions.specs.Form.{IsFormOf}
use Rattle.pb_session.proofs.ready.made_for.Goals as goal

pub returns : goal.returns
returns c =
    let p = c.args.instance.now in let form = c.in_ok-normal.normal in
    let is : IsFormOf p form = record { vars = c.in_ok-normal.ensures.variables; feasible = c.in_ok-normal.ensures.feasible; costs = c.in_ok-normal.ensures.cost } in
    record {
      search = subst (IsFormOf p) (sym c.in_ok-search.ensures) is;
      known = c.in_ok-known.ensures p (search rules);
    }
