use Rattle.std.proofs.Common.{sym, subst}
use Rattle.pb_normal.specs.NormalForm.{NormalForm}
use Rattle.pb_search.specs.Form.{IsFormOf}
use Rattle.pb_search.proofs.tables.SearchTables.new.Goals as goal

pub new-requires-clause-form : goal.new-requires-clause-form
new-requires-clause-form c = subst (λ (f : NormalForm). IsFormOf c.args.instance.now f) (sym c.in-Narrow.ensures) (record { vars = c.requires.vars; feasible = c.requires.feasible; costs = c.requires.costs })

pub new-requires-in-Wide-clause-form : goal.new-requires-in-Wide-clause-form
new-requires-in-Wide-clause-form c = subst (λ (f : NormalForm). IsFormOf c.args.instance.now f) (sym c.in-Wide.ensures) (record { vars = c.requires.vars; feasible = c.requires.feasible; costs = c.requires.costs })
