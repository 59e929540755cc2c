use Rattle.std.proofs.Common.{◌≤◌, All, subst}
use Rattle.std.proofs.lemmas.Result.{IfOk-weaker, err_from_is_err_and}
use Rattle.pb_read.specs.declared.format.Format.TheVariants.{Cnf}
use Rattle.pb_read.specs.Cnf.{cnf_refusal}
use Rattle.pb_read.specs.Icnf.{IcnfText}
use Rattle.pb_read.specs.Format.{Spells}
use Rattle.pb_read.proofs.FaultOnly.{only_memory}
use Rattle.pb_read.proofs.FormatLaws.{not_refused, only_one, own_within}
use Rattle.pb_read.proofs.format.read.Goals as goal

pub returns-in_err-instance-in-Cnf-clause-only : goal.returns-in_err-instance-in-Cnf-clause-only
returns-in_err-instance-in-Cnf-clause-only c = λ i cubes spells.
    let p = err_from_is_err_and c.from_residual-in_err-instance-in-Cnf.result c.from_residual-in_err-instance-in-Cnf.ensures.1 in
    let text = subst (λ format. Spells format c.args.text.now i cubes) c.in-Cnf.is spells in
    rw (p.1, p.2) (only_memory (cnf_refusal c.args.text.now) c.in_err-instance-in-Cnf.field-0.0 (not_refused Cnf c.args.text.now i cubes text) c.in_err-instance-in-Cnf.ensures.refused)

pub returns-in_ok-instance-in-Cnf-clause-only : goal.returns-in_ok-instance-in-Cnf-clause-only
returns-in_ok-instance-in-Cnf-clause-only c =
    only_one c.args.format Cnf c.args.text.now c.in_ok-instance-in-Cnf.instance c.new-in-Cnf.result.items c.in-Cnf.is (c.in_ok-instance-in-Cnf.ensures.found, c.new-in-Cnf.ensures.items)

pub returns-in-Icnf-clause-within : goal.returns-in-Icnf-clause-within
returns-in-Icnf-clause-within c =
    IfOk-weaker c.read_icnf.result (λ r. IcnfText c.args.text.now r.0 r.1.items) (λ r. All (λ cube. All (λ l. l.var ≤ r.0.vars) cube) r.1.items)
    (λ r h. own_within c.args.text.now r.0 r.1.items h) c.read_icnf.ensures.found
