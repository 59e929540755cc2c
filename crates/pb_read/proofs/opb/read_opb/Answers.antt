use Rattle.std.proofs.Common.{◌≡◌, ◌∙◌, ◌<◌, ap, arith, sym, subst, false, ltb, max, inr}
use Rattle.std.proofs.lemmas.Bool.{le-ltb, lt-ltb, false≢true}
use Rattle.std.proofs.lemmas.Result.{err_from_is_err_and}
use Rattle.pb_inst.specs.declared.limits.TheConstants.{MAX_VARS}
use Rattle.pb_inst.specs.Limits.{HasVariablesWithin}
use Rattle.pb_inst.specs.Problem.{Statements}
use Rattle.pb_read.specs.Opb.{header, OpbText}
use Rattle.pb_read.specs.Terms.{greatest_index}
use Rattle.pb_read.specs.Building.{terms_of}
use Rattle.pb_read.proofs.OpbLaws.{built_spells, spells_none, refusal_of, refused_by_header, one_instance}
use Rattle.pb_read.proofs.opb.read_opb.Goals as goal

pub returns-in_err-builder-clause-only : goal.returns-in_err-builder-clause-only
returns-in_err-builder-clause-only c = λ i t.
    let p = err_from_is_err_and c.from_residual.result c.from_residual.ensures.1 in
    let small : ltb MAX_VARS (header c.args.text.now) ≡ false = le-ltb MAX_VARS (header c.args.text.now) (omega (arith, c.announced_vars-least.ensures, c.if-least-gt-MAX_VARS.false)) in
    rw (p.1, p.2) (spells_none c.args.text.now c.in_err-builder.field-0.0 i (refusal_of c.args.text.now c.in_err-builder.field-0.0 small c.in_err-builder.ensures.err) t)

pub unreachable-requires : goal.unreachable-requires
unreachable-requires c =
    let text = c.args.text.now in
    let b = c.in_ok-builder.builder in
    let small : ltb MAX_VARS (header c.args.text.now) ≡ false = le-ltb MAX_VARS (header c.args.text.now) (omega (arith, c.announced_vars-least.ensures, c.if-least-gt-MAX_VARS.false)) in
    let h = c.in_ok-builder.ensures.ok in
    let vars : c.max-vars.result ≡ max (header c.args.text.now) (greatest_index (terms_of b.instance.objective b.instance.constraints)) = omega (arith, c.max-vars.ensures, c.announced_vars-least.ensures, c.if-least-gt-MAX_VARS.false, h.1.index) in
    let t = built_spells c.args.text.now b.instance.objective b.instance.constraints c.max-vars.result small h.0 h.1.same vars in
    let within : HasVariablesWithin c.max-vars.result c.into_instance.result = subst (λ (s : Statements). HasVariablesWithin c.max-vars.result s) (sym c.into_instance.ensures) t.limits.variables in
    false≢true (c.in-Err.ensures.accepts.1 (t.limits.variable_count, within))

pub returns-clause-found : goal.returns-clause-found
returns-clause-found c =
    let b = c.in_ok-builder.builder in
    let small : ltb MAX_VARS (header c.args.text.now) ≡ false = le-ltb MAX_VARS (header c.args.text.now) (omega (arith, c.announced_vars-least.ensures, c.if-least-gt-MAX_VARS.false)) in
    let h = c.in_ok-builder.ensures.ok in
    let vars : c.max-vars.result ≡ max (header c.args.text.now) (greatest_index (terms_of b.instance.objective b.instance.constraints)) = omega (arith, c.max-vars.ensures, c.announced_vars-least.ensures, c.if-least-gt-MAX_VARS.false, h.1.index) in
    let t = built_spells c.args.text.now b.instance.objective b.instance.constraints c.max-vars.result small h.0 h.1.same vars in
    let is = c.in-Ok.ensures.finished ∙ ap (λ (s : Statements). record { vars = c.max-vars.result; objective = s.objective; constraints = s.constraints }) c.into_instance.ensures in
    subst (OpbText c.args.text.now) (sym is) t

pub returns-clause-only : goal.returns-clause-only
returns-clause-only c = λ i u. one_instance c.args.text.now c.in-Ok.instance i (returns-clause-found c) u

pub returns-then-least-gt-MAX_VARS-clause-refused : goal.returns-then-least-gt-MAX_VARS-clause-refused
returns-then-least-gt-MAX_VARS-clause-refused c =
    let over : MAX_VARS < header c.args.text.now = omega (arith, c.announced_vars-least.ensures, c.if-least-gt-MAX_VARS.true) in
    inr (refused_by_header c.args.text.now (lt-ltb MAX_VARS (header c.args.text.now) over))

pub returns-in_err-builder-clause-refused : goal.returns-in_err-builder-clause-refused
returns-in_err-builder-clause-refused c =
    let p = err_from_is_err_and c.from_residual.result c.from_residual.ensures.1 in
    let small : ltb MAX_VARS (header c.args.text.now) ≡ false = le-ltb MAX_VARS (header c.args.text.now) (omega (arith, c.announced_vars-least.ensures, c.if-least-gt-MAX_VARS.false)) in
    rw (p.1, p.2) (refusal_of c.args.text.now c.in_err-builder.field-0.0 small c.in_err-builder.ensures.err)
