use Rattle.std.proofs.Common.{◌∙◌, sym, inr}
use Rattle.std.proofs.lemmas.Result.{err_from_is_err_and}
use Rattle.pb_read.specs.Opb as opb
use Rattle.pb_read.specs.Building.{HasBuilt}
use Rattle.pb_read.proofs.Gathering.{start_holds, text_ends, text_unfinished, fails_now}
use Rattle.pb_read.proofs.opb.builder.read_statements.Goals as goal

pub returns-in_err-take_text-clause-err : goal.returns-in_err-take_text-clause-err
returns-in_err-take_text-clause-err c =
    let p = err_from_is_err_and c.from_residual.result c.from_residual.ensures.1 in
    let start = start_holds (HasBuilt c.new-builder.result.instance c.new-builder.result.greatest c.new-builder.result.is_empty) c.new-builder.result.draft c.new-builder.result.line c.new-builder.ensures.draft c.new-builder.ensures.built in
    rw (p.1, p.2) (fails_now (opb.tokens c.args.text.now) c.in_err-take_text.field-0.0 (c.in_err-take_text.ensures.err start))

pub returns-then-not-is_new-clause-err : goal.returns-then-not-is_new-clause-err
returns-then-not-is_new-clause-err c =
    let start = start_holds (HasBuilt c.new-builder.result.instance c.new-builder.result.greatest c.new-builder.result.is_empty) c.new-builder.result.draft c.new-builder.result.line c.new-builder.ensures.draft c.new-builder.ensures.built in
    let left = c.take_text.new.sink in
    inr (text_unfinished (HasBuilt c.take_text.new.sink.instance c.take_text.new.sink.greatest c.take_text.new.sink.is_empty) c.take_text.new.sink.draft c.take_text.new.sink.line (opb.tokens c.args.text.now) (c.in_ok-take_text.ensures.ok start)
    (sym c.is_new.ensures ∙ c.if-not-is_new.true))

pub returns-clause-ok : goal.returns-clause-ok
returns-clause-ok c =
    let start = start_holds (HasBuilt c.new-builder.result.instance c.new-builder.result.greatest c.new-builder.result.is_empty) c.new-builder.result.draft c.new-builder.result.line c.new-builder.ensures.draft c.new-builder.ensures.built in
    text_ends (HasBuilt c.take_text.new.sink.instance c.take_text.new.sink.greatest c.take_text.new.sink.is_empty) c.take_text.new.sink.draft c.take_text.new.sink.line (opb.tokens c.args.text.now) (c.in_ok-take_text.ensures.ok start)
    (sym c.is_new.ensures ∙ c.if-not-is_new.false)
