use Rattle.std.proofs.Common.{◌++◌}
use Rattle.std.proofs.lemmas.Result.{err_from_is_err_and}
use Rattle.pb_read.specs.Opb as opb
use Rattle.pb_read.proofs.Taking.{one_more, line_fails}
use Rattle.pb_read.proofs.opb.sink.take_line.Goals as goal

pub returns-in_err-take-clause-err : goal.returns-in_err-take-clause-err
returns-in_err-take-clause-err g c = λ taken h.
    let p = err_from_is_err_and c.from_residual.result c.from_residual.ensures.1 in
    let at = c.loop-token.invariant taken h in
    let next = c.in-Some.ensures in
    rw (p.1, p.2) (line_fails taken c.args.number (opb.line_tokens c.args.line.now) (opb.line_tokens c.loop-token.rest.now) (opb.line_tokens c.in-Some.after.now) at.0 next.0 c.in_err-take.field-0.0
    next.1 at.1 (c.in_err-take.ensures.err (taken ++ opb.placed c.args.number at.0) next.0 at.2 next.2))

pub loop-token-preserved : goal.loop-token-preserved
loop-token-preserved g c = λ taken h.
    let at = c.loop-token.invariant taken h in
    let next = c.in-Some.ensures in
    one_more (g.S.TokenSink.has_taken c.take.new.self) taken c.args.number (opb.line_tokens c.args.line.now) (opb.line_tokens c.loop-token.rest.now) (opb.line_tokens c.in-Some.after.now) at.0 next.0
    next.1 at.1 (c.in_ok-take.ensures.ok (taken ++ opb.placed c.args.number at.0) next.0 at.2 next.2)
