use Rattle.std.proofs.Common.{◌∙◌}
use Rattle.std.proofs.lemmas.Result.{err_from_is_err_and}
use Rattle.pb_read.specs.Text.{words}
use Rattle.pb_read.specs.Clauses.{word_of}
use Rattle.pb_read.specs.ClauseReading.{HasTaken}
use Rattle.pb_read.proofs.Following.{line_fails, one_more}
use Rattle.pb_read.proofs.dimacs.clause_reader.ClauseReader.take_line.Goals as goal

pub returns-in_err-take-clause-err : goal.returns-in_err-take-clause-err
returns-in_err-take-clause-err c = λ announced n taken h.
    let p = err_from_is_err_and c.from_residual.result c.from_residual.ensures.1 in
    let so = c.loop-word.invariant.so_far announced n taken h in
    rw (p.1, p.2) (line_fails announced n taken c.args.number (words c.args.line.now) (words c.loop-word.rest.now) (words c.in-Some.after.now) so.0 c.in-Some.word.now c.in_err-take.field-0.0
    c.in-Some.ensures so.1 (c.in_err-take.ensures.err announced n _ (word_of c.in-Some.word.now) so.2 c.word_of.ensures.value))

pub loop-word-preserved : goal.loop-word-preserved
loop-word-preserved c = record {
  same_limit = c.take.ensures.same_limit ∙ c.loop-word.invariant.same_limit;
  so_far = λ announced n taken h.
      let so = c.loop-word.invariant.so_far announced n taken h in
      one_more (HasTaken announced n c.take.new.self) taken c.args.number (words c.args.line.now) (words c.loop-word.rest.now) (words c.in-Some.after.now) so.0 c.in-Some.word.now
      c.in-Some.ensures so.1 (c.in_ok-take.ensures.ok announced n _ (word_of c.in-Some.word.now) so.2 c.word_of.ensures.value);
}
