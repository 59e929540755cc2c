use Rattle.std.proofs.Common.{◌≡◌, ◌∙◌, ◌+◌, sym, false}
use Rattle.std.proofs.lemmas.Result.{err_from_is_err_and}
use Rattle.pb_read.specs.Cubes.{is_cube_line}
use Rattle.pb_read.specs.Icnf.{clause_part}
use Rattle.pb_read.specs.ClauseReading.{content_from, HasTaken}
use Rattle.pb_read.proofs.ClauseLines.{one_more_line, lines_fail, clause_first, cubes_later}
use Rattle.pb_read.proofs.dimacs.clause_reader.ClauseReader.take_clauses.Goals as goal

pub loop-line-preserved : goal.loop-line-preserved
loop-line-preserved c =
    let none : is_cube_line c.in-Some.line.now ≡ false = sym c.is_cube_line.ensures ∙ c.if-is_cube_line.false in
    record {
      counted = c.in-Some.ensures.counted;
      same_limit = c.take_line.ensures.same_limit ∙ c.loop-line.invariant.same_limit;
      cubes = sym (cubes_later (content_from (c.loop-line.lines.before + 1) c.loop-line.lines.rest) (content_from (c.next.new.self.before + 1) c.next.new.self.rest) c.in-Some.line.now c.in-Some.number c.in-Some.ensures.next none) ∙ c.loop-line.invariant.cubes;
      so_far = λ announced n taken h.
          let so = c.loop-line.invariant.so_far announced n taken h in
          one_more_line (HasTaken announced n c.take_line.new.self) taken so.0 (clause_part (content_from (c.args.lines.now.before + 1) c.args.lines.now.rest)) (clause_part (content_from (c.loop-line.lines.before + 1) c.loop-line.lines.rest)) (clause_part (content_from (c.next.new.self.before + 1) c.next.new.self.rest)) c.in-Some.line.now c.in-Some.number
          (clause_first (content_from (c.loop-line.lines.before + 1) c.loop-line.lines.rest) (content_from (c.next.new.self.before + 1) c.next.new.self.rest) c.in-Some.line.now c.in-Some.number c.in-Some.ensures.next none) so.1 (c.in_ok-take_line.ensures.ok announced n _ so.2);
    }

pub returns-in_err-take_line-clause-err : goal.returns-in_err-take_line-clause-err
returns-in_err-take_line-clause-err c = λ announced n taken h.
    let none : is_cube_line c.in-Some.line.now ≡ false = sym c.is_cube_line.ensures ∙ c.if-is_cube_line.false in
    let p = err_from_is_err_and c.from_residual.result c.from_residual.ensures.1 in
    let so = c.loop-line.invariant.so_far announced n taken h in
    rw (p.1, p.2) (lines_fail announced n taken so.0 (clause_part (content_from (c.args.lines.now.before + 1) c.args.lines.now.rest)) (clause_part (content_from (c.loop-line.lines.before + 1) c.loop-line.lines.rest)) (clause_part (content_from (c.next.new.self.before + 1) c.next.new.self.rest)) c.in-Some.line.now c.in-Some.number c.in_err-take_line.field-0.0
    (clause_first (content_from (c.loop-line.lines.before + 1) c.loop-line.lines.rest) (content_from (c.next.new.self.before + 1) c.next.new.self.rest) c.in-Some.line.now c.in-Some.number c.in-Some.ensures.next none) so.1 (c.in_err-take_line.ensures.err announced n _ so.2))
