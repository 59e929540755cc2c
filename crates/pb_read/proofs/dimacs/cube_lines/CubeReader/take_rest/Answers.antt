use Rattle.std.proofs.Common.{◌∙◌, ◌+◌, ◌++◌, ◌∷◌, [], List, ℕ, sym, subst}
use Rattle.std.proofs.lemmas.Result.{err_from_is_err_and}
use Rattle.pb_read.specs.Text.{items}
use Rattle.pb_read.specs.ClauseReading.{CubesRead, content_from}
use Rattle.pb_read.proofs.ContentLines.{at, line_fails, line_taken, items_more}
use Rattle.pb_read.proofs.dimacs.cube_lines.CubeReader.take_rest.Goals as goal

pub loop-line-preserved : goal.loop-line-preserved
loop-line-preserved c =
    let limit = c.loop-line.invariant.same_limit in
    record {
      counted = c.in-Some.ensures.counted;
      same_limit = c.take_line.ensures.same_limit ∙ limit;
      so_far = λ earlier h.
          let so = c.loop-line.invariant.so_far earlier h in
          let read = subst (λ (m : ℕ). CubesRead m c.loop-line.self.cubes.items c.loop-line.self.literal_count (items so.0)) (sym limit) so.2 in
          let more = (c.in_ok-take_line.ensures.ok (items so.0) read).0 in
          let here = subst (λ (m : ℕ). CubesRead m c.take_line.new.self.cubes.items c.take_line.new.self.literal_count (items so.0 ++ c.in-Some.line.now ∷ [])) (c.take_line.ensures.same_limit ∙ limit) more in (
            so.0 ++ at c.in-Some.line.now c.in-Some.number ∷ [],
            line_taken so.0 (earlier ++ content_from (c.args.lines.now.before + 1) c.args.lines.now.rest) (content_from (c.loop-line.lines.before + 1) c.loop-line.lines.rest) (content_from (c.next.new.self.before + 1) c.next.new.self.rest)
                c.in-Some.line.now c.in-Some.number so.1 c.in-Some.ensures.next,
            subst (λ (ls : List (List ℕ)). CubesRead c.args.self.now.scan.limit c.take_line.new.self.cubes.items c.take_line.new.self.literal_count ls) (sym (items_more so.0 c.in-Some.line.now c.in-Some.number)) here,
          );
    }

pub returns-in_err-take_line-clause-err : goal.returns-in_err-take_line-clause-err
returns-in_err-take_line-clause-err c = λ earlier h.
    let p = err_from_is_err_and c.from_residual.result c.from_residual.ensures.1 in
    let limit = c.loop-line.invariant.same_limit in
    let so = c.loop-line.invariant.so_far earlier h in
    let read = subst (λ (m : ℕ). CubesRead m c.loop-line.self.cubes.items c.loop-line.self.literal_count (items so.0)) (sym limit) so.2 in
    rw (p.1, p.2) (line_fails c.args.other c.args.self.now.scan.limit c.loop-line.self.scan.limit limit so.0 (earlier ++ content_from (c.args.lines.now.before + 1) c.args.lines.now.rest)
    (content_from (c.loop-line.lines.before + 1) c.loop-line.lines.rest) (content_from (c.next.new.self.before + 1) c.next.new.self.rest) c.in-Some.line.now c.in-Some.number c.loop-line.self.cubes.items c.loop-line.self.literal_count
    so.2 so.1 c.in-Some.ensures.next c.in_err-take_line.field-0.0 (c.in_err-take_line.ensures.err (items so.0) read))
