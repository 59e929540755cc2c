use Rattle.std.proofs.Common.{codes}
use Rattle.std.proofs.KnownBytes.{Appends-trans}
use Rattle.std.proofs.lemmas.Result.{on_ok_weaker}
use Rattle.pb_parts.specs.Heading.{numbers_line, part_line, pieces_line}
use Rattle.pb_parts.proofs.writing.report_heading.Goals as goal

pub returns-clause-written : goal.returns-clause-written
returns-clause-written g c =
    let division = c.args.division.now in
    let start = g.W.Write.contents c.args.out.now.held in
    let one = g.W.Write.contents c.put_part.new.out.held in
    let two = g.W.Write.contents c.put_pieces.new.out.held in
    let three = g.W.Write.contents c.put_numbers.new.out.held in
    let end = g.W.Write.contents c.put_numbers-2.new.out.held in
    let part = part_line c.args.task division.tasks division.instance in
    let pieces = pieces_line division.pieces division.split division.cubes in
    let done = numbers_line (codes "c done") c.args.done.now in
    let cut = numbers_line (codes "c cut") c.args.cut.now in
    let first_three = Appends-trans start two three _ done (Appends-trans start one two part pieces c.in_ok-put_part.ensures.written c.in_ok-put_pieces.ensures.written) c.in_ok-put_numbers.ensures.written in
    on_ok_weaker c.put_numbers-2.result (λ written. Appends-trans start three end _ cut first_three written) c.put_numbers-2.ensures.written
