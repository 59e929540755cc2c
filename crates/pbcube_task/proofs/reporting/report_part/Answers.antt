use Rattle.std.proofs.Common.{◌≡◌, ℕ, ◌+◌, List, length, subst}
use Rattle.std.specs.Io.KnownBytes.{Appends}
use Rattle.pb_parts.specs.Heading.{part_heading}
use Rattle.pbcube_task.proofs.Parts.{part_reported}
use Rattle.pbcube_task.proofs.reporting.report_part.Goals as goal

pub returns : goal.returns
returns g c =
    let line = c.args.line.now in
    let prepared = c.args.prepared.now in
    let answer = c.args.answer.now in
    let before = g.W.Write.contents c.args.out.now.held in
    let between = g.W.Write.contents c.report_heading.new.out.held in
    let after = g.W.Write.contents c.report_found.new.out.held in
    let heading : ℕ → List ℕ → List ℕ → List ℕ = λ pieces done cut. part_heading (record { instance = prepared.digest; pieces = pieces; split = line.split; cubes = prepared.cubes_digest; tasks = line.tasks }) line.task done cut in
    let count : c.len.result ≡ length prepared.pieces.cubes + 1 = c.len.ensures.count in
    let done : c.deref.result.now ≡ answer.done.items = search (c.deref.ensures.value) in
    let cut : c.deref-2.result.now ≡ answer.cut.items = search (c.deref-2.ensures.value) in
    let written : Appends before between (heading c.len.result c.deref.result.now c.deref-2.result.now) = c.in_ok-report_heading.ensures.written in
    let counted = subst (λ (pieces : ℕ). Appends before between (heading pieces c.deref.result.now c.deref-2.result.now)) count written in
    let with_done = subst (λ (done : List ℕ). Appends before between (heading (length prepared.pieces.cubes + 1) done c.deref-2.result.now)) done counted in
    let with_cut = subst (λ (cut : List ℕ). Appends before between (heading (length prepared.pieces.cubes + 1) answer.done.items cut)) cut with_done in
    record { reports = part_reported c.report_found.result line prepared.instance prepared.pieces prepared.digest prepared.cubes_digest answer.done.items answer.cut.items answer.best.held before between after c.requires.answer c.requires.no_budget with_cut c.report_found.ensures.answers }
