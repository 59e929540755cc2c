use Rattle.std.proofs.Common.{refl, rules, take, [], ◌++◌}
use Rattle.pb_report.proofs.SendingLaws.{grown_none, grown_by, grown_both, grown_all, taken_more}
use Rattle.pb_report.proofs.writing.writer.write_out.Goals as goal

pub loop-rest-init : goal.loop-rest-init
loop-rest-init g c = ([], refl, grown_none _ _)

pub loop-rest-preserved : goal.loop-rest-preserved
loop-rest-preserved g c =
    let (done, split, grows) = c.loop-rest.invariant in
    let rest = c.loop-rest.rest.now in
    let n = c.in-Ok.taken in
    (done ++ take n rest, taken_more _ done rest n split, grown_both _ _ _ _ _ _ _ _ grows (grown_by _ _ _ _ _ c.in-Ok.ensures.fault c.in-Ok.ensures.bytes))

pub returns-else-not-is_empty : goal.returns-else-not-is_empty
returns-else-not-is_empty g c = let (done, split, grows) = c.loop-rest.invariant in grown_all _ _ _ _ _ done c.loop-rest.rest.now split (search rules) grows
