use Rattle.pb_read.proofs.Scanning.{none_seen}
use Rattle.pb_read.proofs.dimacs.scan.Scan.new.Goals as goal

pub returns-clause-scanned : goal.returns-clause-scanned
returns-clause-scanned c = rw (c.new.ensures.items) (none_seen c.args.limit)
