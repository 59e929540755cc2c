use Rattle.std.proofs.Common.{refl, []}
use Rattle.pb_read.proofs.Following.{follows_none}
use Rattle.pb_read.proofs.dimacs.clause_reader.ClauseReader.new.Goals as goal

pub returns : goal.returns
returns c = record {
  earlier = [];
  begun = [];
  holds = record { same_announced = refl; same_limit = c.new-2.ensures.limit; built = c.new.ensures; counted = refl; literals = refl; greatest = refl; scanned = c.new-2.ensures.scanned; line = refl };
  unended = refl;
  follows = follows_none c.args.announced c.args.limit;
}
