use Rattle.std.proofs.Common.{◌∙◌, sym}
use Rattle.pb_read.proofs.Following.{ends_between, ends_inside, never_clear}
use Rattle.pb_read.proofs.dimacs.clause_reader.ClauseReader.end.Goals as goal

pub returns-in_default-clause-ok : goal.returns-in_default-clause-ok
returns-in_default-clause-ok c = λ announced n taken h. ends_between announced n c.args.self.now taken c.in_default.is h

pub returns-in-Some-fault-clause-err : goal.returns-in-Some-fault-clause-err
returns-in-Some-fault-clause-err c = λ announced n taken h.
    ends_inside announced n c.args.self.now taken c.in-Some.line c.in-Some-fault.kind c.in-Some.is h (sym (c.fault.ensures announced n h.earlier h.begun h.holds) ∙ c.in-Some-fault.is)

pub returns-in-None-clause-ok : goal.returns-in-None-clause-ok
returns-in-None-clause-ok c = λ announced n taken h. absurd (never_clear announced n c.args.self.now taken h (sym (c.fault.ensures announced n h.earlier h.begun h.holds) ∙ c.in-None.is))
