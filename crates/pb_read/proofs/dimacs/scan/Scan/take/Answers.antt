use Rattle.std.proofs.Common.{sym, ◌∙◌}
use Rattle.pb_read.proofs.Scanning.{took_zero, took_bad, took_literal, took_over}
use Rattle.pb_read.proofs.dimacs.scan.Scan.take.Goals as goal

pub returns-in-Zero-clause-scanned : goal.returns-in-Zero-clause-scanned
returns-in-Zero-clause-scanned c = λ seen t h e.
    took_zero c.args.self.now.limit c.args.self.now.literals.items c.args.self.now.ended c.args.self.now.broken c.args.self.now.over seen t (sym c.in-Zero.is ∙ e) h

pub returns-in-Bad-clause-scanned : goal.returns-in-Bad-clause-scanned
returns-in-Bad-clause-scanned c = λ seen t h e.
    took_bad c.args.self.now.limit c.args.self.now.literals.items c.args.self.now.ended c.args.self.now.broken c.args.self.now.over seen t (sym c.in-Bad.is ∙ e) h

pub returns-in_ok-push-in-Some-clause-scanned : goal.returns-in_ok-push-in-Some-clause-scanned
returns-in_ok-push-in-Some-clause-scanned c = λ seen t h e.
    took_literal c.args.self.now.limit c.requires.limit c.args.self.now.literals.items c.args.self.now.ended c.args.self.now.broken c.args.self.now.over seen c.in-Literal.positive c.in-Literal.var c.literal_within.result
    t c.in-Some.literal c.push.new.self.items (sym c.in-Literal.is ∙ e) c.literal_within.ensures c.in-Some.is c.in_ok-push-in-Some.ensures.items h

pub returns-in-None-clause-scanned : goal.returns-in-None-clause-scanned
returns-in-None-clause-scanned c = λ seen t h e.
    took_over c.args.self.now.limit c.requires.limit c.args.self.now.literals.items c.args.self.now.ended c.args.self.now.broken c.args.self.now.over seen c.in-Literal.positive c.in-Literal.var c.literal_within.result
    t (sym c.in-Literal.is ∙ e) c.literal_within.ensures c.in-None.is h
