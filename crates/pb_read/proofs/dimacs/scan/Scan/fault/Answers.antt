use Rattle.std.proofs.Common.{sym, ◌∙◌, refl}
use Rattle.pb_read.proofs.Scanning.{first_of_words}
use Rattle.pb_read.proofs.dimacs.scan.Scan.fault.Goals as goal

pub returns-then-self : goal.returns-then-self
returns-then-self c = λ seen h.
    sym (first_of_words c.args.self.now.limit c.args.self.now.literals.items c.args.self.now.ended c.args.self.now.broken c.args.self.now.over c.args.too_many seen h
    ∙ rw (c.if-not-self.false, c.if-self.true) refl)

pub returns-then-self-2 : goal.returns-then-self-2
returns-then-self-2 c = λ seen h.
    sym (first_of_words c.args.self.now.limit c.args.self.now.literals.items c.args.self.now.ended c.args.self.now.broken c.args.self.now.over c.args.too_many seen h
    ∙ rw (c.if-not-self.false, c.if-self.false, c.if-self-2.true) refl)

pub returns-then-too_many : goal.returns-then-too_many
returns-then-too_many c = λ seen h.
    sym (first_of_words c.args.self.now.limit c.args.self.now.literals.items c.args.self.now.ended c.args.self.now.broken c.args.self.now.over c.args.too_many seen h
    ∙ rw (c.if-not-self.false, c.if-self.false, c.if-self-2.false, c.if-too_many.true) refl)

pub returns-else-too_many : goal.returns-else-too_many
returns-else-too_many c = λ seen h.
    sym (first_of_words c.args.self.now.limit c.args.self.now.literals.items c.args.self.now.ended c.args.self.now.broken c.args.self.now.over c.args.too_many seen h
    ∙ rw (c.if-not-self.false, c.if-self.false, c.if-self-2.false, c.if-too_many.false) refl)
