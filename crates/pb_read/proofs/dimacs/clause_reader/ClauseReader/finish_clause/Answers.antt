use Rattle.std.proofs.Common.{◌∙◌, sym, ap, refl, inr, arith, List, ℕ, max, None}
use Rattle.std.specs.Prelude.{fold}
use Rattle.pb_read.specs.declared.dimacs.clause_reader.ClauseReader.{ClauseReader}
use Rattle.pb_inst.specs.Literal.{Literal}
use Rattle.pb_read.proofs.Following.{clause_taken}
use Rattle.pb_read.proofs.dimacs.clause_reader.ClauseReader.finish_clause.Goals as goal

pub returns-in-Some-clause-err : goal.returns-in-Some-clause-err
returns-in-Some-clause-err c = λ announced n earlier begun h. inr (refl, sym (c.fault.ensures announced n earlier begun h) ∙ c.in-Some.is)

pub returns-clause-ok : goal.returns-clause-ok
returns-clause-ok c = λ announced n earlier begun h.
    let clear = sym (c.fault.ensures announced n earlier begun h) ∙ c.in_default.is in
    let r = c.args.self.now in
    let s : ClauseReader = record { builder = c.add_clause.new.self; announced = r.announced; count = c.saturating_add-self-2.result; literal_count = c.saturating_add-self.result; greatest = c.max-self.result; scan = c.restart.new.self; begun = None } in
    let taken = clause_taken announced n r earlier begun h s clear refl c.restart.ensures.same_limit
    (rw (c.deref.ensures.value) at c.in-Ok.ensures.added)
    c.saturating_add-self-2.ensures
    (omega (arith, c.saturating_add-self.ensures, c.len.ensures ∙ r.scan.literals.ok.0))
    (c.max-self.ensures ∙ ap (λ (g : ℕ). max r.greatest g) (c.greatest_var.ensures ∙ ap (λ (ls : List Literal). fold (λ (n : ℕ) (l : Literal). max n l.var) 0 ls) c.deref-2.ensures.value))
    c.restart.ensures.scanned refl in
    (clear, taken.0, taken.1)
