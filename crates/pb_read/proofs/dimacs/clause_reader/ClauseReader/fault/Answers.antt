use Rattle.std.proofs.Common.{◌∙◌, ◌||◌, sym, ap, subst, ℕ, arith, ltb}
use Rattle.pb_inst.specs.declared.limits.TheConstants.{MAX_CONSTRAINTS, MAX_TERMS}
use Rattle.pb_read.specs.Text.{items}
use Rattle.pb_read.specs.Refusal.{first_kind}
use Rattle.pb_read.specs.Clauses.{word_faults}
use Rattle.pb_read.specs.ClauseReading.{Scanned}
use Rattle.pb_read.proofs.Following.{clause_fault}
use Rattle.pb_read.proofs.dimacs.clause_reader.ClauseReader.fault.Goals as goal

pub returns : goal.returns
returns c = λ announced n earlier begun h.
    let r = c.args.self.now in
    let scanned = subst (λ (m : ℕ). Scanned m r.scan.literals.items r.scan.ended r.scan.broken r.scan.over (items begun)) (sym h.same_limit) h.scanned in
    let many = ltb MAX_CONSTRAINTS c.saturating_add-count.result || ltb MAX_TERMS c.saturating_add-total.result in
    c.fault.ensures (items begun) scanned ∙ ap (λ (m : ℕ). first_kind (word_faults m (items begun) many)) h.same_limit
    ∙ clause_fault announced n r earlier begun h c.saturating_add-count.result c.saturating_add-total.result c.saturating_add-count.ensures
    (omega (arith, c.saturating_add-total.ensures, c.len.ensures ∙ c.args.self.now.scan.literals.ok.0)) (sym c.is_all_there.ensures ∙ c.if-is_all_there.false)
