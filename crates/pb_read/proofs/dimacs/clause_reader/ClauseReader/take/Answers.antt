use Rattle.std.proofs.Common.{◌∙◌, ◌++◌, ◌∷◌, [], sym, ap, refl, ℕ, Some, subst, map}
use Rattle.std.proofs.lemmas.Result.{err_from_is_err_and}
use Rattle.pb_read.specs.declared.dimacs.clause_reader.ClauseReader.{ClauseReader}
use Rattle.pb_read.specs.Text.{items}
use Rattle.pb_read.specs.Clauses.{whole_words}
use Rattle.pb_read.specs.ClauseReading.{Scanned}
use Rattle.pb_read.proofs.Following.{at, word_held, ends_now, taken_within, taken_after, word_fails, line_kept}
use Rattle.pb_read.proofs.dimacs.clause_reader.ClauseReader.take.Goals as goal

pub returns-then-not-self-clause-ok : goal.returns-then-not-self-clause-ok
returns-then-not-self-clause-ok c = λ announced n taken t h same.
    let r = c.args.self.now in
    let e = at t c.args.line in
    let s : ClauseReader = record { builder = r.builder; announced = r.announced; count = r.count; literal_count = r.literal_count; greatest = r.greatest; scan = c.take.new.self; begun = Some c.unwrap_or-first_line.result } in
    let before = subst (λ (m : ℕ). Scanned m r.scan.literals.items r.scan.ended r.scan.broken r.scan.over (items h.begun)) (sym h.holds.same_limit) h.holds.scanned in
    let held = word_held announced n r h.earlier h.begun h.holds s t c.args.line refl c.take.ensures.same_limit refl refl refl refl (c.in-Ok.ensures.scanned (items h.begun) t before same) (ap (λ (l : ℕ). Some l) c.unwrap_or-first_line.ensures) in
    taken_within announced n r s taken h e held c.if-not-self.true

pub returns-in_err-finish_clause-clause-err : goal.returns-in_err-finish_clause-clause-err
returns-in_err-finish_clause-clause-err c = λ announced n taken t h same.
    let p = err_from_is_err_and c.from_residual.result c.from_residual.ensures.1 in
    let r = c.args.self.now in
    let e = at t c.args.line in
    let s : ClauseReader = record { builder = r.builder; announced = r.announced; count = r.count; literal_count = r.literal_count; greatest = r.greatest; scan = c.take.new.self; begun = Some c.unwrap_or-first_line.result } in
    let before = subst (λ (m : ℕ). Scanned m r.scan.literals.items r.scan.ended r.scan.broken r.scan.over (items h.begun)) (sym h.holds.same_limit) h.holds.scanned in
    let held = word_held announced n r h.earlier h.begun h.holds s t c.args.line refl c.take.ensures.same_limit refl refl refl refl (c.in-Ok.ensures.scanned (items h.begun) t before same) (ap (λ (l : ℕ). Some l) c.unwrap_or-first_line.ensures) in
    let end = ends_now c.take.new.self.ended h.begun e held.scanned.end_is c.if-not-self.false h.unended in
    rw (p.1, p.2) (word_fails announced n taken (map whole_words h.earlier) h.begun e h.follows h.unended end c.unwrap_or-first_line.result (c.unwrap_or-first_line.ensures ∙ line_kept h.begun t c.args.line r.begun h.holds.line) c.in_err-finish_clause.field-0.0
    (c.in_err-finish_clause.ensures.err announced n h.earlier (h.begun ++ e ∷ []) held))

pub returns-clause-ok : goal.returns-clause-ok
returns-clause-ok c = λ announced n taken t h same.
    let r = c.args.self.now in
    let e = at t c.args.line in
    let s : ClauseReader = record { builder = r.builder; announced = r.announced; count = r.count; literal_count = r.literal_count; greatest = r.greatest; scan = c.take.new.self; begun = Some c.unwrap_or-first_line.result } in
    let before = subst (λ (m : ℕ). Scanned m r.scan.literals.items r.scan.ended r.scan.broken r.scan.over (items h.begun)) (sym h.holds.same_limit) h.holds.scanned in
    let held = word_held announced n r h.earlier h.begun h.holds s t c.args.line refl c.take.ensures.same_limit refl refl refl refl (c.in-Ok.ensures.scanned (items h.begun) t before same) (ap (λ (l : ℕ). Some l) c.unwrap_or-first_line.ensures) in
    let end = ends_now c.take.new.self.ended h.begun e held.scanned.end_is c.if-not-self.false h.unended in
    let done = c.in_ok-finish_clause.ensures.ok announced n h.earlier (h.begun ++ e ∷ []) held in
    taken_after announced n r c.finish_clause.new.self taken h e c.take.new.self.literals.items end done.0 done.1 done.2
