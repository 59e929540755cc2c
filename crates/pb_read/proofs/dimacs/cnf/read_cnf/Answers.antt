use Rattle.std.proofs.Common.{◌≡◌, ◌∙◌, ◌+◌, ◌≤◌, [], Some, sym, ap, arith, inr, max, subst, length, ℕ}
use Rattle.std.proofs.lemmas.Result.{err_from_is_err_and}
use Rattle.std.proofs.lemmas.Bool.{false≢true}
use Rattle.pb_inst.specs.declared.limits.TheConstants.{MAX_VARS, MAX_CONSTRAINTS}
use Rattle.pb_inst.specs.Limits.{HasVariablesWithin}
use Rattle.pb_inst.specs.Problem.{Statements}
use Rattle.pb_read.specs.declared.fault.ReadKind.TheVariants.{TooFewClauses}
use Rattle.pb_read.specs.Text.{words, clause_lines, last_line}
use Rattle.pb_read.specs.Clauses.{placed_words}
use Rattle.pb_read.specs.Cnf.{Header, header_words, cnf_refusal, CnfText}
use Rattle.pb_read.specs.ClauseReading.{content_from}
use Rattle.pb_read.proofs.CnfLaws.{one, not_refused}
use Rattle.pb_read.proofs.CnfReading.{fault, header_is, body_refused, body_fails, too_few, all_read, fails_now}
use Rattle.pb_read.proofs.FaultOnly.{only_memory}
use Rattle.pb_read.proofs.dimacs.cnf.read_cnf.Goals as goal

pub returns-in_err-take_rest-clause-refused : goal.returns-in_err-take_rest-clause-refused
returns-in_err-take_rest-clause-refused c =
    let p = err_from_is_err_and c.from_residual-in_err-take_rest.result c.from_residual-in_err-take_rest.ensures.1 in
    let lines = sym c.new-lines.ensures.content ∙ c.in_ok-head.ensures.some in
    let vars : c.in-Some.field-0.vars ≤ MAX_VARS = omega (arith, c.if-vars-gt-MAX_VARS.false) in
    let clauses : c.in-Some.field-0.clauses ≤ MAX_CONSTRAINTS = omega (arith, c.if-clauses-gt-MAX_CONSTRAINTS.false) in
    let h : Header = record { vars = c.in-Some.field-0.vars; clauses = c.in-Some.field-0.clauses } in
    let header = header_is (header_words (words c.in_ok-head.head.now)) c.in-Some.field-0 (sym c.read_header.ensures ∙ c.in-Some.is) vars clauses in
    let f = c.in_err-take_rest.field-0.0 in
    rw (p.1, p.2) (body_refused c.args.text.now c.in_ok-head.head.now c.in_ok-head.number (content_from (c.header.new.self.before + 1) c.header.new.self.rest) lines h header vars clauses f (fails_now (Some h.clauses) h.vars (placed_words (content_from (c.header.new.self.before + 1) c.header.new.self.rest)) f (c.in_err-take_rest.ensures.err (Some h.clauses) h.vars [] c.new-reader.ensures)))

pub returns-in_err-take_rest-clause-only : goal.returns-in_err-take_rest-clause-only
returns-in_err-take_rest-clause-only c = λ i text.
    let p = err_from_is_err_and c.from_residual-in_err-take_rest.result c.from_residual-in_err-take_rest.ensures.1 in
    rw (p.1, p.2) (only_memory (cnf_refusal c.args.text.now) c.in_err-take_rest.field-0.0 (not_refused c.args.text.now i text) (rw (p.1, p.2) at (returns-in_err-take_rest-clause-refused c)))

pub returns-in_err-end-clause-refused : goal.returns-in_err-end-clause-refused
returns-in_err-end-clause-refused c =
    let p = err_from_is_err_and c.from_residual-in_err-end.result c.from_residual-in_err-end.ensures.1 in
    let lines = sym c.new-lines.ensures.content ∙ c.in_ok-head.ensures.some in
    let vars : c.in-Some.field-0.vars ≤ MAX_VARS = omega (arith, c.if-vars-gt-MAX_VARS.false) in
    let clauses : c.in-Some.field-0.clauses ≤ MAX_CONSTRAINTS = omega (arith, c.if-clauses-gt-MAX_CONSTRAINTS.false) in
    let h : Header = record { vars = c.in-Some.field-0.vars; clauses = c.in-Some.field-0.clauses } in
    let header = header_is (header_words (words c.in_ok-head.head.now)) c.in-Some.field-0 (sym c.read_header.ensures ∙ c.in-Some.is) vars clauses in
    let taken = c.in_ok-take_rest.ensures.ok (Some h.clauses) h.vars [] c.new-reader.ensures in
    let f = c.in_err-end.field-0.0 in
    rw (p.1, p.2) (inr (body_fails c.args.text.now c.in_ok-head.head.now c.in_ok-head.number (content_from (c.header.new.self.before + 1) c.header.new.self.rest) lines h header vars clauses f (c.in_err-end.ensures.err (Some h.clauses) h.vars (placed_words (content_from (c.header.new.self.before + 1) c.header.new.self.rest)) taken)))

pub returns-in_err-end-clause-only : goal.returns-in_err-end-clause-only
returns-in_err-end-clause-only c = λ i text.
    let p = err_from_is_err_and c.from_residual-in_err-end.result c.from_residual-in_err-end.ensures.1 in
    rw (p.1, p.2) (only_memory (cnf_refusal c.args.text.now) c.in_err-end.field-0.0 (not_refused c.args.text.now i text) (rw (p.1, p.2) at (returns-in_err-end-clause-refused c)))

pub returns-then-reader-count-clause-refused : goal.returns-then-reader-count-clause-refused
returns-then-reader-count-clause-refused c =
    let lines = sym c.new-lines.ensures.content ∙ c.in_ok-head.ensures.some in
    let vars : c.in-Some.field-0.vars ≤ MAX_VARS = omega (arith, c.if-vars-gt-MAX_VARS.false) in
    let clauses : c.in-Some.field-0.clauses ≤ MAX_CONSTRAINTS = omega (arith, c.if-clauses-gt-MAX_CONSTRAINTS.false) in
    let h : Header = record { vars = c.in-Some.field-0.vars; clauses = c.in-Some.field-0.clauses } in
    let header = header_is (header_words (words c.in_ok-head.head.now)) c.in-Some.field-0 (sym c.read_header.ensures ∙ c.in-Some.is) vars clauses in
    let taken = c.in_ok-take_rest.ensures.ok (Some h.clauses) h.vars [] c.new-reader.ensures in
    let whole = c.in_ok-end.ensures.ok (Some h.clauses) h.vars (placed_words (content_from (c.header.new.self.before + 1) c.header.new.self.rest)) taken in
    let all : c.take_rest.new.lines.before ≡ length (clause_lines c.args.text.now) = c.in_ok-take_rest.ensures.lines ∙ c.header.ensures.lines ∙ c.new-lines.ensures.lines in
    let last : c.last.result ≡ last_line (clause_lines c.args.text.now) = c.last.ensures ∙ ap (max 1) all in
    inr (too_few c.args.text.now c.in_ok-head.head.now c.in_ok-head.number (content_from (c.header.new.self.before + 1) c.header.new.self.rest) lines h header vars clauses c.take_rest.new.self whole c.if-reader-count.true ∙ ap (λ (l : ℕ). Some (fault TooFewClauses l)) (sym last))

pub returns-then-reader-count-clause-only : goal.returns-then-reader-count-clause-only
returns-then-reader-count-clause-only c = λ i text.
    only_memory (cnf_refusal c.args.text.now) (fault TooFewClauses c.last.result) (not_refused c.args.text.now i text) (returns-then-reader-count-clause-refused c)

pub unreachable-requires : goal.unreachable-requires
unreachable-requires c =
    let lines = sym c.new-lines.ensures.content ∙ c.in_ok-head.ensures.some in
    let vars : c.in-Some.field-0.vars ≤ MAX_VARS = omega (arith, c.if-vars-gt-MAX_VARS.false) in
    let clauses : c.in-Some.field-0.clauses ≤ MAX_CONSTRAINTS = omega (arith, c.if-clauses-gt-MAX_CONSTRAINTS.false) in
    let h : Header = record { vars = c.in-Some.field-0.vars; clauses = c.in-Some.field-0.clauses } in
    let header = header_is (header_words (words c.in_ok-head.head.now)) c.in-Some.field-0 (sym c.read_header.ensures ∙ c.in-Some.is) vars clauses in
    let taken = c.in_ok-take_rest.ensures.ok (Some h.clauses) h.vars [] c.new-reader.ensures in
    let whole = c.in_ok-end.ensures.ok (Some h.clauses) h.vars (placed_words (content_from (c.header.new.self.before + 1) c.header.new.self.rest)) taken in
    let read = all_read c.args.text.now c.in_ok-head.head.now c.in_ok-head.number (content_from (c.header.new.self.before + 1) c.header.new.self.rest) lines h header vars clauses c.take_rest.new.self whole c.if-reader-count.false in
    let within : HasVariablesWithin h.vars c.into_builder.result = subst (λ (s : Statements). HasVariablesWithin h.vars s) (sym (c.into_builder.ensures ∙ whole.holds.built)) read.3 in
    false≢true (c.in-Err.ensures.accepts.1 (vars, within))

pub returns-clause-found : goal.returns-clause-found
returns-clause-found c =
    let lines = sym c.new-lines.ensures.content ∙ c.in_ok-head.ensures.some in
    let vars : c.in-Some.field-0.vars ≤ MAX_VARS = omega (arith, c.if-vars-gt-MAX_VARS.false) in
    let clauses : c.in-Some.field-0.clauses ≤ MAX_CONSTRAINTS = omega (arith, c.if-clauses-gt-MAX_CONSTRAINTS.false) in
    let h : Header = record { vars = c.in-Some.field-0.vars; clauses = c.in-Some.field-0.clauses } in
    let header = header_is (header_words (words c.in_ok-head.head.now)) c.in-Some.field-0 (sym c.read_header.ensures ∙ c.in-Some.is) vars clauses in
    let taken = c.in_ok-take_rest.ensures.ok (Some h.clauses) h.vars [] c.new-reader.ensures in
    let whole = c.in_ok-end.ensures.ok (Some h.clauses) h.vars (placed_words (content_from (c.header.new.self.before + 1) c.header.new.self.rest)) taken in
    let read = all_read c.args.text.now c.in_ok-head.head.now c.in_ok-head.number (content_from (c.header.new.self.before + 1) c.header.new.self.rest) lines h header vars clauses c.take_rest.new.self whole c.if-reader-count.false in
    let is = c.in-Ok.ensures.finished ∙ ap (λ (s : Statements). record { vars = h.vars; objective = s.objective; constraints = s.constraints }) (c.into_builder.ensures ∙ whole.holds.built) in
    subst (CnfText c.args.text.now) (sym is) read.2

pub returns-clause-only : goal.returns-clause-only
returns-clause-only c = λ i text. one c.args.text.now c.in-Ok.instance i (returns-clause-found c) text
