use Rattle.std.proofs.Common.{◌≡◌, ◌∙◌, ◌+◌, [], None, sym, ap, arith, inr, max, subst, true}
use Rattle.std.proofs.lemmas.Result.{err_from_is_err_and}
use Rattle.std.proofs.lemmas.Bool.{false≢true}
use Rattle.pb_inst.specs.declared.limits.TheConstants.{MAX_VARS}
use Rattle.pb_inst.specs.Limits.{HasVariablesWithin}
use Rattle.pb_inst.specs.Problem.{Problem, Statements}
use Rattle.pb_read.specs.Text.{words}
use Rattle.pb_read.specs.Clauses.{placed_words, greatest_var}
use Rattle.pb_read.specs.Icnf.{is_header, clause_part, cube_part, icnf_refusal, IcnfText}
use Rattle.pb_read.specs.ClauseReading.{content_from}
use Rattle.pb_read.proofs.IcnfLaws.{one, not_refused}
use Rattle.pb_read.proofs.CnfReading.{fails_now}
use Rattle.pb_read.proofs.IcnfReading.{clause_fails, clauses_refused, cubes_refused, all_read, greatest_by_lists}
use Rattle.pb_read.proofs.FaultOnly.{only_memory}
use Rattle.pb_read.proofs.dimacs.icnf.read_icnf.Goals as goal

pub returns-in_err-first_cube-clause-refused : goal.returns-in_err-first_cube-clause-refused
returns-in_err-first_cube-clause-refused c =
    let p = err_from_is_err_and c.from_residual-in_err-first_cube.result c.from_residual-in_err-first_cube.ensures.1 in
    let lines = sym c.new-lines.ensures.content ∙ c.in_ok-head.ensures.some in
    let header : is_header (words c.in_ok-head.head.now) ≡ true = sym c.is_header.ensures ∙ c.if-not-is_header.false in
    let f = c.in_err-first_cube.field-0.0 in
    rw (p.1, p.2) (clauses_refused c.args.text.now c.in_ok-head.head.now c.in_ok-head.number (content_from (c.header.new.self.before + 1) c.header.new.self.rest) lines header f (fails_now None MAX_VARS (placed_words (clause_part (content_from (c.header.new.self.before + 1) c.header.new.self.rest))) f (c.in_err-first_cube.ensures.err None MAX_VARS [] c.new-reader.ensures)))

pub returns-in_err-first_cube-clause-only : goal.returns-in_err-first_cube-clause-only
returns-in_err-first_cube-clause-only c = λ i cubes text.
    let p = err_from_is_err_and c.from_residual-in_err-first_cube.result c.from_residual-in_err-first_cube.ensures.1 in
    rw (p.1, p.2) (only_memory (icnf_refusal c.args.text.now) c.in_err-first_cube.field-0.0 (not_refused c.args.text.now i cubes text) (rw (p.1, p.2) at (returns-in_err-first_cube-clause-refused c)))

pub returns-in_err-end-clause-refused : goal.returns-in_err-end-clause-refused
returns-in_err-end-clause-refused c =
    let p = err_from_is_err_and c.from_residual-in_err-end.result c.from_residual-in_err-end.ensures.1 in
    let lines = sym c.new-lines.ensures.content ∙ c.in_ok-head.ensures.some in
    let header : is_header (words c.in_ok-head.head.now) ≡ true = sym c.is_header.ensures ∙ c.if-not-is_header.false in
    let taken = c.in_ok-first_cube.ensures.ok None MAX_VARS [] c.new-reader.ensures in
    let f = c.in_err-end.field-0.0 in
    rw (p.1, p.2) (inr (clause_fails c.args.text.now c.in_ok-head.head.now c.in_ok-head.number (content_from (c.header.new.self.before + 1) c.header.new.self.rest) lines header f (c.in_err-end.ensures.err None MAX_VARS (placed_words (clause_part (content_from (c.header.new.self.before + 1) c.header.new.self.rest))) taken)))

pub returns-in_err-end-clause-only : goal.returns-in_err-end-clause-only
returns-in_err-end-clause-only c = λ i cubes text.
    let p = err_from_is_err_and c.from_residual-in_err-end.result c.from_residual-in_err-end.ensures.1 in
    rw (p.1, p.2) (only_memory (icnf_refusal c.args.text.now) c.in_err-end.field-0.0 (not_refused c.args.text.now i cubes text) (rw (p.1, p.2) at (returns-in_err-end-clause-refused c)))

pub returns-in_err-cubes-clause-refused : goal.returns-in_err-cubes-clause-refused
returns-in_err-cubes-clause-refused c =
    let p = err_from_is_err_and c.from_residual-in_err-cubes.result c.from_residual-in_err-cubes.ensures.1 in
    let lines = sym c.new-lines.ensures.content ∙ c.in_ok-head.ensures.some in
    let header : is_header (words c.in_ok-head.head.now) ≡ true = sym c.is_header.ensures ∙ c.if-not-is_header.false in
    let taken = c.in_ok-first_cube.ensures.ok None MAX_VARS [] c.new-reader.ensures in
    let whole = c.in_ok-end.ensures.ok None MAX_VARS (placed_words (clause_part (content_from (c.header.new.self.before + 1) c.header.new.self.rest))) taken in
    let f = c.in_err-cubes.field-0.0 in
    rw (p.1, p.2) (cubes_refused c.args.text.now c.in_ok-head.head.now c.in_ok-head.number (content_from (c.header.new.self.before + 1) c.header.new.self.rest) lines header c.take_clauses.new.self whole f (c.in_err-cubes.ensures.err (cube_part (content_from (c.header.new.self.before + 1) c.header.new.self.rest)) c.in_ok-first_cube.ensures.first))

pub returns-in_err-cubes-clause-only : goal.returns-in_err-cubes-clause-only
returns-in_err-cubes-clause-only c = λ i cubes text.
    let p = err_from_is_err_and c.from_residual-in_err-cubes.result c.from_residual-in_err-cubes.ensures.1 in
    rw (p.1, p.2) (only_memory (icnf_refusal c.args.text.now) c.in_err-cubes.field-0.0 (not_refused c.args.text.now i cubes text) (rw (p.1, p.2) at (returns-in_err-cubes-clause-refused c)))

pub unreachable-requires : goal.unreachable-requires
unreachable-requires c =
    let lines = sym c.new-lines.ensures.content ∙ c.in_ok-head.ensures.some in
    let header : is_header (words c.in_ok-head.head.now) ≡ true = sym c.is_header.ensures ∙ c.if-not-is_header.false in
    let taken = c.in_ok-first_cube.ensures.ok None MAX_VARS [] c.new-reader.ensures in
    let whole = c.in_ok-end.ensures.ok None MAX_VARS (placed_words (clause_part (content_from (c.header.new.self.before + 1) c.header.new.self.rest))) taken in
    let cubes = c.in_ok-cubes.cubes.items in
    let lists = c.in_ok-cubes.ensures.ok (cube_part (content_from (c.header.new.self.before + 1) c.header.new.self.rest)) c.in_ok-first_cube.ensures.first in
    let of_cubes : c.greatest_var_of.result ≡ greatest_var c.in_ok-cubes.cubes.items = rw c.deref.ensures.value at c.greatest_var_of.ensures ∙ greatest_by_lists c.in_ok-cubes.cubes.items in
    let vars : c.max-vars.result ≡ max (greatest_var whole.read) (greatest_var c.in_ok-cubes.cubes.items) = omega (arith, c.max-vars.ensures, whole.holds.greatest, of_cubes) in
    let read = all_read c.args.text.now c.in_ok-head.head.now c.in_ok-head.number (content_from (c.header.new.self.before + 1) c.header.new.self.rest) lines header c.take_clauses.new.self whole cubes lists c.max-vars.result vars in
    let within : HasVariablesWithin c.max-vars.result c.into_builder.result = subst (λ (s : Statements). HasVariablesWithin c.max-vars.result s) (sym (c.into_builder.ensures ∙ whole.holds.built)) read.2 in
    false≢true (c.in-Err.ensures.accepts.1 (read.1, within))

pub returns-clause-found : goal.returns-clause-found
returns-clause-found c =
    let lines = sym c.new-lines.ensures.content ∙ c.in_ok-head.ensures.some in
    let header : is_header (words c.in_ok-head.head.now) ≡ true = sym c.is_header.ensures ∙ c.if-not-is_header.false in
    let taken = c.in_ok-first_cube.ensures.ok None MAX_VARS [] c.new-reader.ensures in
    let whole = c.in_ok-end.ensures.ok None MAX_VARS (placed_words (clause_part (content_from (c.header.new.self.before + 1) c.header.new.self.rest))) taken in
    let cubes = c.in_ok-cubes.cubes.items in
    let lists = c.in_ok-cubes.ensures.ok (cube_part (content_from (c.header.new.self.before + 1) c.header.new.self.rest)) c.in_ok-first_cube.ensures.first in
    let of_cubes : c.greatest_var_of.result ≡ greatest_var c.in_ok-cubes.cubes.items = rw c.deref.ensures.value at c.greatest_var_of.ensures ∙ greatest_by_lists c.in_ok-cubes.cubes.items in
    let vars : c.max-vars.result ≡ max (greatest_var whole.read) (greatest_var c.in_ok-cubes.cubes.items) = omega (arith, c.max-vars.ensures, whole.holds.greatest, of_cubes) in
    let read = all_read c.args.text.now c.in_ok-head.head.now c.in_ok-head.number (content_from (c.header.new.self.before + 1) c.header.new.self.rest) lines header c.take_clauses.new.self whole cubes lists c.max-vars.result vars in
    let is = c.in-Ok.ensures.finished ∙ ap (λ (s : Statements). record { vars = c.max-vars.result; objective = s.objective; constraints = s.constraints }) (c.into_builder.ensures ∙ whole.holds.built) in
    subst (λ (i : Problem). IcnfText c.args.text.now i c.in_ok-cubes.cubes.items) (sym is) read.0

pub returns-clause-only : goal.returns-clause-only
returns-clause-only c = λ i cubes text. one c.args.text.now c.in-Ok.instance i c.in_ok-cubes.cubes.items cubes (returns-clause-found c) text
