use Rattle.std.proofs.Common.{◌≡◌, ◌∙◌, ◌++◌, ◌∷◌, [], sym, subst, Bool, true, false}
use Rattle.std.proofs.lemmas.Bool.{both_ways}
use Rattle.std.specs.Prelude.{Some, Result, Ok, Err, OnOk, is_err}
use Rattle.pb_read.specs.declared.opb.builder.StatementError.{StatementError}
use Rattle.pb_read.specs.Opb as opb
use Rattle.pb_read.specs.Refusal.{first_kind}
use Rattle.pb_read.specs.Text.{items}
use Rattle.pb_read.specs.Failure.{StatementFails}
use Rattle.pb_read.specs.Capped.{read_back}
use Rattle.pb_read.specs.Drafts.{Gathered, gather}
use Rattle.pb_read.specs.Building.{HasBuilt}
use Rattle.pb_read.proofs.Gathering.{at, end_is, no_end, held_more, after_token, ended, after_statement, faulty_statement, line_by}
use Rattle.pb_read.proofs.opb.builder.OpbBuilderTokenSink.take.Goals as goal
use Rattle.pb_read.proofs.opb.builder.OpbBuilderTokenSink.take.Goals.{then-is_new, else-is_new}

-- a call that did not fail
taken_is : {T E : Type 0} (r : Result T E) (b : Bool) (new old : Gathered) → b ≡ is_err r → b ≡ false → OnOk r (new ≡ old) → new ≡ old
taken_is (Ok x) b new old e f h = h
taken_is (Err x) b new old e f h = absurd cc

pub returns-in_default : goal.returns-in_default
returns-in_default c = record {
  ok = λ taken t h same.
      let after = taken_is c.take.result c.is_err.result c.take.new.self (gather c.args.self.now.draft (read_back c.args.token)) c.is_err.ensures.value c.if-is_err.false c.take.ensures in
      let held = held_more h.begun c.args.self.now.draft c.take.new.self c.args.token t c.args.line h.held after same in
      let line = line_by h.begun c.args.self.now.draft t c.args.line c.args.self.now.line c.if-is_new.first_line c.is_new.result h.held c.is_new.ensures h.line_is
      (λ e. elim c.if-is_new.branch [ then-is_new w ↦ w.first_line-is | else-is_new w ↦ absurd (both_ways c.is_new.result w.if-is_new.false e) ])
      (λ e. elim c.if-is_new.branch [ then-is_new w ↦ absurd (both_ways c.is_new.result e w.if-is_new.true) | else-is_new w ↦ w.first_line-is ]) in
      after_token (HasBuilt c.args.self.now.instance c.args.self.now.greatest c.args.self.now.is_empty) c.args.self.now.draft c.take.new.self c.args.self.now.line c.if-is_new.first_line c.args.line taken t h (no_end t (λ e. c.in_default.not-End (same ∙ sym e))) held line;
  err = λ taken t h same. tt;
}

pub returns-in-Ok-clause-ok : goal.returns-in-Ok-clause-ok
returns-in-Ok-clause-ok c = λ taken t h same.
    let end : opb.is_end t ≡ true = end_is t (sym c.in-End.is ∙ same) in
    let after = taken_is c.take.result c.is_err.result c.take.new.self (gather c.args.self.now.draft (read_back c.args.token)) c.is_err.ensures.value c.if-is_err.false c.take.ensures in
    let held = held_more h.begun c.args.self.now.draft c.take.new.self c.args.token t c.args.line h.held after same in
    let r = c.in-Ok.ensures.ok (items (opb.statements_in h.done)) (items (h.begun ++ at t c.args.line ∷ [])) h.statements held (ended h.done h.begun t c.args.line end) in
    rw (c.in-Ok.ensures.fresh) (after_statement (HasBuilt c.args.self.now.instance c.args.self.now.greatest c.args.self.now.is_empty) (HasBuilt c.finish.new.self.instance c.finish.new.self.greatest c.finish.new.self.is_empty)
    c.args.self.now.draft c.args.self.now.line c.finish.new.self.line c.args.line taken t h end r.0 r.1)

pub returns-in-Err-Fault-clause-err : goal.returns-in-Err-Fault-clause-err
returns-in-Err-Fault-clause-err c = λ taken t h same.
    let end : opb.is_end t ≡ true = end_is t (sym c.in-End.is ∙ same) in
    let after = taken_is c.take.result c.is_err.result c.take.new.self (gather c.args.self.now.draft (read_back c.args.token)) c.is_err.ensures.value c.if-is_err.false c.take.ensures in
    let held = held_more h.begun c.args.self.now.draft c.take.new.self c.args.token t c.args.line h.held after same in
    let r = c.in-Err-Fault.ensures.err (items (opb.statements_in h.done)) (items (h.begun ++ at t c.args.line ∷ [])) h.statements held (ended h.done h.begun t c.args.line end) in
    let fault : first_kind (opb.statement_faults (items (opb.statements_in h.done)) (items (h.begun ++ at t c.args.line ∷ []))) ≡ Some c.in-Err-Fault.kind =
    subst (λ (e : StatementError). StatementFails e (first_kind (opb.statement_faults (items (opb.statements_in h.done)) (items (h.begun ++ at t c.args.line ∷ []))))) c.in-Err-Fault.field-0-is r in
    let line = line_by h.begun c.args.self.now.draft t c.args.line c.args.self.now.line c.if-is_new.first_line c.is_new.result h.held c.is_new.ensures h.line_is
    (λ e. elim c.if-is_new.branch [ then-is_new w ↦ w.first_line-is | else-is_new w ↦ absurd (both_ways c.is_new.result w.if-is_new.false e) ])
    (λ e. elim c.if-is_new.branch [ then-is_new w ↦ absurd (both_ways c.is_new.result e w.if-is_new.true) | else-is_new w ↦ w.first_line-is ]) in
    faulty_statement (HasBuilt c.args.self.now.instance c.args.self.now.greatest c.args.self.now.is_empty) (HasBuilt c.finish.new.self.instance c.finish.new.self.greatest c.finish.new.self.is_empty)
    c.args.self.now.draft c.args.self.now.line c.if-is_new.first_line c.args.line taken t h end c.in-Err-Fault.kind fault line
