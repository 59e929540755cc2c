use Rattle.std.proofs.Common.{◌≡◌, ◌∙◌, sym, ap, subst, arith, max}
use Rattle.std.proofs.lemmas.Result.{err_from_is_err_and}
use Rattle.pb_read.specs.Failure.{StatementFails}
use Rattle.pb_read.specs.Terms.{greatest_index}
use Rattle.pb_read.specs.Drafts.{Gathered}
use Rattle.pb_read.specs.declared.opb.builder.OpbBuilder.{OpbBuilder}
use Rattle.pb_read.proofs.Taken.{form_first, too_large, drafted}
use Rattle.pb_read.proofs.Steps.{constraint_kind, after_constraint, objective_kind, after_objective}
use Rattle.pb_read.proofs.Finishing.{form_of, min_of, sum_over, sum_within, objective_is, constraint_is}
use Rattle.pb_read.proofs.opb.builder.OpbBuilder.finish.Goals as goal
use Rattle.pb_read.proofs.opb.builder.OpbBuilder.finish.Goals.{then-is_objective+in_ok-set_objective, else-is_objective+in_ok-add}

pub returns-in-Some-clause-err : goal.returns-in-Some-clause-err
returns-in-Some-clause-err c = λ earlier s h d end.
    form_first earlier s c.args.self.now.is_empty h.empty end c.in-Some.kind (form_of c.args.self.now.is_empty c.args.self.now.draft s d _ c.in-Some.ensures)

pub returns-then-is_too_large-clause-err : goal.returns-then-is_too_large-clause-err
returns-then-is_too_large-clause-err c = λ earlier s h d end.
    let form = form_of c.args.self.now.is_empty c.args.self.now.draft s d _ c.in_default.ensures in
    too_large earlier s c.args.self.now.is_empty h.empty end form (sum_over c.args.self.now.is_empty c.args.self.now.draft s d _ c.is_too_large.ensures c.if-is_too_large.true)

pub returns-in_err-set_objective-clause-err : goal.returns-in_err-set_objective-clause-err
returns-in_err-set_objective-clause-err c = λ earlier s h d end.
    let form = form_of c.args.self.now.is_empty c.args.self.now.draft s d _ c.in_default.ensures in
    let m = min_of c.args.self.now.is_empty c.args.self.now.draft s d _ c.is_objective.ensures ∙ c.if-is_objective.true in
    let is = objective_is c.args.self.now.is_empty c.args.self.now.draft s d form m (sum_within c.args.self.now.is_empty c.args.self.now.draft s d _ c.is_too_large.ensures c.if-is_too_large.false) in
    let kind = objective_kind c.args.self.now.instance c.args.self.now.greatest c.args.self.now.is_empty earlier s h end form c.args.self.now.draft.terms m is in
    let p = err_from_is_err_and c.from_residual.result c.from_residual.ensures.1 in
    rw (p.1, p.2) (subst (StatementFails c.in_err-set_objective.field-0.0) (sym kind) c.in_err-set_objective.ensures.err)

pub returns-in_err-add-clause-err : goal.returns-in_err-add-clause-err
returns-in_err-add-clause-err c = λ earlier s h d end.
    let form = form_of c.args.self.now.is_empty c.args.self.now.draft s d _ c.in_default.ensures in
    let m = min_of c.args.self.now.is_empty c.args.self.now.draft s d _ c.is_objective.ensures ∙ c.if-is_objective.false in
    let is = constraint_is c.args.self.now.is_empty c.args.self.now.draft s d form m (sum_within c.args.self.now.is_empty c.args.self.now.draft s d _ c.is_too_large.ensures c.if-is_too_large.false) in
    let kind = constraint_kind c.args.self.now.instance c.args.self.now.greatest c.args.self.now.is_empty earlier s h end form (drafted c.args.self.now.draft) is in
    let p = err_from_is_err_and c.from_residual-in_err-add.result c.from_residual-in_err-add.ensures.1 in
    rw (p.1, p.2) (subst (StatementFails c.in_err-add.field-0.0) (sym kind) c.in_err-add.ensures.err)

pub returns-clause-ok : goal.returns-clause-ok
returns-clause-ok c = λ earlier s h d end.
    let form = form_of c.args.self.now.is_empty c.args.self.now.draft s d _ c.in_default.ensures in
    elim c.if-is_objective.branch [
      | then-is_objective+in_ok-set_objective w ↦
          let m = min_of c.args.self.now.is_empty c.args.self.now.draft s d _ c.is_objective.ensures ∙ w.if-is_objective.true in
          let is = objective_is c.args.self.now.is_empty c.args.self.now.draft s d form m (sum_within c.args.self.now.is_empty c.args.self.now.draft s d _ c.is_too_large.ensures c.if-is_too_large.false) in
          let kind = objective_kind c.args.self.now.instance c.args.self.now.greatest c.args.self.now.is_empty earlier s h end form c.args.self.now.draft.terms m is in
          let set = w.in_ok-set_objective.ensures.set in
          let made = ap (λ (b : OpbBuilder). b.instance) w.self-is ∙ set.1 in
          let g = ap (λ (b : OpbBuilder). b.greatest) w.self-is ∙ set.2 in
          let ts = ap (λ (b : OpbBuilder). b.draft.terms) w.self-is ∙ ap (λ (x : Gathered). x.terms) set.3 in
          let most : c.max-self.result ≡ max c.args.self.now.greatest (greatest_index c.args.self.now.draft.terms) = omega (arith, c.max-self.ensures, c.greatest_index.ensures, g, ap greatest_index (c.terms.ensures ∙ ts)) in
          (kind ∙ set.0, after_objective c.args.self.now.instance c.args.self.now.greatest c.args.self.now.is_empty earlier s h end form c.args.self.now.draft.terms _ c.max-self.result m is made most)
      | else-is_objective+in_ok-add w ↦
          let m = min_of c.args.self.now.is_empty c.args.self.now.draft s d _ c.is_objective.ensures ∙ w.if-is_objective.false in
          let is = constraint_is c.args.self.now.is_empty c.args.self.now.draft s d form m (sum_within c.args.self.now.is_empty c.args.self.now.draft s d _ c.is_too_large.ensures c.if-is_too_large.false) in
          let kind = constraint_kind c.args.self.now.instance c.args.self.now.greatest c.args.self.now.is_empty earlier s h end form (drafted c.args.self.now.draft) is in
          let added = w.in_ok-add.ensures.added in
          let made = ap (λ (b : OpbBuilder). b.instance) w.self-is ∙ added.1 in
          let g = ap (λ (b : OpbBuilder). b.greatest) w.self-is ∙ added.2 in
          let ts = ap (λ (b : OpbBuilder). b.draft.terms) w.self-is ∙ ap (λ (x : Gathered). x.terms) added.3 in
          let most : c.max-self.result ≡ max c.args.self.now.greatest (greatest_index c.args.self.now.draft.terms) = omega (arith, c.max-self.ensures, c.greatest_index.ensures, g, ap greatest_index (c.terms.ensures ∙ ts)) in
          (kind ∙ added.0, after_constraint c.args.self.now.instance c.args.self.now.greatest c.args.self.now.is_empty earlier s h end form (drafted c.args.self.now.draft) _ c.max-self.result is made most)
    ]
