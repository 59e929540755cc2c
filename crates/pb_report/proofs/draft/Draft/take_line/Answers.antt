use Rattle.std.proofs.Common.{◌∙◌, arith, sym}
use Rattle.std.proofs.lemmas.Int.{ints, to_z-of_z}
use Rattle.pb_report.specs.Lines.{words}
use Rattle.pb_report.proofs.Lines.{with_blank, with_comment, with_cost, with_status, with_values}
use Rattle.std.proofs.Common.{◌≡◌, Some, refl, subst}
use Rattle.std.specs.List.{flat_map}
use Rattle.std.proofs.lemmas.Bool.{false≢true}
use Rattle.pb_report.specs.declared.keys.Key.TheVariants.{Status, Values}
use Rattle.pb_report.specs.declared.statuses.Status.{Status as SaidStatus}
use Rattle.pb_report.specs.Draft.{Follow}
use Rattle.pb_report.specs.Lines.{said, is_values}
use Rattle.pb_report.proofs.Following.{after_blank, after_comment, after_cost, after_status, after_values, complete_words, first_status, narrow_cost, ok_is}
use Rattle.pb_report.proofs.Lines.{Begins}
use Rattle.pb_report.proofs.draft.Draft.take_line.Goals as goal

pub returns-in_default-clause-drafted : goal.returns-in_default-clause-drafted
returns-in_default-clause-drafted c = λ vars lines h.
    with_blank vars lines (words c.args.line.now) c.args.self.now (sym c.fields-words.ensures.value ∙ c.in_default.ensures.steps.0) h

pub returns-in-Comment-clause-drafted : goal.returns-in-Comment-clause-drafted
returns-in-Comment-clause-drafted c = λ vars lines h.
    with_comment vars lines (words c.args.line.now) c.next.new.self c.args.self.now
    (record { word = c.in-Some.first.now; is = sym c.fields-words.ensures.value ∙ c.in-Some.ensures.steps; key_is = sym c.key_of.ensures ∙ c.in-Comment.is }) h

pub returns-in_ok-cost_of-in-Cost-clause-drafted : goal.returns-in_ok-cost_of-in-Cost-clause-drafted
returns-in_ok-cost_of-in-Cost-clause-drafted c = λ vars lines h.
    search (
      arith,
      ints,
      to_z-of_z,
      with_cost vars lines (words c.args.line.now) c.next.new.self c.args.self.now c.in_ok-cost_of-in-Cost.field-0
          (record { word = c.in-Some.first.now; is = sym c.fields-words.ensures.value ∙ c.in-Some.ensures.steps; key_is = sym c.key_of.ensures ∙ c.in-Cost.is })
          c.in_ok-cost_of-in-Cost.ensures.cost h,
    )

pub returns-in_ok-first_status-in-Status-clause-drafted : goal.returns-in_ok-first_status-in-Status-clause-drafted
returns-in_ok-first_status-in-Status-clause-drafted c = λ vars lines h.
    with_status vars c.args.number lines (words c.args.line.now) c.next.new.self c.args.self.now c.in_ok-first_status-in-Status.field-0
    (record { word = c.in-Some.first.now; is = sym c.fields-words.ensures.value ∙ c.in-Some.ensures.steps; key_is = sym c.key_of.ensures ∙ c.in-Status.is })
    c.in_ok-first_status-in-Status.ensures.first c.in_ok-first_status-in-Status.ensures.status h

pub returns-in_ok-take_words-in-Values-clause-drafted : goal.returns-in_ok-take_words-in-Values-clause-drafted
returns-in_ok-take_words-in-Values-clause-drafted c = λ vars lines h.
    with_values vars c.args.number lines (words c.args.line.now) c.next.new.self c.args.self.now c.take_words.new.self
    (record { word = c.in-Some.first.now; is = sym c.fields-words.ensures.value ∙ c.in-Some.ensures.steps; key_is = sym c.key_of.ensures ∙ c.in-Values.is })
    (λ taken t. c.in_ok-take_words-in-Values.ensures.taken vars taken t) h

pub returns-in_default-clause-accepted : goal.returns-in_default-clause-accepted
returns-in_default-clause-accepted c = λ status more h.
    (refl, after_blank status (words c.args.line.now) more c.args.self.now (sym c.fields-words.ensures.value ∙ c.in_default.ensures.steps.0) h)

pub returns-in_err-cost_of-in-Cost-clause-accepted : goal.returns-in_err-cost_of-in-Cost-clause-accepted
returns-in_err-cost_of-in-Cost-clause-accepted c = λ status more h.
    let narrow = narrow_cost status (words c.args.line.now) c.next.new.self more c.args.self.now
    (record { word = c.in-Some.first.now; is = sym c.fields-words.ensures.value ∙ c.in-Some.ensures.steps; key_is = sym c.key_of.ensures ∙ c.in-Cost.is }) h in
    absurd (false≢true (c.in_err-cost_of-in-Cost.ensures.accepted narrow.0 narrow.1 narrow.2))

pub returns-in_ok-cost_of-in-Cost-clause-accepted : goal.returns-in_ok-cost_of-in-Cost-clause-accepted
returns-in_ok-cost_of-in-Cost-clause-accepted c = λ status more h. (
  refl,
  after_cost status (words c.args.line.now) c.next.new.self more c.args.self.now _
      (record { word = c.in-Some.first.now; is = sym c.fields-words.ensures.value ∙ c.in-Some.ensures.steps; key_is = sym c.key_of.ensures ∙ c.in-Cost.is }) h,
)

pub returns-in_ok-first_status-in-Status-clause-accepted : goal.returns-in_ok-first_status-in-Status-clause-accepted
returns-in_ok-first_status-in-Status-clause-accepted c = λ status more h.
    let b : Begins (words c.args.line.now) Status c.next.new.self = (record { word = c.in-Some.first.now; is = sym c.fields-words.ensures.value ∙ c.in-Some.ensures.steps; key_is = sym c.key_of.ensures ∙ c.in-Status.is }) in
    let first = first_status status (words c.args.line.now) c.next.new.self more c.args.self.now b h in
    let same : c.in_ok-first_status-in-Status.field-0 ≡ status = ok_is (c.in_ok-first_status-in-Status.ensures.accepted status first.0 first.1) in (
      refl,
      subst (λ (s : SaidStatus). Follow status more (record { status = Some s; cost = c.args.self.now.cost; values = c.args.self.now.values; last_values = c.args.self.now.last_values; status_line = c.args.number })) (sym same)
          (after_status status (words c.args.line.now) c.next.new.self more c.args.self.now c.args.number b h),
    )

pub returns-in_err-take_words-in-Values-clause-accepted : goal.returns-in_err-take_words-in-Values-clause-accepted
returns-in_err-take_words-in-Values-clause-accepted c = λ status more h.
    absurd (false≢true (c.in_err-take_words-in-Values.ensures.accepted (flat_map (λ ws. ws) (said is_values more))
    (complete_words status (words c.args.line.now) c.next.new.self more c.args.self.now
    (record { word = c.in-Some.first.now; is = sym c.fields-words.ensures.value ∙ c.in-Some.ensures.steps; key_is = sym c.key_of.ensures ∙ c.in-Values.is }) h)).0)

pub returns-in_ok-take_words-in-Values-clause-accepted : goal.returns-in_ok-take_words-in-Values-clause-accepted
returns-in_ok-take_words-in-Values-clause-accepted c = λ status more h.
    let b : Begins (words c.args.line.now) Values c.next.new.self = (record { word = c.in-Some.first.now; is = sym c.fields-words.ensures.value ∙ c.in-Some.ensures.steps; key_is = sym c.key_of.ensures ∙ c.in-Values.is }) in (
      refl,
      after_values status (words c.args.line.now) c.next.new.self more c.args.self.now c.take_words.new.self c.args.number b h
          (c.in_ok-take_words-in-Values.ensures.accepted (flat_map (λ ws. ws) (said is_values more)) (complete_words status (words c.args.line.now) c.next.new.self more c.args.self.now b h)).1,
    )

pub returns-in-Comment-clause-accepted : goal.returns-in-Comment-clause-accepted
returns-in-Comment-clause-accepted c = λ status more h. (
  refl,
  after_comment status (words c.args.line.now) c.next.new.self more c.args.self.now
      (record { word = c.in-Some.first.now; is = sym c.fields-words.ensures.value ∙ c.in-Some.ensures.steps; key_is = sym c.key_of.ensures ∙ c.in-Comment.is }) h,
)
