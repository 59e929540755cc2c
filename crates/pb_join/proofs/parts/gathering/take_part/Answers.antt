use Rattle.std.proofs.Common.{◌≡◌, ◌∙◌, ℕ, ◌<◌, Option, arith, get_or, length, refl, rules, subst, sym}
use Rattle.std.proofs.lemmas.Bool.{false≢true}
use Rattle.std.proofs.lemmas.List.{get_or_default}
use Rattle.pb_parts.specs.declared.parts.Division.{Division}
use Rattle.pb_join.specs.declared.parts.states.ReportState.TheVariants.{Missing}
use Rattle.pb_join.specs.Parts.{IsSameDivision, all_found_in_parts, first_division}
use Rattle.pb_join.proofs.PartSteps.{gathered_more, reported}
use Rattle.pb_join.proofs.PartWholes.{part_solutions}
use Rattle.pb_join.proofs.parts.gathering.take_part.Goals as goal

pub returns-then-not-is_missing-clause-rejected : goal.returns-then-not-is_missing-clause-rejected
returns-then-not-is_missing-clause-rejected c = λ earlier tasks h.
    let inside : c.args.part.now.heading.task < length c.args.gathered.now.reports.items = search rules in
    let count : length c.args.gathered.now.reports.items ≡ tasks = h.became.count in
    let at : c.index.result.now ≡ get_or c.args.gathered.now.reports.items c.args.part.now.heading.task Missing =
    c.index.ensures ∙ get_or_default c.args.gathered.now.reports.items c.args.part.now.heading.task c.index.result.now Missing inside in
    reported earlier c.args.part.now.heading.task (get_or c.args.gathered.now.reports.items c.args.part.now.heading.task Missing)
    (λ e. false≢true (c.if-not-is_missing.ensures.1 (at ∙ e))) (h.became.each c.args.part.now.heading.task (omega arith))

pub returns-clause-taken : goal.returns-clause-taken
returns-clause-taken c = λ earlier tasks h.
    let inside : c.args.part.now.heading.task < length c.args.gathered.now.reports.items = search rules in
    let count : length c.args.gathered.now.reports.items ≡ tasks = h.became.count in
    let at : c.index.result.now ≡ get_or c.args.gathered.now.reports.items c.args.part.now.heading.task Missing =
    c.index.ensures ∙ get_or_default c.args.gathered.now.reports.items c.args.part.now.heading.task c.index.result.now Missing inside in
    let long : c.len-tasks.result ≡ tasks = omega (arith, c.len-tasks.ensures, c.args.gathered.now.reports.ok.0) in
    let same : IsSameDivision c.args.digest.now tasks (first_division earlier) c.args.part.now.heading.division =
    subst (λ (n : ℕ). IsSameDivision c.args.digest.now n (first_division earlier) c.args.part.now.heading.division) long
    (subst (λ (d : Option Division). IsSameDivision c.args.digest.now c.len-tasks.result d c.args.part.now.heading.division) h.divided c.in_ok-check_division.ensures.same) in
    gathered_more c.args.instance.now c.args.digest.now tasks earlier c.args.part.now c.args.gathered.now.division c.args.gathered.now.best.held c.take_claim.new.best.held c.args.gathered.now.reports.items c.state_of_report.result h same
    (omega arith) (sym at ∙ c.if-not-is_missing.ensures.0 refl) (c.if-not-is_part_claim.ensures.0 refl) c.in_default.ensures.witness
    (c.in_default.ensures.first (all_found_in_parts c.args.instance.now earlier) (part_solutions c.args.instance.now c.args.digest.now tasks earlier h.fit) h.first)
    c.state_of_report.ensures
