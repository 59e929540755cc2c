use Rattle.std.proofs.Common.{ap, inr, refl, subst, sym, map, ◌∙◌}
use Rattle.std.proofs.lemmas.Bool.{and_parts}
use Rattle.std.specs.Prelude.{IfSome, IsNone}
use Rattle.clap.specs.Words.{HasKind, fault_of, found_of, is_simple_and_free, matches_of, rows_of}
use Rattle.pb_line.proofs.Refusals.{refused_as_passed_on}
use Rattle.pb_line.proofs.parse.parse.Goals as goal

pub returns-in-Some-clause-line : goal.returns-in-Some-clause-line
returns-in-Some-clause-line g c =
    let one = c.in_ok-command.ensures.app in
    let simple = ap is_simple_and_free one ∙ c.in_ok-command.ensures.simple in
    let rows = (c.in_ok-matches.ensures.ok.2 (and_parts _ _ simple).0).0 ∙ ap (λ app. matches_of app (map (λ word. word.now) c.args.words.now)) one in
    let has = subst (λ line. IfSome line (g.L.CommandLine.has (rows_of (found_of c.in_ok-matches.matches)))) c.in-Some.is c.in_ok-line.ensures.some in
    subst (λ found. g.L.CommandLine.has found c.in-Some.line) rows has

pub returns-in-Some-clause-accepted : goal.returns-in-Some-clause-accepted
returns-in-Some-clause-accepted g c =
    let one = c.in_ok-command.ensures.app in
    sym (ap (λ app. fault_of app (map (λ word. word.now) c.args.words.now)) one) ∙ c.in_ok-matches.ensures.kinds (ap is_simple_and_free one ∙ c.in_ok-command.ensures.simple)

pub returns-clause-refused : goal.returns-clause-refused
returns-clause-refused g c =
    let one = c.in_ok-command.ensures.app in
    let simple = ap is_simple_and_free one ∙ c.in_ok-command.ensures.simple in
    let rows = (c.in_ok-matches.ensures.ok.2 (and_parts _ _ simple).0).0 ∙ ap (λ app. matches_of app (map (λ word. word.now) c.args.words.now)) one in
    let none = c.in_ok-line.ensures.none (subst IsNone (sym c.in-None.is) refl) in
    inr (inr (c.in_ok-error-in-None.ensures.kind, subst g.L.CommandLine.has_no_line rows none))

pub returns-in_err-matches-clause-refused : goal.returns-in_err-matches-clause-refused
returns-in_err-matches-clause-refused g c =
    let words = map (λ word. word.now) c.args.words.now in
    let one = c.in_ok-command.ensures.app in
    let kinds = subst (λ app. HasKind (fault_of app words) c.in_err-matches.field-0.0) one (c.in_err-matches.ensures.kinds (ap is_simple_and_free one ∙ c.in_ok-command.ensures.simple)) in
    let passed_on = c.from_residual-in_err-matches.ensures in
    refused_as_passed_on g.L.CommandLine.app g.L.CommandLine.has_no_line words c.from_residual-in_err-matches.result c.in_err-matches.field-0.0 kinds passed_on.0 passed_on.1
