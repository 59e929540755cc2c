use Rattle.std.proofs.Common.{◌≡◌, ◌+◌, ◌≤◌, List, All, take, get_or, sym, ap, subst, arith}
use Rattle.std.proofs.lemmas.List.{take_more, take_all}
use Rattle.std.proofs.lemmas.List.Elements.{All-push}
use Rattle.pb_normal.specs.declared.terms.PositiveTerm.{PositiveTerm}
use Rattle.pb_rows.proofs.rows.enough.Goals as goal

pub loop-term-preserved : goal.loop-term-preserved
loop-term-preserved g c =
    let terms : List PositiveTerm = c.args.terms.now in
    let i = c.loop-term.term-index in
    let item : PositiveTerm = c.term-item.result in
    let last : PositiveTerm = get_or terms i item in
    let P : PositiveTerm → Type 0 = λ t. c.args.degree + t.coef ≤ c.max-enough.result in
    let before : All P (take i terms) = λ k d h. omega (arith, c.loop-term.invariant.each k d h, c.max-enough.ensures) in
    let here : P last = omega (arith, ap (λ (t : PositiveTerm). t.coef) c.term-item.is, c.coef.ensures, c.add.ensures, c.max-enough.ensures) in
    record {
      degree = omega (arith, c.max-enough.ensures);
      most = omega (arith, c.max-enough.ensures, c.add.ensures, c.coef.ensures, ap (λ (t : PositiveTerm). t.coef) c.term-item.is, c.requires.clipped i item c.loop-term-test.true);
      each = subst (All P) (sym (take_more terms i item c.loop-term-test.true)) (All-push P (take i terms) last before here);
    }

pub returns-clause-each : goal.returns-clause-each
returns-clause-each g c =
    let terms : List PositiveTerm = c.args.terms.now in
    let P : PositiveTerm → Type 0 = λ t. c.args.degree + t.coef ≤ c.loop-term.enough in
    let whole : take c.loop-term.term-index terms ≡ terms = take_all c.loop-term.term-index terms (omega arith) in
    subst (All P) whole c.loop-term.invariant.each
