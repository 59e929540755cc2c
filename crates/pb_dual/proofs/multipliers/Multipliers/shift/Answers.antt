use Rattle.std.proofs.Common.{◌≡◌, ℕ, ◌<◌, List, length, get_or, All, arith, sym, subst}
use Rattle.std.proofs.lemmas.List.{get_or_read}
use Rattle.std.proofs.lemmas.List.Elements.{All-push}
use Rattle.pb_dual.specs.Changes.{Change}
use Rattle.pb_dual.specs.Multipliers.{MultipliersState, IsWithinShare}
use Rattle.pb_dual.specs.Saturation.{counted_form}
use Rattle.pb_dual.proofs.SaturationLemmas.{length-counted}
use Rattle.pb_dual.proofs.multipliers.Multipliers.shift.Goals as goal

pub invariant_of-self : goal.invariant_of-self
invariant_of-self g c =
    let s = c.self.inside in
    let kept = c.self.invariant.0 in
    let form = counted_form s.saturations.items s.form in
    let exists : c.args.row < length s.form.rows = subst (λ (m : MultipliersState). c.args.row < length m.form.rows) (sym c.self.view_is) c.requires.row in
    let row : c.args.row < length form.rows = omega (arith, length-counted s.saturations.items s.form.rows c.self.invariant.1.count) in
    let before : c.index-before.result.now ≡ get_or s.multipliers.items c.args.row 0 = get_or_read s.multipliers.items c.args.row c.index-before.result.now (omega (arith, row, kept.count)) c.index-before.ensures 0 in
    let Within : Change → Type 0 = λ change. (change.row < length form.rows) × IsWithinShare s.form s.share change.row change.before in
    let within : IsWithinShare s.form s.share c.args.row c.index-before.result.now = subst (λ (n : ℕ). IsWithinShare s.form s.share c.args.row n) (sym before) (kept.each_within c.args.row row) in (
      record {
        scale_from_one = kept.scale_from_one;
        total_is = kept.total_is;
        scaled = kept.scaled;
        shared = kept.shared;
        few = kept.few;
        count = kept.count;
        one_each = kept.one_each;
        no_greater = kept.no_greater;
        each_within = kept.each_within;
        degrees_are = kept.degrees_are;
        costs_are = kept.costs_are;
        vars = kept.vars;
        values_are = kept.values_are;
        sum_is = kept.sum_is;
        changes_within = subst (λ (cs : List Change). All Within cs) (sym c.push_reserved.ensures.items) (All-push Within s.changes.items (record { row = c.args.row; before = c.index-before.result.now }) kept.changes_within (row, within));
      },
      c.self.invariant.1,
    )
