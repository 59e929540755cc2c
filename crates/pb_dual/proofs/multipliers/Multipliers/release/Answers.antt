use Rattle.std.proofs.Common.{◌≡◌, ℕ, suc, ◌+◌, ◌<◌, List, [], ◌++◌, length, set, take, drop, ap, sym, subst, ◌∙◌, arith}
use Rattle.pb_normal.specs.NormalForm.{PositiveRow, NormalForm, MeetsRows}
use Rattle.pb_rows.specs.Constraints.{row_at}
use Rattle.pb_dual.specs.Saturation.{counted_rows}
use Rattle.pb_dual.specs.Multipliers.{MultipliersState}
use Rattle.pb_dual.proofs.SaturationLemmas.{length-counted}
use Rattle.pb_dual.proofs.RecountLemmas.{merged-next, merged-all}
use Rattle.pb_dual.proofs.multipliers.Multipliers.release.Goals as goal

pub loop-row-preserved : goal.loop-row-preserved
loop-row-preserved g c =
    let now = c.args.self.now in
    let old = c.loop-row.self in
    let new = c.release_row.new.self in
    let row = c.loop-row.row in
    let d : PositiveRow = record { terms = []; degree = 0 } in
    let kept = c.loop-row.invariant in
    let held : NormalForm = record old.counted { rows = set old.counted.rows row (row_at old.form.rows row) } in
    let is : new.counted ≡ held = ap (λ (m : MultipliersState). m.counted) c.release_row.ensures in
    let form : new.form ≡ old.form = ap (λ (m : MultipliersState). m.form) c.release_row.ensures in
    let same_form : old.form ≡ now.form = ap (λ (m : MultipliersState). m.form) kept.same in
    let rows = ap (λ (m : MultipliersState). length m.form.rows) c.self.view_is in
    let counted_count : length now.counted.rows ≡ length now.form.rows = subst (λ (m : MultipliersState). length m.counted.rows ≡ length m.form.rows) c.self.view_is (length-counted c.self.inside.saturations.items c.self.inside.form.rows c.self.invariant.1.count) in
    let short : row < length now.form.rows = omega (arith, c.loop-row-test.true, c.len-row-end.ensures.value) in
    let first : row < length old.form.rows = omega (arith, short, ap (λ (f : NormalForm). length f.rows) same_form) in
    let second : row < length now.counted.rows = omega (arith, short, counted_count) in
    let merged : set (take row old.form.rows ++ drop row now.counted.rows) row (row_at old.form.rows row) ≡ take (suc row) old.form.rows ++ drop (suc row) now.counted.rows = merged-next old.form.rows now.counted.rows row d first second in
    let next : suc row ≡ row + 1 = omega arith in
    record {
      same = c.release_row.ensures ∙ (ap (λ (m : MultipliersState). record m { counted = held }) kept.same ∙ ap (λ (f : NormalForm). record now { counted = f }) (sym is));
      counted = is
          ∙ (ap (λ (f : NormalForm). record f { rows = set f.rows row (row_at old.form.rows row) }) kept.counted
          ∙ (ap (λ (rs : List PositiveRow). record old.form { rows = rs }) merged
          ∙ (ap (λ (n : ℕ). record old.form { rows = take n old.form.rows ++ drop n now.counted.rows }) next
          ∙ ap (λ (f : NormalForm). record f { rows = take (row + 1) f.rows ++ drop (row + 1) now.counted.rows }) (sym form))));
    }

pub invariant_of-self : goal.invariant_of-self
invariant_of-self g c =
    let now = c.args.self.now in
    let s = c.self-2.inside in
    let last = c.loop-row.self in
    let n = c.loop-row.row in
    let kept = c.loop-row.invariant in
    let rows = ap (λ (m : MultipliersState). length m.form.rows) c.self.view_is in
    let same_form : last.form ≡ now.form = ap (λ (m : MultipliersState). m.form) kept.same in
    let counted_count : length now.counted.rows ≡ length now.form.rows = subst (λ (m : MultipliersState). length m.counted.rows ≡ length m.form.rows) c.self.view_is (length-counted c.self.inside.saturations.items c.self.inside.form.rows c.self.invariant.1.count) in
    let merged : take n last.form.rows ++ drop n now.counted.rows ≡ last.form.rows = merged-all last.form.rows now.counted.rows n (omega (arith, c.loop-row-test.false, c.len-row-end.ensures.value, ap (λ (f : NormalForm). length f.rows) same_form)) (omega (arith, c.loop-row-test.false, c.len-row-end.ensures.value)) in
    let told : last.counted.rows ≡ last.form.rows = ap (λ (f : NormalForm). f.rows) kept.counted ∙ merged in
    let whole : counted_rows s.saturations.items s.form.rows ≡ s.form.rows = subst (λ (m : MultipliersState). m.counted.rows ≡ m.form.rows) (sym c.self-2.view_is) told in (
      c.self-2.invariant.0,
      record {
        count = c.self-2.invariant.1.count;
        within = c.self-2.invariant.1.within;
        on_trail = omega arith;
        met = λ a completes. subst (MeetsRows a) (sym whole) completes.meets_rows;
      },
    )
