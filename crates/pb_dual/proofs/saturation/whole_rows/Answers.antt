use Rattle.std.proofs.Common.{◌≡◌, ℕ, ◌<◌, List, [], ◌∷◌, ◌++◌, length, take, ap, sym, subst, ◌∙◌, arith}
use Rattle.std.specs.Prelude.{IsSomeAnd}
use Rattle.std.proofs.lemmas.Option.{slice_get-get_or}
use Rattle.std.proofs.lemmas.List.{map_more, length-map, length-take-le}
use Rattle.pb_normal.specs.NormalForm.{PositiveRow}
use Rattle.pb_rows.specs.Constraints.{row_at}
use Rattle.pb_dual.specs.Saturation.{Saturation, whole}
use Rattle.pb_dual.proofs.saturation.whole_rows.Goals as goal

pub push_reserved-requires : goal.push_reserved-requires
push_reserved-requires g c =
    let rows = c.args.form.now.rows in
    let short : c.loop-row.row < length rows = omega (arith, c.loop-row-test.true, c.len-row-end.ensures.value) in
    let long = ap (λ (xs : List Saturation). length xs) c.loop-row.invariant.made in
    omega (arith, long, length-map (take c.loop-row.row rows) whole, length-take-le c.loop-row.row rows (omega arith), c.loop-row.invariant.room, c.in_ok-saturations.ensures.exact, c.len.ensures.value)

pub loop-row-preserved : goal.loop-row-preserved
loop-row-preserved g c =
    let rows = c.args.form.now.rows in
    let d : PositiveRow = record { terms = []; degree = 0 } in
    let short : c.loop-row.row < length rows = omega (arith, c.loop-row-test.true, c.len-row-end.ensures.value) in
    let degree : (row_at rows c.loop-row.row).degree ≡ c.degree-degree.result = subst (λ found. IsSomeAnd found (λ (r : PositiveRow). r.degree ≡ c.degree-degree.result)) (slice_get-get_or rows c.loop-row.row d short) c.degree-degree.ensures in
    record {
      made = c.push_reserved.ensures.items ∙ (ap (λ (n : ℕ). c.loop-row.saturations.items ++ (record { most = n; degree = n }) ∷ []) (sym degree) ∙ (ap (λ (xs : List Saturation). xs ++ whole (row_at rows c.loop-row.row) ∷ []) c.loop-row.invariant.made ∙ sym (map_more whole rows c.loop-row.row d short)));
      room = c.push_reserved.ensures.capacity ∙ c.loop-row.invariant.room;
    }
