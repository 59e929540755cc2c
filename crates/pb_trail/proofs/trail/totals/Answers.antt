use Rattle.std.proofs.Common.{◌≡◌, ℕ, ◌-◌, ◌++◌, ◌∷◌, [], List, length, get_or, ap, sym, ◌∙◌, arith, refl, inl, inr, length-append}
use Rattle.std.proofs.lemmas.Bool.{cases_lt}
use Rattle.std.proofs.lemmas.List.{get_or_append_left, get_or-append_right}
use Rattle.pb_rows.specs.Constraints.{row_at}
use Rattle.pb_trail.specs.Trail.{reachable}
use Rattle.pb_trail.proofs.TrailLemmas.{reachable-nil}
use Rattle.pb_trail.proofs.trail.totals.Goals as goal

last_number : (xs : List ℕ) (x k : ℕ) → k ≡ length xs → get_or (xs ++ x ∷ []) k 0 ≡ x
last_number xs x k h = get_or-append_right xs (x ∷ []) (length xs) k 0 refl (omega arith) ∙ ap (λ (i : ℕ). get_or (x ∷ []) i 0) (let nought : k - length xs ≡ 0 = omega arith in nought)

pub loop-row-preserved : goal.loop-row-preserved
loop-row-preserved g c =
    let before = c.loop-row.sums.items in
    let items : c.push.new.self.items ≡ before ++ c.total.result ∷ [] = c.in_ok-push.ensures.items in
    let total : c.total.result ≡ reachable [] (row_at c.args.tables.now.rows c.loop-row.row).terms = c.total.ensures.value ∙ sym (reachable-nil (row_at c.args.tables.now.rows c.loop-row.row).terms) in (
      omega (arith, ap (λ (xs : List ℕ). length xs) items, length-append before (c.total.result ∷ []), c.loop-row.invariant.0),
      λ r h. elim (cases_lt r c.loop-row.row) [
        | inl early ↦
            (let was = c.loop-row.invariant.1 r early in
            let same : get_or c.push.new.self.items r 0 ≡ get_or before r 0 = ap (λ (xs : List ℕ). get_or xs r 0) items ∙ get_or_append_left before (c.total.result ∷ []) 0 r (omega (arith, c.loop-row.invariant.0)) in
            same ∙ was)
        | inr late ↦
            (let here : r ≡ c.loop-row.row = omega arith in
            let last : get_or c.push.new.self.items r 0 ≡ c.total.result = ap (λ (xs : List ℕ). get_or xs r 0) items ∙ last_number before c.total.result r (omega (arith, c.loop-row.invariant.0)) in
            last ∙ (total ∙ ap (λ (k : ℕ). reachable [] (row_at c.args.tables.now.rows k).terms) (sym here)))
      ],
    )
