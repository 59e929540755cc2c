-- Literals that no completion of a trail within a limit makes false.
use Rattle.std.proofs.Common.{◌≡◌, ℕ, zero, suc, List, Bool, not, refl, ◌∙◌, ap, arith}
use Rattle.std.specs.Prelude.{ℤ, ◌≤ℤ◌, ◌<ℤ◌}
use Rattle.std.proofs.lemmas.Int.{ints}
use Rattle.pb_inst.specs.Literal.{Literal}
use Rattle.pb_inst.specs.Meaning.{literal_value}
use Rattle.pb_normal.specs.NormalForm.{NormalForm, normal_cost}
use Rattle.pb_normal.specs.Literals.{negation}
use Rattle.pb_trail.specs.Completion.{IsCompletion}
use Rattle.pb_trail.proofs.CompletionLemmas.{literal_value-negation}
use Rattle.pb_dual.specs.Multipliers.{IsBelowCostsWith}

-- where the bound with the negation is over the limit
pub forced_by : (form : NormalForm) (trail : List Literal) (l m : Literal) (bound limit : ℤ) (a : List Bool) → m.var ≡ l.var → m.positive ≡ not l.positive → IsBelowCostsWith form trail m bound → limit <ℤ bound → IsCompletion form.rows trail a → normal_cost form a ≤ℤ limit → literal_value a l ≡ 1
forced_by form trail l m bound limit a same other below over whole cheap = by_value (literal_value a l) refl
  where
    is : m ≡ negation l
    is = ap (λ (v : ℕ). record { var = v; positive = m.positive }) same ∙ ap (λ (b : Bool). record { var = l.var; positive = b }) other

    by_value : (n : ℕ) → literal_value a l ≡ n → literal_value a l ≡ 1
    by_value zero nought =
        let one : literal_value a m ≡ 1 = ap (λ (k : Literal). literal_value a k) is ∙ (let negated : literal_value a (negation l) ≡ 1 = omega (arith, literal_value-negation a l) in negated) in
        let low = below a whole one in
        absurd (omega (arith, ints))
    by_value (suc n) more = omega (arith, literal_value-negation a l)
