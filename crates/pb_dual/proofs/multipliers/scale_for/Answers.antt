use Rattle.std.proofs.Common.{◌≡◌, ℕ, ◌*◌, ◌/◌, ◌<◌, ◌≤◌, max, min, inl, inr, ◌∙◌, ap, arith}
use Rattle.std.proofs.Math.Nat.{div-mul-le_self, div-le_self}
use Rattle.std.proofs.lemmas.Bool.{cases_lt}
use Rattle.std.proofs.lemmas.Nat.{mul-le}
use Rattle.pb_dual.proofs.multipliers.scale_for.Goals as goal

-- a scale of 1, or one by which the sum comes to no more than the origin
fits : (origin total scaled greatest m s : ℕ) → total < 2 * origin → scaled ≤ origin → m ≡ scaled / max total 1 → s ≡ max (min m greatest) 1 → s * total < 2 * origin
fits origin total scaled greatest m s small within is most =
    let part : m * max total 1 ≤ scaled = omega (arith, div-mul-le_self scaled (max total 1), ap (λ (n : ℕ). n * max total 1) is) in
    let of_total : m * total ≤ m * max total 1 = mul-le m total m (max total 1) (omega arith) (omega arith) in
    elim (cases_lt 0 m) [
      | inl some ↦ (let fewer = mul-le s total m total (omega arith) (omega arith) in omega arith)
      | inr none ↦ (let one = mul-le s total 1 total (omega arith) (omega arith) in omega arith)
    ]

pub returns-clause-fits : goal.returns-clause-fits
returns-clause-fits g c =
    let part : c.div-scaled.result ≤ g.C.Coefficient.origin = omega (arith, c.div-scaled.ensures, c.origin.ensures, div-le_self c.origin.result c.of.result) in
    let quotient : c.div.result ≡ c.div-scaled.result / max c.args.total 1 = c.div.ensures ∙ (ap (λ (n : ℕ). c.div-scaled.result / n) c.max.ensures ∙ ap (λ (n : ℕ). c.div-scaled.result / max c.args.total n) c.of-one.ensures) in
    fits g.C.Coefficient.origin c.args.total c.div-scaled.result c.div-greatest.result c.div.result c.max-2.result c.requires part quotient (omega (arith, c.max-2.ensures, c.min.ensures, c.of-one.ensures))
