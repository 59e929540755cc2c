use Rattle.std.proofs.Common.{◌≡◌, ℕ, ◌+◌, ◌<◌, ◌≤◌, List, length, replicate, All, Bool, false, ap, subst, ◌∙◌, arith, sym}
use Rattle.std.proofs.lemmas.List.{length-replicate}
use Rattle.std.proofs.lemmas.List.Elements.{All-replicate, All-weaker}
use Rattle.pb_bits.proofs.MarkLemmas.{none_marked, length-marks_of}
use Rattle.pb_bits.proofs.marks.Marks.clear.Goals as goal

pub returns-then-self-lt4294967295 : goal.returns-then-self-lt4294967295
returns-then-self-lt4294967295 c =
    let inside = c.self.inside in
    let low : All (λ (s : ℕ). s < inside.stamp + 1) inside.stamps.items = All-weaker (λ (s : ℕ). s ≤ inside.stamp) (λ (s : ℕ). s < inside.stamp + 1) (λ s h. omega arith) inside.stamps.items c.self.invariant.upto in
    none_marked (inside.stamp + 1) inside.stamps.items low ∙ ap (λ (n : ℕ). replicate n false) (sym (length-marks_of inside.stamp inside.stamps.items) ∙ ap (λ (ms : List Bool). length ms) c.self.view_is)

pub returns : goal.returns
returns c =
    let inside = c.self.inside in
    let items : c.fill.new.self.items ≡ replicate (length inside.stamps.items) 0 = c.fill.ensures.items (λ y h. h) ∙ ap (λ (n : ℕ). replicate n 0) (omega (arith, inside.stamps.ok.0)) in
    let low : All (λ (s : ℕ). s < 1) c.fill.new.self.items = subst (All (λ (s : ℕ). s < 1)) (sym items) (All-replicate (λ (s : ℕ). s < 1) (length inside.stamps.items) 0 (omega arith)) in
    none_marked 1 c.fill.new.self.items low ∙ ap (λ (n : ℕ). replicate n false) (ap (λ (xs : List ℕ). length xs) items ∙ (length-replicate (length inside.stamps.items) 0 ∙ (sym (length-marks_of inside.stamp inside.stamps.items) ∙ ap (λ (ms : List Bool). length ms) c.self.view_is)))
