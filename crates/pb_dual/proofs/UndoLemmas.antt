-- Taking back changes of multipliers, the last one first.
use Rattle.std.proofs.Common.{◌≡◌, ℕ, ◌≤◌, List, [], ◌∷◌, ◌++◌, length, set, take, drop, refl, sym, ◌∙◌, ap, arith}
use Rattle.std.proofs.lemmas.List.{take-append-drop, drop-append-le, length-take-le}
use Rattle.pb_dual.specs.Changes.{Change}
use Rattle.pb_dual.specs.Multipliers.{undone}

undone-append : (before after : List Change) (ys : List ℕ) → undone (before ++ after) ys ≡ undone before (undone after ys)
undone-append [] after ys = refl
undone-append (change ∷ before) after ys = ap (λ (zs : List ℕ). set zs change.row change.before) (undone-append before after ys)

-- first those from one place on, and then those from an earlier one on
pub undone-further : (changes : List Change) (ys : List ℕ) (n k : ℕ) → n ≤ k → k ≤ length changes → undone (drop n (take k changes)) (undone (drop k changes) ys) ≡ undone (drop n changes) ys
undone-further changes ys n k before within =
    let split : drop n changes ≡ drop n (take k changes) ++ drop k changes = ap (drop n) (sym (take-append-drop k changes)) ∙ drop-append-le n (take k changes) (drop k changes) (omega (arith, length-take-le k changes within)) in
    sym (undone-append (drop n (take k changes)) (drop k changes) ys) ∙ ap (λ (cs : List Change). undone cs ys) (sym split)
