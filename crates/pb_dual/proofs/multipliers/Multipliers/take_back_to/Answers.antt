use Rattle.std.proofs.Common.{ℕ, ◌-◌, ◌<◌, List, length, take, drop, arith, ap, sym, ◌∙◌}
use Rattle.std.proofs.lemmas.List.{take-take, length-take-le}
use Rattle.pb_dual.specs.Changes.{Change}
use Rattle.pb_dual.specs.Multipliers.{MultipliersState, undone}
use Rattle.pb_dual.proofs.UndoLemmas.{undone-further}
use Rattle.pb_dual.proofs.multipliers.Multipliers.take_back_to.Goals as goal

pub loop-self-preserved : goal.loop-self-preserved
loop-self-preserved g c =
    let old = c.loop-self.self in
    let n = c.args.count in
    let k = length old.changes - 1 in
    let more : n < length old.changes = omega (arith, c.loop-self-test.true, c.len.ensures, ap (λ (m : MultipliersState). length m.changes) c.self.view_is) in
    let ys = ap (λ (m : MultipliersState). m.multipliers) c.take_back_last.ensures in
    let cs = ap (λ (m : MultipliersState). m.changes) c.take_back_last.ensures in
    let kept = c.loop-self.invariant in
    record {
      enough = omega (arith, ap (λ (xs : List Change). length xs) cs, length-take-le k old.changes (omega arith));
      same = c.take_back_last.ensures ∙ ap (λ (m : MultipliersState). record m { multipliers = undone (drop k old.changes) old.multipliers; changes = take k old.changes }) kept.same ∙ ap (λ (p : List ℕ). record c.args.self.now { multipliers = p; changes = take k old.changes }) (sym ys) ∙ ap (λ (p : List Change). record c.args.self.now { multipliers = c.take_back_last.new.self.multipliers; changes = p }) (sym cs);
      undone_on = ap (λ (xs : List Change). undone (drop n xs) c.take_back_last.new.self.multipliers) cs ∙ (ap (λ (zs : List ℕ). undone (drop n (take k old.changes)) zs) ys ∙ (undone-further old.changes old.multipliers n k (omega arith) (omega arith) ∙ kept.undone_on));
      front = ap (take n) cs ∙ (take-take n k old.changes (omega arith) ∙ kept.front);
    }
