use Rattle.std.proofs.Common.{◌≡◌, ℕ, ◌+◌, ◌-◌, ◌^◌, ◌<◌, ◌++◌, ◌∷◌, [], List, Bool, Option, length, set, take, drop, ap, sym, ◌∙◌, arith, None, length-set}
use Rattle.std.specs.Vec.{vec_capacity}
use Rattle.pb_rows.proofs.IndexLemmas.{changed_in_place}
use Rattle.pb_trail.proofs.TrackedLemmas.{AreValues-pop, AreValues-last}
use Rattle.pb_dual.specs.ReducedCosts.{parts, cost_at}
use Rattle.pb_dual.specs.Multipliers.{MultipliersState}
use Rattle.pb_dual.proofs.SaturationLemmas.{saturations-pop}
use Rattle.pb_dual.proofs.TrailLemmas.{kept_on, revalue-room}
use Rattle.pb_dual.proofs.multipliers.Multipliers.unassign_last.Goals as goal

pub revalue-requires-clause-room : goal.revalue-requires-clause-room
revalue-requires-clause-room g c = λ low b.
    let inside = c.self.inside in
    let room : parts inside.costs.items inside.values.items + cost_at inside.costs.items c.in-Some.lit.var b < 2 ^ 128 = revalue-room c.self.invariant.0 g.C.Coefficient.origin_small c.in-Some.lit.var low (omega (arith, c.self.invariant.0.vars, (AreValues-last c.self.inside.values.items c.self.inside.lits.items c.pop.new.self.items (vec_capacity c.self.inside.lits) c.in-Some.lit c.self.invariant.0.values_are c.in-Some.ensures.items).1)) b in
    let costs = c.deref.ensures.value in
    let values = c.deref_mut.ensures.value in
    rw (costs, values) room

pub invariant_of-self : goal.invariant_of-self
invariant_of-self g c =
    let inside = c.self.inside in
    let l = c.in-Some.lit in
    let front = c.pop.new.self.items in
    let old = inside.values.items in
    let new = c.revalue.new.values in
    let whole : inside.lits.items ≡ front ++ l ∷ [] = c.in-Some.ensures.items in
    let within = AreValues-last old inside.lits.items front (vec_capacity inside.lits) l c.self.invariant.0.values_are whole in
    let marks : new ≡ set old (l.var - 1) None = c.revalue.ensures.values ∙ ap (λ (xs : List (Option Bool)). set xs (l.var - 1) None) c.deref_mut.ensures.value in
    let same : length new ≡ length old = ap (λ (xs : List (Option Bool)). length xs) marks ∙ length-set old (l.var - 1) None in
    let end : take inside.values.len (new ++ drop (length new) old) ≡ new = changed_in_place inside.values.len new old same (omega (arith, inside.values.ok.0)) in
    let stored = take inside.values.len (new ++ drop (length new) old) in
    let sum : c.revalue.new.sum ≡ parts inside.costs.items stored = c.revalue.ensures.sum ∙ (ap (λ (xs : List ℕ). parts xs new) c.deref.ensures.value ∙ ap (parts inside.costs.items) (sym end)) in
    let are = AreValues-pop old stored inside.lits.items front (vec_capacity inside.lits) (vec_capacity c.pop.new.self) l c.self.invariant.0.values_are within.0 within.1 (end ∙ marks) whole c.in-Some.ensures.capacity in
    let below : inside.root < length inside.lits.items = omega (arith, c.requires, ap (λ (s : MultipliersState). s.root) c.self.view_is, ap (λ (s : MultipliersState). length s.trail) c.self.view_is) in
    (kept_on c.self.invariant.0 front stored c.revalue.new.sum (vec_capacity c.pop.new.self) (ap (λ (xs : List (Option Bool)). length xs) end ∙ same) are sum, saturations-pop inside.form inside.saturations.items inside.root inside.lits.items front l whole below c.self.invariant.1)
