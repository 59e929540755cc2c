use Rattle.std.proofs.Common.{◌≡◌, ℕ, ◌+◌, ◌-◌, ◌^◌, ◌<◌, ◌++◌, List, Bool, Option, length, set, take, drop, ap, sym, subst, ◌∙◌, arith, Some, None, length-set}
use Rattle.std.specs.Vec.{vec_capacity}
use Rattle.pb_rows.proofs.IndexLemmas.{changed_in_place}
use Rattle.pb_trail.specs.Trail.{value_on}
use Rattle.pb_trail.proofs.TrackedLemmas.{trail_has_room, AreValues-push}
use Rattle.pb_dual.specs.ReducedCosts.{parts, cost_at}
use Rattle.pb_dual.specs.Multipliers.{MultipliersState}
use Rattle.pb_dual.proofs.SaturationLemmas.{saturations-push}
use Rattle.pb_dual.proofs.TrailLemmas.{kept_on, revalue-room}
use Rattle.pb_dual.proofs.multipliers.Multipliers.assign.Goals as goal

pub revalue-requires-clause-room : goal.revalue-requires-clause-room
revalue-requires-clause-room g c = λ low b.
    let inside = c.self.inside in
    let room : parts inside.costs.items inside.values.items + cost_at inside.costs.items c.args.lit.var b < 2 ^ 128 = revalue-room c.self.invariant.0 g.C.Coefficient.origin_small c.args.lit.var low (omega (arith, c.requires.variable, ap (λ (s : MultipliersState). s.form.vars) c.self.view_is)) b in
    let costs = c.deref.ensures.value in
    let values = c.deref_mut.ensures.value in
    rw (costs, values) room

pub push_reserved-requires : goal.push_reserved-requires
push_reserved-requires g c =
    let inside = c.self.inside in
    let vars_are = ap (λ (s : MultipliersState). s.form.vars) c.self.view_is in
    let free : value_on inside.lits.items c.args.lit.var ≡ None = subst (λ (s : MultipliersState). value_on s.trail c.args.lit.var ≡ None) (sym c.self.view_is) c.requires.no_value in
    let are = c.self.invariant.0.values_are in
    let room = trail_has_room inside.values.items inside.lits.items (vec_capacity inside.lits) c.args.lit.var are c.revalue.ensures.from_one (omega (arith, c.requires.variable, c.self.invariant.0.vars)) free in
    omega (arith, are.room)

pub invariant_of-self : goal.invariant_of-self
invariant_of-self g c =
    let inside = c.self.inside in
    let l = c.args.lit in
    let old = inside.values.items in
    let new = c.revalue.new.values in
    let vars_are = ap (λ (s : MultipliersState). s.form.vars) c.self.view_is in
    let free : value_on inside.lits.items l.var ≡ None = subst (λ (s : MultipliersState). value_on s.trail l.var ≡ None) (sym c.self.view_is) c.requires.no_value in
    let marks : new ≡ set old (l.var - 1) (Some l.positive) = c.revalue.ensures.values ∙ (ap (λ (xs : List (Option Bool)). set xs (l.var - 1) (Some c.positive.result)) c.deref_mut.ensures.value ∙ ap (λ (b : Bool). set old (l.var - 1) (Some b)) c.positive.ensures) in
    let same : length new ≡ length old = ap (λ (xs : List (Option Bool)). length xs) marks ∙ length-set old (l.var - 1) (Some l.positive) in
    let end : take inside.values.len (new ++ drop (length new) old) ≡ new = changed_in_place inside.values.len new old same (omega (arith, inside.values.ok.0)) in
    let stored = take inside.values.len (new ++ drop (length new) old) in
    let sum : c.revalue.new.sum ≡ parts inside.costs.items stored = c.revalue.ensures.sum ∙ (ap (λ (xs : List ℕ). parts xs new) c.deref.ensures.value ∙ ap (parts inside.costs.items) (sym end)) in
    let are = AreValues-push old stored inside.lits.items c.push_reserved.new.self.items (vec_capacity inside.lits) (vec_capacity c.push_reserved.new.self) l c.self.invariant.0.values_are c.revalue.ensures.from_one (omega (arith, c.requires.variable, c.self.invariant.0.vars)) free (end ∙ marks) c.push_reserved.ensures.items c.push_reserved.ensures.capacity in
    (kept_on c.self.invariant.0 c.push_reserved.new.self.items stored c.revalue.new.sum (vec_capacity c.push_reserved.new.self) (ap (λ (xs : List (Option Bool)). length xs) end ∙ same) are sum, saturations-push inside.form inside.saturations.items inside.root inside.lits.items c.push_reserved.new.self.items l c.push_reserved.ensures.items c.self.invariant.1)
