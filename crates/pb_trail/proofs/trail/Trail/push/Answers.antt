use Rattle.std.proofs.Common.{◌≡◌, ℕ, ◌+◌, ◌-◌, ◌<◌, ◌++◌, ◌∷◌, [], List, Bool, Option, length, get_or, set, take, drop, ap, ap₂, sym, subst, ◌∙◌, arith, Some, None, length-set}
use Rattle.std.specs.Vec.{vec_capacity}
use Rattle.pb_inst.specs.Literal.{Literal}
use Rattle.pb_rows.specs.Constraints.{row_at}
use Rattle.pb_trail.specs.Tracked.{TrailState, IsUpToDate}
use Rattle.pb_normal.specs.Literals.{weight_of, negation}
use Rattle.pb_normal.proofs.LiteralLemmas.{negation-is}
use Rattle.pb_trail.specs.Trail.{value_on}
use Rattle.pb_trail.proofs.TrailLemmas.{reachable-push}
use Rattle.pb_rows.proofs.IndexLemmas.{changed_in_place}
use Rattle.pb_trail.proofs.TrackedLemmas.{trail_has_room, AreValues-push, IsUpToDate-push}
use Rattle.pb_trail.proofs.trail.Trail.push.Goals as goal

pub push_reserved-requires : goal.push_reserved-requires
push_reserved-requires g c =
    let inside = c.self.inside in
    let vars_are = ap (λ (t : TrailState). t.vars) c.self.view_is in
    let free : value_on inside.lits.items c.args.lit.var ≡ None = subst (λ (t : TrailState). value_on t.lits c.args.lit.var ≡ None) (sym c.self.view_is) c.requires.no_value in
    let room = trail_has_room inside.values.items inside.lits.items (vec_capacity inside.lits) c.args.lit.var c.self.invariant (omega arith) (omega (arith, c.requires.variable)) free in
    omega (arith, c.self.invariant.room)

pub lower_rows-requires-clause-enough : goal.lower_rows-requires-clause-enough
lower_rows-requires-clause-enough g c = λ r h.
    let inside = c.self.inside in
    let negated = negation-is c.args.lit c.negate.result c.negate.ensures.same_variable c.negate.ensures.other_sign in
    let sums_are = ap (λ (t : TrailState). get_or t.sums r 0) c.self.view_is in
    let sums_count = ap (λ (t : TrailState). length t.sums) c.self.view_is in
    let exists : r < length c.args.tables.now.rows = omega (arith, ap (λ (xs : List ℕ). length xs) c.deref_mut.ensures.value, c.requires.up_to_date.sum_count) in
    let weight = ap (λ (l : Literal). weight_of l (row_at c.args.tables.now.rows r).terms) negated in
    let same : get_or c.deref_mut.result.now r 0 ≡ get_or inside.sums.items r 0 = ap (λ (xs : List ℕ). get_or xs r 0) c.deref_mut.ensures.value in
    omega (arith, reachable-push c.args.self.now.lits c.args.lit (row_at c.args.tables.now.rows r).terms c.requires.no_value, c.requires.up_to_date.sums r exists)

pub invariant_of-self : goal.invariant_of-self
invariant_of-self g c =
    let inside = c.self.inside in
    let vars_are = ap (λ (t : TrailState). t.vars) c.self.view_is in
    let free : value_on inside.lits.items c.args.lit.var ≡ None = subst (λ (t : TrailState). value_on t.lits c.args.lit.var ≡ None) (sym c.self.view_is) c.requires.no_value in
    let marks : set inside.values.items (c.var.result - 1) (Some c.positive.result) ≡ set inside.values.items (c.args.lit.var - 1) (Some c.args.lit.positive) = ap₂ (λ (v : ℕ) (b : Bool). set inside.values.items (v - 1) (Some b)) c.var.ensures.value c.positive.ensures in
    AreValues-push inside.values.items (set inside.values.items (c.var.result - 1) (Some c.positive.result)) inside.lits.items c.push_reserved.new.self.items (vec_capacity inside.lits) (vec_capacity c.push_reserved.new.self) c.args.lit c.self.invariant (omega arith) (omega (arith, c.requires.variable)) free marks c.push_reserved.ensures.items c.push_reserved.ensures.capacity

pub returns-clause-up_to_date : goal.returns-clause-up_to_date
returns-clause-up_to_date g c =
    let inside = c.self.inside in
    let old = c.args.self.now in
    let rows = c.args.tables.now.rows in
    let new = c.lower_rows.new.sums in
    let marks = set inside.values.items (c.var.result - 1) (Some c.positive.result) in
    let vars_are = ap (λ (t : TrailState). t.vars) c.self.view_is in
    let sums_count = ap (λ (t : TrailState). length t.sums) c.self.view_is in
    let before : length c.deref_mut.result.now ≡ length inside.sums.items = ap (λ (xs : List ℕ). length xs) c.deref_mut.ensures.value in
    let count : length new ≡ length inside.sums.items = omega arith in
    let end : take inside.sums.len (new ++ drop (length new) inside.sums.items) ≡ new = changed_in_place inside.sums.len new inside.sums.items count (omega (arith, inside.sums.ok.0)) in
    let negated = negation-is c.args.lit c.negate.result c.negate.ensures.same_variable c.negate.ensures.other_sign in
    let lowered : (r : ℕ) → r < length old.sums → get_or new r 0 + weight_of (negation c.args.lit) (row_at rows r).terms ≡ get_or old.sums r 0 = λ r h.
    (let sums_are = ap (λ (t : TrailState). get_or t.sums r 0) c.self.view_is in
    let weight = ap (λ (l : Literal). weight_of l (row_at rows r).terms) negated in
    let same : get_or c.deref_mut.result.now r 0 ≡ get_or inside.sums.items r 0 = ap (λ (xs : List ℕ). get_or xs r 0) c.deref_mut.ensures.value in
    omega (arith, c.lower_rows.ensures r (omega arith))) in
    let joined : c.push_reserved.new.self.items ≡ old.lits ++ c.args.lit ∷ [] = c.push_reserved.ensures.items ∙ ap (λ (t : TrailState). t.lits ++ c.args.lit ∷ []) c.self.view_is in
    let vars : length marks ≡ old.vars = omega (arith, length-set {A = Option Bool}) in
    let stays = IsUpToDate-push c.args.tables.now old (record { vars = length marks; lits = c.push_reserved.new.self.items; sums = new; slack_cache = inside.slack_cache }) c.args.lit c.requires.up_to_date c.requires.no_value vars joined (omega arith) lowered (ap (λ (t : TrailState). t.slack_cache) c.self.view_is) in
    subst (λ (xs : List ℕ). IsUpToDate c.args.tables.now (record { vars = length marks; lits = c.push_reserved.new.self.items; sums = xs; slack_cache = inside.slack_cache })) (sym end) stays

pub returns-clause-within : goal.returns-clause-within
returns-clause-within g c =
    let inside = c.self.inside in
    let vars_are = ap (λ (t : TrailState). t.vars) c.self.view_is in
    let long = ap (λ (t : TrailState). length t.lits) c.self.view_is in
    let free : value_on inside.lits.items c.args.lit.var ≡ None = subst (λ (t : TrailState). value_on t.lits c.args.lit.var ≡ None) (sym c.self.view_is) c.requires.no_value in
    let room = trail_has_room inside.values.items inside.lits.items (vec_capacity inside.lits) c.args.lit.var c.self.invariant (omega arith) (omega (arith, c.requires.variable)) free in
    omega arith
