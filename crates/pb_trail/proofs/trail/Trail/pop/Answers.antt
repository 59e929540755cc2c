use Rattle.std.proofs.Common.{◌≡◌, ℕ, ◌+◌, ◌-◌, ◌<◌, ◌++◌, ◌∷◌, [], List, Bool, Option, length, get_or, set, take, drop, ap, sym, subst, ◌∙◌, arith, None, length-set}
use Rattle.std.specs.Vec.{vec_capacity}
use Rattle.pb_inst.specs.Literal.{Literal}
use Rattle.pb_rows.specs.Constraints.{row_at}
use Rattle.pb_trail.specs.SlackCache.{SlackCacheState, KnowsNothing}
use Rattle.pb_trail.specs.Tracked.{TrailState, IsUpToDate, IsConsistent}
use Rattle.pb_normal.specs.Literals.{weight_of, negation}
use Rattle.pb_normal.proofs.LiteralLemmas.{negation-is}
use Rattle.pb_trail.specs.Trail.{reachable}
use Rattle.pb_trail.proofs.TrailLemmas.{reachable-push, reachable-le-total}
use Rattle.pb_rows.proofs.IndexLemmas.{changed_in_place}
use Rattle.pb_trail.proofs.TrackedLemmas.{AreValues-pop, AreValues-last, IsUpToDate-pop, last_is_free}
use Rattle.pb_trail.proofs.trail.Trail.pop.Goals as goal

pub raise_rows-requires-clause-fits : goal.raise_rows-requires-clause-fits
raise_rows-requires-clause-fits g c = λ r h.
    let inside = c.self.inside in
    let rows = c.args.tables.now.rows in
    let front = c.pop.new.self.items in
    let lit = c.in-Some.lit in
    let whole : inside.lits.items ≡ front ++ lit ∷ [] = c.in-Some.ensures.items in
    let consistent = subst (λ (t : List Literal). IsConsistent t) whole c.self.invariant.consistent in
    let free = last_is_free front lit consistent in
    let negated = negation-is lit c.negate.result c.negate.ensures.same_variable c.negate.ensures.other_sign in
    let sums_are = ap (λ (t : TrailState). get_or t.sums r 0) c.self.view_is in
    let sums_count = ap (λ (t : TrailState). length t.sums) c.self.view_is in
    let lits_are : inside.lits.items ≡ c.args.self.now.lits = ap (λ (t : TrailState). t.lits) c.self.view_is in
    let exists : r < length rows = omega (arith, ap (λ (xs : List ℕ). length xs) c.deref_mut.ensures.value, c.requires.up_to_date.sum_count) in
    let weight = ap (λ (l : Literal). weight_of l (row_at rows r).terms) negated in
    let same : get_or c.deref_mut.result.now r 0 ≡ get_or inside.sums.items r 0 = ap (λ (xs : List ℕ). get_or xs r 0) c.deref_mut.ensures.value in
    let sum : get_or c.args.self.now.sums r 0 ≡ reachable (front ++ lit ∷ []) (row_at rows r).terms = c.requires.up_to_date.sums r exists ∙ ap (λ (t : List Literal). reachable t (row_at rows r).terms) (sym lits_are ∙ whole) in
    omega (arith, reachable-push front lit (row_at rows r).terms free, reachable-le-total front (row_at rows r).terms, (c.facts.ensures.limits r (record { terms = []; degree = 0 }) exists).1)

pub invariant_of-self : goal.invariant_of-self
invariant_of-self g c =
    let inside = c.self.inside in
    let whole : inside.lits.items ≡ c.pop.new.self.items ++ c.in-Some.lit ∷ [] = c.in-Some.ensures.items in
    let var_is : c.var.result ≡ c.in-Some.lit.var = c.var.ensures.value in
    let marks : set inside.values.items (c.var.result - 1) None ≡ set inside.values.items (c.in-Some.lit.var - 1) None = ap (λ (v : ℕ). set inside.values.items (v - 1) None) var_is in
    let within = AreValues-last inside.values.items inside.lits.items c.pop.new.self.items (vec_capacity inside.lits) c.in-Some.lit c.self.invariant whole in
    AreValues-pop inside.values.items (set inside.values.items (c.var.result - 1) None) inside.lits.items c.pop.new.self.items (vec_capacity inside.lits) (vec_capacity c.pop.new.self) c.in-Some.lit c.self.invariant within.0 within.1 marks whole c.in-Some.ensures.capacity

pub returns-in-Some-clause-up_to_date : goal.returns-in-Some-clause-up_to_date
returns-in-Some-clause-up_to_date g c =
    let inside = c.self.inside in
    let old = c.args.self.now in
    let rows = c.args.tables.now.rows in
    let front = c.pop.new.self.items in
    let lit = c.in-Some.lit in
    let new = c.raise_rows.new.sums in
    let marks = set inside.values.items (c.var.result - 1) None in
    let whole : inside.lits.items ≡ front ++ lit ∷ [] = c.in-Some.ensures.items in
    let free = last_is_free front lit (subst (λ (t : List Literal). IsConsistent t) whole c.self.invariant.consistent) in
    let vars_are = ap (λ (t : TrailState). t.vars) c.self.view_is in
    let sums_count = ap (λ (t : TrailState). length t.sums) c.self.view_is in
    let before : length c.deref_mut.result.now ≡ length inside.sums.items = ap (λ (xs : List ℕ). length xs) c.deref_mut.ensures.value in
    let count : length new ≡ length inside.sums.items = omega arith in
    let end : take inside.sums.len (new ++ drop (length new) inside.sums.items) ≡ new = changed_in_place inside.sums.len new inside.sums.items count (omega (arith, inside.sums.ok.0)) in
    let negated = negation-is lit c.negate.result c.negate.ensures.same_variable c.negate.ensures.other_sign in
    let raised : (r : ℕ) → r < length old.sums → get_or new r 0 ≡ get_or old.sums r 0 + weight_of (negation lit) (row_at rows r).terms = λ r h.
    (let sums_are = ap (λ (t : TrailState). get_or t.sums r 0) c.self.view_is in
    let weight = ap (λ (l : Literal). weight_of l (row_at rows r).terms) negated in
    let same : get_or c.deref_mut.result.now r 0 ≡ get_or inside.sums.items r 0 = ap (λ (xs : List ℕ). get_or xs r 0) c.deref_mut.ensures.value in
    omega (arith, c.raise_rows.ensures r (omega arith))) in
    let left : old.lits ≡ front ++ lit ∷ [] = sym (ap (λ (t : TrailState). t.lits) c.self.view_is) ∙ whole in
    let vars : length marks ≡ old.vars = omega (arith, length-set {A = Option Bool}) in
    let stays = IsUpToDate-pop c.args.tables.now old (record { vars = length marks; lits = front; sums = new; slack_cache = inside.slack_cache }) lit c.requires.up_to_date free vars left (omega arith) raised (subst (λ (slack_cache : SlackCacheState). KnowsNothing slack_cache) (sym (ap (λ (t : TrailState). t.slack_cache) c.self.view_is)) c.requires.nothing_known) in
    subst (λ (xs : List ℕ). IsUpToDate c.args.tables.now (record { vars = length marks; lits = front; sums = xs; slack_cache = inside.slack_cache })) (sym end) stays

pub returns-in-Some-clause-nothing_known : goal.returns-in-Some-clause-nothing_known
returns-in-Some-clause-nothing_known g c = subst (λ (slack_cache : SlackCacheState). KnowsNothing slack_cache) (sym (ap (λ (t : TrailState). t.slack_cache) c.self.view_is)) c.requires.nothing_known

pub returns-in_default-clause-nothing_known : goal.returns-in_default-clause-nothing_known
returns-in_default-clause-nothing_known g c = subst (λ (slack_cache : SlackCacheState). KnowsNothing slack_cache) (sym (ap (λ (t : TrailState). t.slack_cache) c.self.view_is)) c.requires.nothing_known
