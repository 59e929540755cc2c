use Rattle.std.proofs.Common.{◌≡◌, ◌<◌, ℕ, ◌++◌, ◌∷◌, [], List, length, None, Some, Bool, false, refl, ap, sym, subst, ◌∙◌, arith}
use Rattle.std.specs.Vec.{vec_capacity}
use Rattle.pb_inst.specs.Literal.{Literal}
use Rattle.pb_trail.specs.declared.propagator.Level.{Level}
use Rattle.pb_trail.specs.Trail.{value_on}
use Rattle.pb_rows.specs.Constraints.{Constraints}
use Rattle.pb_trail.specs.Tracked.{IsUpToDate}
use Rattle.pb_trail.specs.EngineState.{EngineState}
use Rattle.pb_trail.specs.Levels.{starts_of, IsEngine}
use Rattle.pb_trail.proofs.EngineLemmas.{starts_of-push, levels_short, IsEngine-assume, sound-IsEngine}
use Rattle.pb_trail.specs.Soundness.{IsSoundTrail}
use Rattle.pb_trail.proofs.propagator.Propagator.assume.Goals as goal

pub push_reserved-requires : goal.push_reserved-requires
push_reserved-requires g c =
    let inside = c.self.inside in
    let short = levels_short inside.source.rows inside.trail.lits inside.levels.items c.self.invariant.engine.levels_in_order in
    omega (arith, inside.levels.ok.0, c.self.invariant.engine.room, c.push.ensures.within, c.self.invariant.up_to_date.vars)

pub invariant_of-self : goal.invariant_of-self
invariant_of-self g c =
    let inside = c.self.inside in
    let start = length inside.trail.lits in
    let begins : c.len-start.result ≡ start = c.len-start.ensures.length in
    let free : value_on inside.trail.lits c.args.lit.var ≡ None = subst (λ (e : EngineState). value_on e.trail c.args.lit.var ≡ None) (sym c.self.view_is) c.requires.no_value in
    let calm : inside.conflict ≡ false = ap (λ (e : EngineState). e.conflict) c.self.view_is ∙ c.requires.no_conflict in
    let room : start < inside.source.vars = omega (arith, c.push.ensures.within, c.self.invariant.up_to_date.vars) in
    let stays = IsEngine-assume inside.source.vars inside.source.rows inside.trail.lits inside.levels.items inside.propagated inside.conflict c.is_at-settled.result (vec_capacity inside.levels) c.args.lit c.self.invariant.engine calm room free (λ yes'. c.is_at-settled.ensures yes' ∙ ap (λ (n : ℕ). Some n) begins) c.push.ensures.from_one (omega (arith, c.requires.variable, ap (λ (e : EngineState). e.vars) c.self.view_is)) in
    let levels : c.push_reserved.new.self.items ≡ inside.levels.items ++ record { start = start; settled = c.is_at-settled.result } ∷ [] = c.push_reserved.ensures.items ∙ ap (λ (n : ℕ). inside.levels.items ++ record { start = n; settled = c.is_at-settled.result } ∷ []) begins in
    let P : List Literal → Type 0 = λ t. IsEngine inside.source.vars inside.source.rows t c.push_reserved.new.self.items inside.propagated inside.conflict (vec_capacity c.push_reserved.new.self) in
    let Q : List Level → Type 0 = λ ls. IsEngine inside.source.vars inside.source.rows (inside.trail.lits ++ c.args.lit ∷ []) ls inside.propagated inside.conflict (vec_capacity inside.levels) in
    let R : ℕ → Type 0 = λ n. IsEngine inside.source.vars inside.source.rows (inside.trail.lits ++ c.args.lit ∷ []) c.push_reserved.new.self.items inside.propagated inside.conflict n in
    record { up_to_date = subst (λ (t : Constraints). IsUpToDate t c.push.new.self) c.tables.ensures c.push.ensures.up_to_date; engine = subst P (sym c.push.ensures.pushed) (subst R (sym c.push_reserved.ensures.capacity) (subst Q (sym levels) stays)) }

pub returns : goal.returns
returns g c =
    let inside = c.self.inside in
    let start = length inside.trail.lits in
    let begins : c.len-start.result ≡ start = c.len-start.ensures.length in
    let starts : starts_of c.push_reserved.new.self.items ≡ starts_of inside.levels.items ++ start ∷ [] = ap starts_of c.push_reserved.ensures.items ∙ (starts_of-push inside.levels.items (record { start = c.len-start.result; settled = c.is_at-settled.result }) ∙ ap (λ (n : ℕ). starts_of inside.levels.items ++ n ∷ []) begins) in
    let free : value_on inside.trail.lits c.args.lit.var ≡ None = subst (λ (e : EngineState). value_on e.trail c.args.lit.var ≡ None) (sym c.self.view_is) c.requires.no_value in
    let calm : inside.conflict ≡ false = ap (λ (e : EngineState). e.conflict) c.self.view_is ∙ c.requires.no_conflict in
    let room : start < inside.source.vars = omega (arith, c.push.ensures.within, c.self.invariant.up_to_date.vars) in
    let stays = IsEngine-assume inside.source.vars inside.source.rows inside.trail.lits inside.levels.items inside.propagated inside.conflict c.is_at-settled.result (vec_capacity inside.levels) c.args.lit c.self.invariant.engine calm room free (λ yes'. c.is_at-settled.ensures yes' ∙ ap (λ (n : ℕ). Some n) begins) c.push.ensures.from_one (omega (arith, c.requires.variable, ap (λ (e : EngineState). e.vars) c.self.view_is)) in
    let levels : c.push_reserved.new.self.items ≡ inside.levels.items ++ record { start = start; settled = c.is_at-settled.result } ∷ [] = c.push_reserved.ensures.items ∙ ap (λ (n : ℕ). inside.levels.items ++ record { start = n; settled = c.is_at-settled.result } ∷ []) begins in
    let sound = sound-IsEngine inside.source.form inside.source.vars inside.source.rows (inside.trail.lits ++ c.args.lit ∷ []) (inside.levels.items ++ record { start = start; settled = c.is_at-settled.result } ∷ []) inside.propagated inside.conflict inside.conflict (vec_capacity inside.levels) stays in
    let P : List Literal → Type 0 = λ t. IsSoundTrail (record { form = inside.source.form; vars = inside.source.vars; rows = inside.source.rows; trail = t; levels = starts_of c.push_reserved.new.self.items; conflict = inside.conflict }) in
    let Q : List Level → Type 0 = λ ls. IsSoundTrail (record { form = inside.source.form; vars = inside.source.vars; rows = inside.source.rows; trail = inside.trail.lits ++ c.args.lit ∷ []; levels = starts_of ls; conflict = inside.conflict }) in
    record {
      assumed =
          ap (λ (t : List Literal). let e : EngineState = record { form = inside.source.form; vars = inside.source.vars; rows = inside.source.rows; trail = t; levels = starts_of c.push_reserved.new.self.items; conflict = inside.conflict } in e) c.push.ensures.pushed
          ∙ (ap (λ (ls : List ℕ). let e : EngineState = record { form = inside.source.form; vars = inside.source.vars; rows = inside.source.rows; trail = inside.trail.lits ++ c.args.lit ∷ []; levels = ls; conflict = inside.conflict } in e) starts
          ∙ (ap (λ (b : Bool). let e : EngineState = record { form = inside.source.form; vars = inside.source.vars; rows = inside.source.rows; trail = inside.trail.lits ++ c.args.lit ∷ []; levels = starts_of inside.levels.items ++ start ∷ []; conflict = b } in e) calm
          ∙ ap (λ (e : EngineState). let e' : EngineState = record e { trail = e.trail ++ c.args.lit ∷ []; levels = e.levels ++ length e.trail ∷ []; conflict = false } in e') c.self.view_is));
      conflict = λ found. absurd (let none : ⊥ = cc in none);
      fixed = refl;
      sound = subst P (sym c.push.ensures.pushed) (subst Q (sym levels) sound);
    }
