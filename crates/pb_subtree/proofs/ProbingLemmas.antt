-- A literal that is tried, and taken back.
use Rattle.std.proofs.Common.{◌≡◌, ℕ, ◌≤◌, List, [], ◌∷◌, ◌++◌, length, length-append, get_or, take, refl, sym, ◌∙◌, ap, subst, arith, Bool, false, not, inl, inr, Option}
use Rattle.std.proofs.lemmas.List.{take-append-le, take_all}
use Rattle.std.proofs.lemmas.List.Elements.{All-nil, All-cons, All-append}
use Rattle.pb_inst.specs.Literal.{Literal}
use Rattle.pb_inst.specs.Problem.{Problem}
use Rattle.pb_inst.specs.Meaning.{literal_value}
use Rattle.pb_inst.specs.Cubes.{MakesTrue}
use Rattle.pb_inst.specs.Incumbent.{Solution}
use Rattle.pb_inst.proofs.SumProofs.{literal_cases}
use Rattle.pb_engine.specs.Trail.{value_on}
use Rattle.pb_engine.specs.Propagation.{AddsForced}
use Rattle.pb_engine.specs.EngineState.{EngineState, trail_before}
use Rattle.pb_engine.specs.Soundness.{assumptions, IsSoundTrail}
use Rattle.pb_trail.proofs.EngineLemmas.{kept_front}
use Rattle.pb_prune.specs.Held.{IsImprovement}
use Rattle.pb_prune.specs.Solutions.{SameConstraints, Completes}
use Rattle.pb_engine.specs.Free.{IsFree}
use Rattle.pb_prune.specs.Subtree.{IsClosed, IsOpenOnOneSide}
use Rattle.pb_subtree.proofs.Engines.{same_constraints}
use Rattle.pb_subtree.proofs.PathLemmas.{negated_true}
use Rattle.pb_subtree.proofs.SearchLemmas.{same_solution, assumptions_true}

-- the engine after a literal was assumed, and what follows was added
abbrev pub IsTried : EngineState → EngineState → Literal → Type 0
IsTried s u l = (u ≡ record s { trail = u.trail; levels = s.levels ++ length s.trail ∷ []; conflict = u.conflict }) × AddsForced s.rows (s.trail ++ l ∷ []) u.trail

last_place : (xs : List ℕ) (y d : ℕ) → get_or (xs ++ y ∷ []) (length xs) d ≡ y
last_place [] y d = refl
last_place (x ∷ xs) y d = last_place xs y d

-- taken back, it is as before
pub tried_back : (s u v : EngineState) (l : Literal) (level : ℕ) → IsTried s u l → level ≡ length s.levels → v ≡ record u { trail = trail_before u level; levels = take level u.levels; conflict = false } → s.conflict ≡ false → v ≡ s
tried_back s u v l level tried level_is undone no_conflict =
    undone
    ∙ (ap (λ (x : List Literal). record u { trail = x; levels = take level u.levels; conflict = false }) cut
    ∙ (ap (λ (x : List ℕ). record u { trail = s.trail; levels = x; conflict = false }) kept
    ∙ (ap (λ (x : EngineState). record x { trail = s.trail; levels = s.levels; conflict = false }) tried.0
    ∙ ap (λ (b : Bool). record s { conflict = b }) (sym no_conflict))))
  where
    levels : u.levels ≡ s.levels ++ length s.trail ∷ []
    levels = ap (λ (x : EngineState). x.levels) tried.0

    place : get_or u.levels level (length u.trail) ≡ length s.trail
    place = ap (λ (x : List ℕ). get_or x level (length u.trail)) levels ∙ ap (λ (n : ℕ). get_or (s.levels ++ length s.trail ∷ []) n (length u.trail)) level_is ∙ last_place s.levels (length s.trail) (length u.trail)

    cut : trail_before u level ≡ s.trail
    cut = ap (λ (n : ℕ). take n u.trail) place
        ∙ kept_front s.rows (s.trail ++ l ∷ []) u.trail (length s.trail) tried.1 (omega (arith, length-append s.trail (l ∷ [])))
        ∙ take-append-le (length s.trail) s.trail (l ∷ []) (omega arith)
        ∙ take_all (length s.trail) s.trail (omega arith)

    kept : take level u.levels ≡ s.levels
    kept = ap (λ (x : List ℕ). take level x) levels ∙ take-append-le level s.levels (length s.trail ∷ []) (omega arith) ∙ take_all level s.levels (omega arith)

-- where nothing with the literal comes before what is held, whatever comes before it makes the literal false
pub failed : (p : Problem) (s u : EngineState) (l : Literal) (held : Option Solution) (a : List Bool) → IsSoundTrail s → IsSoundTrail u → IsTried s u l → assumptions u ≡ assumptions s ++ l ∷ [] → IsClosed p u held → Completes s a → IsImprovement p a held → literal_value a l ≡ 0
failed p s u l held a sound after tried with closed h better =
    elim (literal_cases a l) [
      | inl one ↦ absurd (closed a (with_it one) better)
      | inr none ↦ none
    ]
  where
    same : SameConstraints s u
    same = same_constraints s u u.trail u.levels u.conflict (tried.0 ∙ ap (λ (x : List ℕ). record s { trail = u.trail; levels = x; conflict = u.conflict }) (sym (ap (λ (x : EngineState). x.levels) tried.0)))

    with_it : literal_value a l ≡ 1 → Completes u a
    with_it one = (
        let sol = same_solution s u a same h.solution in
        let all : MakesTrue a (assumptions s ++ l ∷ []) = All-append (λ m. literal_value a m ≡ 1) (assumptions s) (l ∷ []) (assumptions_true a s sound h.makes_true) (All-cons (λ m. literal_value a m ≡ 1) l [] one (All-nil (λ m. literal_value a m ≡ 1))) in
        record {
          solution = sol;
          makes_true = after.forced a sol.meets_rows (subst (λ (x : List Literal). MakesTrue a x) (sym with) all);
        })

-- so its negation has only one side to try
pub failed_one_side : (p : Problem) (s : EngineState) (l m : Literal) (held : Option Solution) → m.var ≡ l.var → m.positive ≡ not l.positive → IsFree s l → ((a : List Bool) → Completes s a → IsImprovement p a held → literal_value a l ≡ 0) → IsOpenOnOneSide p s held m
failed_one_side p s l m held same other free fails = record {
  variable = subst (λ (n : ℕ). n ≤ s.vars) (sym same) free.variable;
  no_value = ap (λ (n : ℕ). value_on s.trail n) same ∙ free.no_value;
  one_sided = λ a h better. negated_true a l m same other (fails a h better);
}
