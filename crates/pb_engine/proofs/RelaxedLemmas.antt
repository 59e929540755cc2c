-- The multipliers beside an engine's trail.
use Rattle.std.proofs.Common.{◌≡◌, ◌≤◌, ◌++◌, List, length, take, sym, ◌∙◌, ap, subst, arith, All, Bool, inl, inr, ◌⊎◌}
use Rattle.std.specs.Prelude.{ℤ, ◌≤ℤ◌, IfSome, Option, Some, None}
use Rattle.std.proofs.lemmas.Int.{ints}
use Rattle.std.proofs.lemmas.List.{take-append-le, length-take}
use Rattle.std.proofs.lemmas.List.Elements.{All-take}
use Rattle.pb_inst.specs.Literal.{Literal}
use Rattle.pb_normal.specs.NormalForm.{PositiveRow, NormalForm, MeetsRow}
use Rattle.pb_trail.specs.Completion.{HasNoCompletion, IsCompletion, IsLowerBound}
use Rattle.pb_trail.specs.EngineState.{EngineState}
use Rattle.pb_trail.specs.Propagation.{AddsForced}
use Rattle.pb_trail.specs.Tracked.{Tracked}
use Rattle.pb_engine.specs.Fixing.{IsBelowCompletions, IsForcedWithin}
use Rattle.pb_trail.proofs.EngineLemmas.{kept_front}
use Rattle.pb_lagrange.specs.Multipliers.{MultipliersState, IsBelowCosts, IsFixed}
use Rattle.pb_lagrange.specs.Relaxation.{IsBeside}
use Rattle.pb_lagrange.specs.declared.relaxation.Fixed.{Fixed}

-- multipliers beside a trail have followed no more than the trail
pub beside-within : (form : NormalForm) (trail : List Literal) (m : MultipliersState) → IsBeside form trail m → length m.trail ≤ length trail
beside-within form trail m beside = omega (arith, ap (λ (t : List Literal). length t) beside.trail_is, length-take (length m.trail) trail)

-- multipliers beside a trail are beside a longer one too
pub beside-longer : (form : NormalForm) (trail more : List Literal) (m : MultipliersState) → IsBeside form trail m → IsBeside form (trail ++ more) m
beside-longer form trail more m beside = record {
  form_is = beside.form_is;
  trail_is = beside.trail_is ∙ sym (take-append-le (length m.trail) trail more (beside-within form trail m beside));
}

pub beside-forced : (form : NormalForm) (rows : List PositiveRow) (trail longer : List Literal) (m : MultipliersState) → AddsForced rows trail longer → IsBeside form trail m → IsBeside form longer m
beside-forced form rows trail longer m added beside = record {
  form_is = beside.form_is;
  trail_is = beside.trail_is ∙ sym (kept_front rows trail longer (length m.trail) added (beside-within form trail m beside));
}

-- multipliers that may be missing stay beside a trail that grows by forced literals
pub beside-if-forced : (form : NormalForm) (rows : List PositiveRow) (trail longer : List Literal) (r : Option MultipliersState) → AddsForced rows trail longer → IfSome r (λ m. IsBeside form trail m) → IfSome r (λ m. IsBeside form longer m)
beside-if-forced form rows trail longer (Some m) added beside = beside-forced form rows trail longer m added beside
beside-if-forced form rows trail longer None added beside = tt

-- an assignment that meets all rows meets those of the form
pub completion_of_form : (form : NormalForm) (rows : List PositiveRow) (trail : List Literal) (a : List Bool) → take (length form.rows) rows ≡ form.rows → IsCompletion rows trail a → IsCompletion form.rows trail a
completion_of_form form rows trail a first whole = record {
  makes_true = whole.makes_true;
  meets_rows = subst (λ (rs : List PositiveRow). All (λ row. MeetsRow a row) rs) first (All-take (λ (row : PositiveRow). MeetsRow a row) (length form.rows) rows whole.meets_rows);
}

-- a bound by multipliers that is no less than a lower bound is one too
pub greater-bound : (form : NormalForm) (rows : List PositiveRow) (trail : List Literal) (bound relaxed : ℤ) → take (length form.rows) rows ≡ form.rows → IsLowerBound form rows trail bound → IsBelowCosts form trail relaxed → bound ≤ℤ relaxed → IsLowerBound form rows trail relaxed
greater-bound form rows trail bound relaxed first lower below more = record {
  below_costs = λ a whole. below a (completion_of_form form rows trail a first whole);
  paid = (let paid = lower.paid in omega (arith, ints));
}

-- a lower bound, or what the multipliers put in its place
pub raised-bound : (form : NormalForm) (rows : List PositiveRow) (trail : List Literal) (own : NormalForm) (followed : List Literal) (bound raised : ℤ) → take (length form.rows) rows ≡ form.rows → own ≡ form → followed ≡ trail → IsLowerBound form rows trail bound → (raised ≡ bound) ⊎ ((bound ≤ℤ raised) × IsBelowCosts own followed raised) → IsLowerBound form rows trail raised
raised-bound form rows trail own followed bound raised first same_form same_trail lower (inl same) = subst (λ (z : ℤ). IsLowerBound form rows trail z) (sym same) lower
raised-bound form rows trail own followed bound raised first same_form same_trail lower (inr more) =
    greater-bound form rows trail bound raised first lower (subst (λ (f : NormalForm). IsBelowCosts f trail raised) same_form (subst (λ (t : List Literal). IsBelowCosts own t raised) same_trail more.1)) more.0

-- a raised bound is a lower bound of an engine's trail
pub raised-in : (e : EngineState) (s : Tracked) (bound raised : ℤ) → take (length s.form.rows) s.rows ≡ s.form.rows → s.form ≡ e.form → s.rows ≡ e.rows → s.trail ≡ e.trail → IsLowerBound e.form e.rows e.trail bound → (raised ≡ bound) ⊎ ((bound ≤ℤ raised) × IsBelowCosts s.form s.trail raised) → IsLowerBound e.form e.rows e.trail raised
raised-in e s bound raised first form rows trail lower answer =
    let here : take (length e.form.rows) e.rows ≡ e.form.rows = subst (λ (rs : List PositiveRow). take (length e.form.rows) rs ≡ e.form.rows) rows (subst (λ (f : NormalForm). take (length f.rows) s.rows ≡ f.rows) form first) in
    raised-bound e.form e.rows e.trail s.form s.trail bound raised here form trail lower answer

-- a literal that the multipliers fix
pub fixed-in : (e : EngineState) (own : NormalForm) (followed : List Literal) (limit : ℤ) (l : Literal) → take (length e.form.rows) e.rows ≡ e.form.rows → e.vars ≡ e.form.vars → own ≡ e.form → followed ≡ e.trail → IsFixed own followed limit l → IsForcedWithin e limit l
fixed-in e own followed limit l first vars same_form same_trail fixed =
    let here : IsFixed e.form e.trail limit l = subst (λ (f : NormalForm). IsFixed f e.trail limit l) same_form (subst (λ (t : List Literal). IsFixed own t limit l) same_trail fixed) in
    record {
      variable = omega (arith, here.variable);
      no_value = here.no_value;
      forced = λ a whole cheap. here.forced a (completion_of_form e.form e.rows e.trail a first whole) cheap;
    }

pub if-fixed-in : (e : EngineState) (own : NormalForm) (followed : List Literal) (limit : ℤ) (found : Option Fixed) → take (length e.form.rows) e.rows ≡ e.form.rows → e.vars ≡ e.form.vars → own ≡ e.form → followed ≡ e.trail → IfSome found (λ f. IsFixed own followed limit f.lit) → IfSome found (λ f. IsForcedWithin e limit f.lit)
if-fixed-in e own followed limit (Some f) first vars same_form same_trail fixed = fixed-in e own followed limit f.lit first vars same_form same_trail fixed
if-fixed-in e own followed limit None first vars same_form same_trail fixed = tt

-- a bound by multipliers is at most the cost of every completion
below-in : (e : EngineState) (own : NormalForm) (followed : List Literal) (bound : ℤ) → take (length e.form.rows) e.rows ≡ e.form.rows → own ≡ e.form → followed ≡ e.trail → IsBelowCosts own followed bound → IsBelowCompletions e bound
below-in e own followed bound first same_form same_trail below =
    let here : IsBelowCosts e.form e.trail bound = subst (λ (f : NormalForm). IsBelowCosts f e.trail bound) same_form (subst (λ (t : List Literal). IsBelowCosts own t bound) same_trail below) in
    λ a whole. here a (completion_of_form e.form e.rows e.trail a first whole)

-- where multipliers tell that nothing meets the form's rows, nothing meets all rows
pub none-in : (e : EngineState) (own : NormalForm) (followed : List Literal) → take (length e.form.rows) e.rows ≡ e.form.rows → own ≡ e.form → followed ≡ e.trail → HasNoCompletion own.rows followed → HasNoCompletion e.rows e.trail
none-in e own followed first same_form same_trail none =
    let here : HasNoCompletion e.form.rows e.trail = subst (λ (f : NormalForm). HasNoCompletion f.rows e.trail) same_form (subst (λ (t : List Literal). HasNoCompletion own.rows t) same_trail none) in
    λ a whole. here a (completion_of_form e.form e.rows e.trail a first whole)

pub if-below-in : (e : EngineState) (own : NormalForm) (followed : List Literal) (found : Option Fixed) → take (length e.form.rows) e.rows ≡ e.form.rows → own ≡ e.form → followed ≡ e.trail → IfSome found (λ f. IsBelowCosts own followed f.bound) → IfSome found (λ f. IsBelowCompletions e f.bound)
if-below-in e own followed (Some f) first same_form same_trail below = below-in e own followed f.bound first same_form same_trail below
if-below-in e own followed None first same_form same_trail below = tt

pub if-bound-in : (e : EngineState) (own : NormalForm) (followed : List Literal) (found : Option ℤ) → take (length e.form.rows) e.rows ≡ e.form.rows → own ≡ e.form → followed ≡ e.trail → IfSome found (IsBelowCosts own followed) → IfSome found (IsBelowCompletions e)
if-bound-in e own followed (Some bound) first same_form same_trail below = below-in e own followed bound first same_form same_trail below
if-bound-in e own followed None first same_form same_trail below = tt
