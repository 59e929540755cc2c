-- The literal at a place of a trail.
use Rattle.std.proofs.Common.{◌≡◌, ℕ, ◌+◌, ◌<◌, List, [], ◌∷◌, ◌++◌, length, get_or, take, sym, ◌∙◌, ap, None}
use Rattle.std.proofs.lemmas.List.{take_more}
use Rattle.pb_inst.specs.Literal.{Literal}
use Rattle.pb_trail.specs.Soundness.{IsProperTrail}
use Rattle.pb_trail.specs.Trail.{value_on}

-- it has no value before it, and follows the literals before it
pub at_place : (vars : ℕ) (trail : List Literal) (k : ℕ) (l : Literal) → IsProperTrail vars trail → k < length trail → l ≡ get_or trail k l → (value_on (take k trail) l.var ≡ None) × (take (k + 1) trail ≡ take k trail ++ l ∷ [])
at_place vars trail k l proper h read =
    (ap (λ (m : Literal). value_on (take k trail) m.var) read ∙ proper.once k l h, take_more trail k l h ∙ ap (λ (m : Literal). take k trail ++ m ∷ []) (sym read))
