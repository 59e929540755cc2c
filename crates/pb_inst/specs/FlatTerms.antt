-- Terms kept as their coefficients and their literals.
use Rattle.std.specs.Prelude.{ℤ, List, [], ◌∷◌, FitsSigned}
use Rattle.std.specs.Int.{w64}
use Rattle.pb_inst.specs.declared.constraints.Term.{Term}
use Rattle.pb_inst.specs.Literal.{Literal}

-- each coefficient with the literal at its place
unfoldable pub terms_of : List ℤ → List Literal → List Term
terms_of [] lits = []
terms_of (c ∷ coefs) [] = []
terms_of (c ∷ coefs) (l ∷ lits) = record { coef = c; lit = l } ∷ terms_of coefs lits

-- the number fits 64 bits
abbrev pub IsNarrow : ℤ → Type 0
IsNarrow z = FitsSigned w64 z
