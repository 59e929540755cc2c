-- A literal in one number: twice the variable, and 1 more where it is positive.
use Rattle.std.specs.Prelude.{◌≡◌, ℕ, ◌+◌, ◌*◌, ◌/◌, ◌%◌, ◌<◌, ◌==◌, if◌then◌else◌}
use Rattle.std.proofs.Common.{zero, suc, refl, ap, ◌∙◌}
use Rattle.std.proofs.Math.Nat.{div-add-mod, mod-lt, zero-lt-suc, le_of_suc-le-suc, not-suc-le-zero}
use Rattle.pb_inst.specs.Literal.{Literal}

abbrev pub literal_of_code : ℕ → Literal
literal_of_code code = record { var = code / 2; positive = code % 2 == 1 }

abbrev pub code_of_literal : Literal → ℕ
code_of_literal l = 2 * l.var + (if l.positive then 1 else 0)

-- the code of the literal of a code
sign_back : (sign : ℕ) → sign < 2 → (if sign == 1 then 1 else 0) ≡ sign
sign_back zero small = refl
sign_back (suc zero) small = refl
sign_back (suc (suc n)) small = absurd (not-suc-le-zero (le_of_suc-le-suc (le_of_suc-le-suc small)))

pub code_back : (code : ℕ) → code_of_literal (literal_of_code code) ≡ code
code_back code = ap (λ sign. 2 * (code / 2) + sign) (sign_back (code % 2) (mod-lt code (zero-lt-suc 1))) ∙ div-add-mod code 2
