use Rattle.std.proofs.Common.{◌≡◌, take, pos, All}
use Rattle.pb_inst.specs.declared.constraints.Term.{Term}
use Rattle.pb_write.proofs.forms.have_unit_coefficients.Given as goal

-- the coefficients so far are 1
abbrev pub invariant-loop-i : goal.invariant-loop-i
invariant-loop-i l = All (λ (t : Term). t.coef ≡ pos 1) (take l.i l.terms)
