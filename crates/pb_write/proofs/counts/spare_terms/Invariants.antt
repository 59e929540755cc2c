use Rattle.std.proofs.Common.{◌≡◌, ◌+◌, take, length}
use Rattle.std.specs.Option.{option_map_or}
use Rattle.pb_inst.specs.declared.limits.TheConstants.{MAX_TERMS}
use Rattle.pb_inst.specs.Limits.{constraint_terms}
use Rattle.pb_write.proofs.counts.spare_terms.Given as goal

-- what is spare beside the objective and the constraints so far
abbrev pub invariant-loop-i : goal.invariant-loop-i
invariant-loop-i l = l.spare + (option_map_or (λ terms. length terms) l.instance.objective 0 + constraint_terms (take l.i l.instance.constraints)) ≡ MAX_TERMS
