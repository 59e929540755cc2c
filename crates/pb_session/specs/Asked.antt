-- Why questions on what a session was told are refused.
use Rattle.std.specs.Prelude.{◌≢◌, ◌≤◌, [], ⊤}
use Rattle.pb_inst.specs.declared.limits.TheConstants.{MAX_VARS}
use Rattle.pb_inst.specs.declared.faults.InstFault.TheVariants as refused
use Rattle.pb_inst.specs.Limits.{HasVariablesWithin}
use Rattle.pb_inst.specs.Problem.{Problem, statements}
use Rattle.pb_session.specs.declared.faults.SessionFault.{SessionFault}
use Rattle.pb_session.specs.declared.faults.SessionFault.TheVariants.{Statement, Unended, Length}
use Rattle.pb_session.specs.Told.{Told}

-- all variables that the statements name may be an instance's
abbrev pub AreVariablesOfInstance : Problem → Type 0
AreVariablesOfInstance p = (p.vars ≤ MAX_VARS) × HasVariablesWithin p.vars (statements p)

-- a sum is not ended, memory is refused, or some variable that the statements name is no instance's
abbrev pub IsRefusal : Told → SessionFault → Type 0
IsRefusal told Unended = told.terms ≢ []
IsRefusal told Length = ⊥
IsRefusal told (Statement refused.Memory) = ⊤
IsRefusal told (Statement refused.TooLarge) = ⊥
IsRefusal told (Statement refused.TooMany) = ¬ AreVariablesOfInstance told.problem
IsRefusal told (Statement refused.BadVariable) = ¬ AreVariablesOfInstance told.problem
