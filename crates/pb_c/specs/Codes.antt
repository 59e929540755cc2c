-- The numbers that stand for what a session answers.
use Rattle.std.specs.Prelude.{ℤ, Bool, true, false, Result, Ok, Err}
use Rattle.pb_inst.specs.declared.faults.InstFault.TheVariants as refused
use Rattle.pb_session.specs.declared.faults.SessionFault.{SessionFault}
use Rattle.pb_session.specs.declared.faults.SessionFault.TheVariants.{Statement, Unended, Length}
use Rattle.pb_solve.specs.declared.options.Ran.{Ran}
use Rattle.pb_report.specs.declared.statuses.Status.{Status}
use Rattle.pb_report.specs.declared.statuses.Status.TheVariants.{Satisfiable, Unsatisfiable, Optimum, Unsupported, Unknown}
use Rattle.pb_c.specs.declared.codes.TheConstants as number

abbrev pub fault_code : SessionFault → ℤ
fault_code (Statement refused.BadVariable) = number.BAD_VARIABLE
fault_code (Statement refused.TooLarge) = number.TOO_LARGE
fault_code (Statement refused.TooMany) = number.TOO_MANY
fault_code (Statement refused.Memory) = number.MEMORY
fault_code Unended = number.UNENDED
fault_code Length = number.BAD_LENGTH

-- how a search ended, and whether it was cut
abbrev pub answer_code : Status → (cut : Bool) → ℤ
answer_code Optimum cut = number.OPTIMUM
answer_code Satisfiable true = number.FOUND
answer_code Satisfiable false = number.SATISFIABLE
answer_code Unsatisfiable cut = number.UNSATISFIABLE
answer_code Unsupported cut = number.UNSUPPORTED
answer_code Unknown cut = number.UNKNOWN

-- that a statement was told, or why not
abbrev pub told_code : Result (Unit {0}) SessionFault → ℤ
told_code (Ok done) = number.OK
told_code (Err fault) = fault_code fault

-- how a search ended, or why there was none
abbrev pub ran_code : Result Ran SessionFault → ℤ
ran_code (Ok ran) = answer_code ran.status ran.cut
ran_code (Err fault) = fault_code fault
