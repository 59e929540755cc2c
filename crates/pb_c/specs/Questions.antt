-- What a question does to the session that a solver holds, which number it answers, and what it writes.
use Rattle.std.specs.Prelude.{◌≡◌, ◌≢◌, ◌↔◌, ◌⊎◌, ℕ, ◌<◌, ◌≤◌, ℤ, pos, if◌then◌else◌, false, List, [], length, map, All, Option, Result, Ok, Err, IfOk, IfErr, IfNone, OnErr, IsErrOf, slice_index_or, ⊤}
use Rattle.pb_inst.specs.declared.faults.InstFault.TheVariants as refused
use Rattle.pb_inst.specs.Literal.{Literal}
use Rattle.pb_questions.specs.declared.explaining.Explanation.{Explanation}
use Rattle.pb_questions.specs.declared.fixing.Among.{Among}
use Rattle.pb_questions.specs.declared.fixing.Among.TheVariants.{Feasible, Least}
use Rattle.pb_questions.specs.declared.fixing.Fixed.{Fixed}
use Rattle.pb_questions.specs.declared.fixing.Fixed.TheVariants.{Infeasible, Variables}
use Rattle.pb_questions.specs.declared.fixing.VariableStatus.{VariableStatus}
use Rattle.pb_questions.specs.declared.fixing.VariableStatus.TheVariants.{FixedTrue, FixedFalse, Free, Unknown}
use Rattle.pb_questions.specs.Explained.{IsExplained, IsInFull}
use Rattle.pb_questions.specs.Fixed.{AreKnown, IsFixedAnswer}
use Rattle.pb_questions.specs.Under.{HoldsLeastUnder, HoldsUnder}
use Rattle.pb_session.specs.declared.faults.SessionFault.{SessionFault}
use Rattle.pb_session.specs.declared.faults.SessionFault.TheVariants.{Statement, Unended, Length}
use Rattle.pb_session.specs.Asked.{AreVariablesOfInstance}
use Rattle.pb_session.specs.Found.{status_of}
use Rattle.pb_session.specs.Told.{Told}
use Rattle.pb_solve.specs.declared.options.Ran.{Ran}
use Rattle.pb_c.specs.Called.{budget, number_of, IsVariable}
use Rattle.pb_c.specs.Codes.{fault_code, ran_code}
use Rattle.pb_c.specs.declared.codes.TheConstants as number

abbrev pub among_number : Among → ℤ
among_number Feasible = pos 0
among_number Least = pos 1

abbrev pub status_number : VariableStatus → ℕ
status_number FixedFalse = 0
status_number FixedTrue = 1
status_number Free = 2
status_number Unknown = 3

-- why a question under the literals of these numbers is refused
abbrev pub RefusesQuestion : Told → List ℤ → SessionFault → Type 0
RefusesQuestion old numbers Unended = old.terms ≢ []
RefusesQuestion old numbers Length = ⊥
RefusesQuestion old numbers (Statement refused.BadVariable) = (¬ All IsVariable numbers) ⊎ (¬ AreVariablesOfInstance old.problem)
RefusesQuestion old numbers (Statement refused.TooLarge) = ⊥
RefusesQuestion old numbers (Statement refused.TooMany) = ¬ AreVariablesOfInstance old.problem
RefusesQuestion old numbers (Statement refused.Memory) = ⊤

-- the numbers are those of literals, under which this is so
abbrev pub IsUnder : List ℤ → (List Literal → Type 0) → Type 0
IsUnder numbers Holds = (lits : List Literal) × (map number_of lits ≡ numbers) × Holds lits

-- a question is answered or refused for what it and the session are; where it is refused the session stays
pub record Judges {A : Type 0} (old new : Told) (numbers : List ℤ) (said : Result A SessionFault) : Type 0 where
  pub accepted : IfOk said (λ answer. All IsVariable numbers)
  pub unchanged : OnErr said (new ≡ old)
  pub unended : IsErrOf said Unended ↔ (old.terms ≢ [])
  pub refused : IfErr said (RefusesQuestion old numbers)

-- what a search under assumptions found: at the end of one that is not cut the least assignment under them, or none
pub record FindsUnder (old new : Told) (lits : List Literal) (nodes : Option ℕ) (ran : Ran) : Type 0 where
  pub least : ran.cut ≡ false → HoldsLeastUnder old.problem lits new.found
  pub under : HoldsUnder old.problem lits new.found
  pub status : ran.status ≡ status_of old.problem ran.cut new.found
  pub no_budget : IfNone nodes (ran.cut ≡ false)
  pub told : new ≡ record old { found = new.found }

-- the session is searched under the literals of the numbers
pub record SearchesUnder (old new : Told) (numbers : List ℤ) (nodes : Option ℕ) (said : Result Ran SessionFault) : Type 0 where
  pub finds : IfOk said (λ ran. IsUnder numbers (λ lits. FindsUnder old new lits nodes ran))
  pub judges : Judges old new numbers said

abbrev pub SolvesUnder : (old new : Told) (numbers : List ℤ) (nodes : ℕ) (answer : ℤ) → Type 0
SolvesUnder old new numbers nodes answer = (said : Result Ran SessionFault) × (answer ≡ ran_code said) × SearchesUnder old new numbers (budget nodes) said

-- the session is asked why nothing is feasible under the literals of the numbers, and stays
pub record AsksWhy (old new : Told) (numbers : List ℤ) (nodes : Option ℕ) (said : Result Explanation SessionFault) : Type 0 where
  pub explained : IfOk said (λ explanation. IsUnder numbers (λ lits. IsExplained old.problem lits explanation))
  pub in_full : IfNone nodes (IfOk said IsInFull)
  pub kept : new ≡ old
  pub judges : Judges old new numbers said

-- as many of the literals' numbers as the room takes stand at its beginning, and the rest of it is as it was
pub record WritesLiterals (lits : List Literal) (old new : List ℤ) : Type 0 where
  pub same_length : length new ≡ length old
  pub written : (k : ℕ) (l : Literal) → k < length lits → k < length old → slice_index_or new k (pos 0) ≡ number_of (slice_index_or lits k l)
  pub kept : (k : ℕ) → length lits ≤ k → slice_index_or new k (pos 0) ≡ slice_index_or old k (pos 0)

-- the code of an explanation, and what is written: of a core its literals and how many they are, and else nothing
abbrev pub TellsExplanation : Explanation → (old new : List ℤ) (old_count new_count : ℕ) (answer : ℤ) → Type 0
TellsExplanation Explanation.Feasible old new old_count new_count answer = (answer ≡ number.SATISFIABLE) × (new ≡ old) × (new_count ≡ old_count)
TellsExplanation (Explanation.Core core) old new old_count new_count answer =
    (answer ≡ (if core.is_minimal then number.UNSATISFIABLE else number.CORE)) × WritesLiterals core.literals.items old new × (new_count ≡ length core.literals.items)
TellsExplanation Explanation.Cut old new old_count new_count answer = (answer ≡ number.UNKNOWN) × (new ≡ old) × (new_count ≡ old_count)

abbrev pub TellsWhy : Result Explanation SessionFault → (old new : List ℤ) (old_count new_count : ℕ) (answer : ℤ) → Type 0
TellsWhy (Ok explanation) old new old_count new_count answer = TellsExplanation explanation old new old_count new_count answer
TellsWhy (Err fault) old new old_count new_count answer = (answer ≡ fault_code fault) × (new ≡ old) × (new_count ≡ old_count)

abbrev pub Explains : (old new : Told) (numbers : List ℤ) (nodes : ℕ) (old_core new_core : List ℤ) (old_count new_count : ℕ) (answer : ℤ) → Type 0
Explains old new numbers nodes old_core new_core old_count new_count answer =
    (said : Result Explanation SessionFault) × TellsWhy said old_core new_core old_count new_count answer × AsksWhy old new numbers (budget nodes) said

-- the session is asked which variables are fixed under the literals of the numbers, and stays
pub record AsksFixed (old new : Told) (numbers : List ℤ) (among : Among) (nodes : Option ℕ) (said : Result Fixed SessionFault) : Type 0 where
  pub answer : IfOk said (λ fixed. IsUnder numbers (λ lits. IsFixedAnswer old.problem lits among fixed))
  pub known : IfNone nodes (IfOk said AreKnown)
  pub kept : new ≡ old
  pub judges : Judges old new numbers said

-- as many of the statuses' numbers as the room takes stand at its beginning, and the rest of it is as it was
pub record WritesStatuses (statuses : List VariableStatus) (old new : List ℕ) : Type 0 where
  pub same_length : length new ≡ length old
  pub written : (k : ℕ) → k < length statuses → k < length old → slice_index_or new k 0 ≡ status_number (slice_index_or statuses k Unknown)
  pub kept : (k : ℕ) → length statuses ≤ k → slice_index_or new k 0 ≡ slice_index_or old k 0

-- the code of statuses that are all known, or not
abbrev pub KnownCode : List VariableStatus → (answer : ℤ) → Type 0
KnownCode statuses answer =
    (All (λ status. status ≢ Unknown) statuses × (answer ≡ number.SATISFIABLE))
    ⊎ ((¬ All (λ status. status ≢ Unknown) statuses) × (answer ≡ number.UNKNOWN))

-- the code of which variables are fixed, and what is written: the statuses, and where nothing is feasible nothing
abbrev pub TellsFixed : Result Fixed SessionFault → (old new : List ℕ) (answer : ℤ) → Type 0
TellsFixed (Ok Infeasible) old new answer = (answer ≡ number.UNSATISFIABLE) × (new ≡ old)
TellsFixed (Ok (Variables statuses)) old new answer = KnownCode statuses.items answer × WritesStatuses statuses.items old new
TellsFixed (Err fault) old new answer = (answer ≡ fault_code fault) × (new ≡ old)

-- a number of nothing that is asked about is BAD_ARGUMENT, and changes nothing
abbrev pub Fixes : (old new : Told) (numbers : List ℤ) (among : ℤ) (nodes : ℕ) (old_room new_room : List ℕ) (answer : ℤ) → Type 0
Fixes old new numbers among nodes old_room new_room answer =
    ((a : Among) × (among_number a ≡ among) × ((said : Result Fixed SessionFault) × TellsFixed said old_room new_room answer × AsksFixed old new numbers a (budget nodes) said))
    ⊎ (((a : Among) → ¬ (among_number a ≡ among)) × (new ≡ old) × (new_room ≡ old_room) × (answer ≡ number.BAD_ARGUMENT))

-- the byte is 0 or 1
abbrev pub IsBit : ℕ → Type 0
IsBit byte = byte ≤ 1

-- Values are suggested, one byte for each variable. Nothing that contracts see of the session depends on them.
pub record Suggests (old new : Told) (values : List ℕ) (answer : ℤ) : Type 0 where
  pub unchanged : new ≡ old
  pub length_fits : (answer ≡ number.BAD_LENGTH) ↔ (length values ≢ old.problem.vars)
  pub bits : (answer ≡ number.BAD_ARGUMENT) ↔ ((length values ≡ old.problem.vars) × (¬ All IsBit values))
  pub other : (answer ≡ number.OK) ⊎ (answer ≡ number.BAD_LENGTH) ⊎ (answer ≡ number.BAD_ARGUMENT) ⊎ (answer ≡ number.MEMORY)
