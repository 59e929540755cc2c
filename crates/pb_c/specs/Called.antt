-- What a call does to the session that a solver holds, and which number it answers.
use Rattle.std.specs.Prelude.{◌≡◌, ◌≢◌, ◌↔◌, ◌⊎◌, ℕ, ◌+◌, ◌-◌, ◌<◌, ◌≤◌, ℤ, ◌≤ℤ◌, pos, neg_ℤ, if◌then◌else◌, unsigned_abs, true, false, List, [], ◌∷◌, ◌++◌, length, map, All, Option, None, Some, IfSome, IfNone, Result, OnOk, OnErr, IfOk, IfErr, IsErrOf, ◌==◌, slice_index_or}
use Rattle.std.specs.Fmt.{signed_decimal}
use Rattle.pb_inst.specs.declared.limits.TheConstants.{MAX_VARS, MAX_TERMS, SUM_BOUND}
use Rattle.pb_inst.specs.declared.constraints.Relation.{Relation}
use Rattle.pb_inst.specs.declared.constraints.Relation.TheVariants.{AtLeast, AtMost, Equal}
use Rattle.pb_inst.specs.declared.faults.InstFault.TheVariants as refused
use Rattle.pb_inst.specs.Constraints.{clause_constraint}
use Rattle.pb_inst.specs.Incumbent.{Solution, IsSolution}
use Rattle.pb_inst.specs.Limits.{constraint_terms, total_magnitude, HasRoom}
use Rattle.pb_inst.specs.Literal.{Literal}
use Rattle.pb_inst.specs.Problem.{statements}
use Rattle.pb_read.specs.declared.format.Format.{Format}
use Rattle.pb_read.specs.declared.format.Format.TheVariants.{Opb, Cnf, Icnf}
use Rattle.pb_session.specs.declared.faults.SessionFault.{SessionFault}
use Rattle.pb_session.specs.declared.faults.SessionFault.TheVariants.{Statement, Unended, Length}
use Rattle.pb_session.specs.Asked.{IsRefusal}
use Rattle.pb_session.specs.Found.{status_of}
use Rattle.pb_session.specs.Told.{Told, with_constraint, with_objective}
use Rattle.pb_solve.specs.declared.options.Ran.{Ran}
use Rattle.pb_report.specs.declared.statuses.Status.TheVariants.{Unknown}
use Rattle.pb_report.specs.Written.{memory_report}
use Rattle.pb_solve.specs.Run.{Reports, ReportsFound}
use Rattle.pb_solve.specs.Solving.{HoldsLeast}
use Rattle.pb_c.specs.Codes.{told_code, ran_code}
use Rattle.pb_c.specs.declared.codes.TheConstants as number

-- variable n is n, and its negation -n
abbrev pub number_of : Literal → ℤ
number_of l = if l.positive then pos l.var else neg_ℤ (pos l.var)

-- the number is that of a literal
abbrev pub IsVariable : ℤ → Type 0
IsVariable n = (1 ≤ unsigned_abs n) × (unsigned_abs n ≤ MAX_VARS)

abbrev pub relation_number : Relation → ℤ
relation_number AtLeast = pos 0
relation_number AtMost = pos 1
relation_number Equal = pos 2

abbrev pub format_number : Format → ℤ
format_number Opb = pos 0
format_number Cnf = pos 1
format_number Icnf = pos 2

-- a call answers EMPTY where the solver holds no session, and else does this to it
abbrev pub OnHeld : Option Told → Option Told → ℤ → (Told → Told → Type 0) → Type 0
OnHeld None new answer Does = (new ≡ None) × (answer ≡ number.EMPTY)
OnHeld (Some old) None answer Does = ⊥
OnHeld (Some old) (Some new) answer Does = Does old new

-- a statement's call answers the code of what the session says
abbrev pub Says : ℤ → (Result (Unit {0}) SessionFault → Type 0) → Type 0
Says answer Said = (said : Result (Unit {0}) SessionFault) × (answer ≡ told_code said) × Said said

-- a term joins the sum that is not ended
pub record AddsTerm (old new : Told) (coefficient literal : ℤ) (said : Result (Unit {0}) SessionFault) : Type 0 where
  pub added : OnOk said ((l : Literal) × (number_of l ≡ literal) × (new ≡ record old { terms = old.terms ++ record { coef = coefficient; lit = l } ∷ [] }))
  pub unchanged : OnErr said (new ≡ old)
  pub bad_variable : IsErrOf said (Statement refused.BadVariable) ↔ (¬ IsVariable literal)
  pub other : IfErr said (λ fault. (fault ≢ Unended) × (fault ≢ Length) × (fault ≢ Statement refused.TooLarge) × (fault ≢ Statement refused.TooMany))

-- the sum becomes a constraint
pub record AddsConstraint (old new : Told) (relation : Relation) (bound : ℤ) (said : Result (Unit {0}) SessionFault) : Type 0 where
  pub added : OnOk said (new ≡ record old { problem = with_constraint old.problem (record { terms = old.terms; relation = relation; bound = bound }); terms = [] })
  pub unchanged : OnErr said (new ≡ old)
  pub too_large : IsErrOf said (Statement refused.TooLarge) ↔ (SUM_BOUND < total_magnitude old.terms + unsigned_abs bound)
  pub too_many : IsErrOf said (Statement refused.TooMany) ↔ ((total_magnitude old.terms + unsigned_abs bound ≤ SUM_BOUND) × (¬ HasRoom (statements old.problem) (length old.terms)))
  pub other : IfErr said (λ fault. (fault ≢ Statement refused.BadVariable) × (fault ≢ Unended) × (fault ≢ Length))

-- the sum becomes the objective
pub record SetsObjective (old new : Told) (said : Result (Unit {0}) SessionFault) : Type 0 where
  pub set : OnOk said (new ≡ record old { problem = with_objective old.problem old.terms; terms = [] })
  pub unchanged : OnErr said (new ≡ old)
  pub too_large : IsErrOf said (Statement refused.TooLarge) ↔ (SUM_BOUND < total_magnitude old.terms)
  pub too_many : IsErrOf said (Statement refused.TooMany) ↔ ((total_magnitude old.terms ≤ SUM_BOUND) × (MAX_TERMS < length old.terms + constraint_terms old.problem.constraints))
  pub other : IfErr said (λ fault. (fault ≢ Statement refused.BadVariable) × (fault ≢ Unended) × (fault ≢ Length))

-- why a clause is refused
abbrev pub RefusesClause : Told → List ℤ → SessionFault → Type 0
RefusesClause old literals Unended = old.terms ≢ []
RefusesClause old literals Length = ⊥
RefusesClause old literals (Statement refused.BadVariable) = ¬ All IsVariable literals
RefusesClause old literals (Statement refused.TooLarge) = SUM_BOUND < length literals + 1
RefusesClause old literals (Statement refused.TooMany) = ¬ HasRoom (statements old.problem) (length literals)
RefusesClause old literals (Statement refused.Memory) = Unit {0}

-- the literals become a clause, unless a sum is not ended
pub record AddsClause (old new : Told) (literals : List ℤ) (said : Result (Unit {0}) SessionFault) : Type 0 where
  pub added : OnOk said ((lits : List Literal) × (map number_of lits ≡ literals) × (new ≡ record old { problem = with_constraint old.problem (clause_constraint lits) }))
  pub unchanged : OnErr said (new ≡ old)
  pub unended : IsErrOf said Unended ↔ (old.terms ≢ [])

-- a clause is taken or refused for what it and the session are
abbrev pub JudgesClause : Told → List ℤ → Result (Unit {0}) SessionFault → Type 0
JudgesClause old literals said = OnOk said (All IsVariable literals) × IfErr said (RefusesClause old literals)

abbrev pub TellsTerm : (old new : Told) (coefficient literal answer : ℤ) → Type 0
TellsTerm old new coefficient literal answer = Says answer (AddsTerm old new coefficient literal)

-- a number of no relation is BAD_ARGUMENT, and changes nothing
abbrev pub TellsEnd : (old new : Told) (relation bound answer : ℤ) → Type 0
TellsEnd old new relation bound answer =
    ((r : Relation) × (relation_number r ≡ relation) × Says answer (AddsConstraint old new r bound))
    ⊎ (((r : Relation) → ¬ (relation_number r ≡ relation)) × (new ≡ old) × (answer ≡ number.BAD_ARGUMENT))

abbrev pub TellsObjective : (old new : Told) (answer : ℤ) → Type 0
TellsObjective old new answer = Says answer (SetsObjective old new)

abbrev pub TellsClause : (old new : Told) (literals : List ℤ) (answer : ℤ) → Type 0
TellsClause old new literals answer = Says answer (λ said. AddsClause old new literals said × JudgesClause old literals said)

abbrev pub Forgets : (old new : Told) (answer : ℤ) → Type 0
Forgets old new answer = (new ≡ record old { terms = [] }) × (answer ≡ number.OK)

-- the greatest budget is none
abbrev pub budget : ℕ → Option ℕ
budget nodes = if nodes == 18446744073709551615 then None else Some nodes

-- the session is searched: what is held at the end of a search that is not cut is the least assignment, or none
pub record Searches (old new : Told) (nodes : Option ℕ) (said : Result Ran SessionFault) : Type 0 where
  pub least : IfOk said (λ ran. ran.cut ≡ false → HoldsLeast old.problem new.found)
  pub sound : IfOk said (λ ran. IfSome new.found (IsSolution old.problem))
  pub status : IfOk said (λ ran. ran.status ≡ status_of old.problem ran.cut new.found)
  pub no_budget : IfNone nodes (IfOk said (λ ran. ran.cut ≡ false))
  pub told : OnOk said (new ≡ record old { found = new.found })
  pub unchanged : OnErr said (new ≡ old)
  pub unended : IsErrOf said Unended ↔ (old.terms ≢ [])
  pub refused : IfErr said (IsRefusal old)

abbrev pub Solves : (old new : Told) (nodes : ℕ) (answer : ℤ) → Type 0
Solves old new nodes answer = (said : Result Ran SessionFault) × (answer ≡ ran_code said) × Searches old new (budget nodes) said

-- a text is solved by itself, and its report kept
pub record RunsText (old new : Told) (format : Format) (text : List ℕ) (nodes : Option ℕ) (said : Result Ran SessionFault) : Type 0 where
  pub headline : IfOk said (λ ran. ran.cut ≡ false → ran.status ≢ Unknown → Reports format (Some text) None 0 (Some []) (Some new.report) ran.status)
  pub budgeted : IfOk said (λ ran. ran.cut ≡ true → ReportsFound format (Some text) None 0 (Some []) (Some new.report) ran.status)
  pub no_budget : IfNone nodes (IfOk said (λ ran. ran.cut ≡ false))
  pub memory : IfOk said (λ ran. ran.cut ≡ false → ran.status ≡ Unknown → new.report ≡ memory_report)
  pub apart : OnOk said (record new { report = old.report } ≡ old)
  pub unchanged : OnErr said (new ≡ old)
  pub fault : IfErr said (λ fault. fault ≡ Statement refused.Memory)

-- a number of no format is BAD_ARGUMENT, and changes nothing
abbrev pub Runs : (old new : Told) (format : ℤ) (text : List ℕ) (nodes : ℕ) (answer : ℤ) → Type 0
Runs old new format text nodes answer =
    ((f : Format) × (format_number f ≡ format) × ((said : Result Ran SessionFault) × (answer ≡ ran_code said) × RunsText old new f text (budget nodes) said))
    ⊎ (((f : Format) → ¬ (format_number f ≡ format)) × (new ≡ old) × (answer ≡ number.BAD_ARGUMENT))

-- the cost in 64 bits, where it fits them
abbrev pub TellsCost : Option Solution → (old new answer : ℤ) → Type 0
TellsCost None old new answer = (new ≡ old) × (answer ≡ number.NO_ANSWER)
TellsCost (Some s) old new answer =
    ((number.LEAST_COST ≤ℤ s.cost) × (s.cost ≤ℤ number.GREATEST_COST) × (new ≡ s.cost) × (answer ≡ number.OK))
    ⊎ ((¬ ((number.LEAST_COST ≤ℤ s.cost) × (s.cost ≤ℤ number.GREATEST_COST))) × (new ≡ old) × (answer ≡ number.OUT_OF_RANGE))

-- the value of a variable
abbrev pub TellsValue : Option Solution → (var : ℕ) → (answer : ℤ) → Type 0
TellsValue None var answer = answer ≡ number.NO_ANSWER
TellsValue (Some s) var answer =
    ((1 ≤ var) × (var ≤ length s.assignment) × (answer ≡ (if slice_index_or s.assignment (var - 1) false then pos 1 else pos 0)))
    ⊎ (((var ≡ 0) ⊎ (length s.assignment < var)) × (answer ≡ number.BAD_VARIABLE))

-- the text of a cost, and nothing where there is none
abbrev pub cost_text : Option Solution → List ℕ
cost_text None = []
cost_text (Some s) = signed_decimal s.cost

-- the bytes that a session gives, and nothing where the solver holds none
abbrev pub bytes_of : Option Told → (Told → List ℕ) → List ℕ
bytes_of None bytes = []
bytes_of (Some told) bytes = bytes told

-- how many variables the statements name, and 0 where the solver holds none
abbrev pub vars_of : Option Told → ℕ
vars_of None = 0
vars_of (Some told) = told.problem.vars
