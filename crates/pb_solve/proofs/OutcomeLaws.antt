-- How the steps of a run make its outcome.
use Rattle.std.proofs.Common.{◌≡◌, ◌≢◌, ℕ, ℤ, Bool, true, false, List, Option, Some, None, is_some, length, Result, Ok, Err, OnOk, refl, sym, ◌∙◌, ap, subst, inr}
use Rattle.std.specs.Prelude.{◌↔◌, All, IfErr, IfNone, IfOk, IsErrOf, IsTrue, if◌then◌else◌}
use Rattle.std.proofs.lemmas.Bool.{false≢true}
use Rattle.std.specs.Option.{IfSome, option_map}
use Rattle.std.specs.Io.KnownBytes.{Appends}
use Rattle.pb_inst.specs.Problem.{Problem}
use Rattle.pb_inst.specs.Meaning.{IsFeasible, cost}
use Rattle.pb_inst.specs.Order.{IsLeast}
use Rattle.pb_inst.specs.Incumbent.{Solution, IsSolution}
use Rattle.pb_cubes.specs.Pieces.{CubeList}
use Rattle.pb_solve.specs.declared.prepare.Prepared.{Prepared}
use Rattle.pb_solve.specs.declared.prepare.PrepareError.{PrepareError}
use Rattle.pb_solve.specs.declared.prepare.PrepareError.TheVariants as stop
use Rattle.pb_read.specs.declared.format.Format.{Format}
use Rattle.pb_solve.specs.declared.options.Ran.{Ran}
use Rattle.pb_report.specs.declared.statuses.Status.{Status}
use Rattle.pb_report.specs.declared.statuses.Status.TheVariants.{Satisfiable, Optimum, Unsupported, Unknown}
use Rattle.pb_report.specs.declared.ends.Refusal.{Refusal}
use Rattle.pb_report.specs.declared.ends.RunFault.{RunFault}
use Rattle.pb_report.specs.declared.ends.RunFault.TheVariants as fault
use Rattle.pb_solve.specs.Solving.{HoldsLeast}
use Rattle.pb_solve.specs.Outcome.{Refused, Feasible, Optimal, IsOutcome}
use Rattle.pb_report.specs.Written.{attained_report, satisfiable_report, optimum_report, refusal_report, unknown_report}
use Rattle.pb_solve.specs.Budgeted as budgeted
use Rattle.pb_solve.specs.Budgeted.{Found, Nothing, Costing, IsFound, IsFoundIn, found_of, found_report, found_status}
use Rattle.pb_workers.specs.Parts.{PartView, IsAnswerOf, KeepsBudget}
use Rattle.pb_workers.specs.declared.solving.Answer.{Answer}
use Rattle.pb_solve.specs.Run.{WhereTold, Reports, ReportsFound, Answers, AnswersFound, AnswersHeld, IsAccepted, stops_at_cubes}

-- ---- facts about what readers tell

pub told_weaker : (input : Option (List ℕ)) (cubes : Option (Option (List ℕ))) (P Q : List ℕ → Option (List ℕ) → Type 0) → ((text : List ℕ) (cube_text : Option (List ℕ)) → P text cube_text → Q text cube_text) → WhereTold input cubes P → WhereTold input cubes Q
told_weaker None None P Q h p = tt
told_weaker None (Some None) P Q h p = tt
told_weaker None (Some (Some us)) P Q h p = tt
told_weaker (Some ts) None P Q h p = h ts None p
told_weaker (Some ts) (Some None) P Q h p = tt
told_weaker (Some ts) (Some (Some us)) P Q h p = h ts (Some us) p

-- ---- the answer

-- what is held, by its assignment and its cost
least_of : (p : Problem) (held : Option Solution) (a : List Bool) → HoldsLeast p held → Some a ≡ option_map (λ s. s.assignment) held → IsLeast p a
least_of p None a least e = cc
least_of p (Some s) a least e =
    let same : s.assignment ≡ a = cc in subst (λ (x : List Bool). IsLeast p x) same least.0

cost_of : (p : Problem) (held : Option Solution) (a : List Bool) (z : ℤ) → HoldsLeast p held → Some a ≡ option_map (λ s. s.assignment) held → Some z ≡ option_map (λ s. s.cost) held → z ≡ cost p a
cost_of p None a z least e f = cc
cost_of p (Some s) a z least e f =
    let same : s.assignment ≡ a = cc in
    let price : z ≡ s.cost = cc in
    price ∙ least.1 ∙ ap (λ (x : List Bool). cost p x) same

no_objective : {X : Type 0} (o : Option X) → is_some o ≡ false → o ≡ None
no_objective None e = refl
no_objective (Some x) e = cc

pub answer_satisfiable : (format : Format) (p : Problem) (held : Option Solution) (old new : Option (List ℕ)) (status : Status) (a : List Bool) → HoldsLeast p held → Some a ≡ option_map (λ s. s.assignment) held → is_some p.objective ≡ false → status ≡ Satisfiable → Appends old new (satisfiable_report format a) → Answers format p old new status
answer_satisfiable format p held old new status a least is_a none is written = record {
  outcome = Feasible a;
  ends = is;
  writes = written;
  right = (no_objective p.objective none, least_of p held a least is_a);
}

pub answer_optimum : (format : Format) (p : Problem) (held : Option Solution) (old new : Option (List ℕ)) (status : Status) (a : List Bool) (z : ℤ) → HoldsLeast p held → Some a ≡ option_map (λ s. s.assignment) held → Some z ≡ option_map (λ s. s.cost) held → is_some p.objective ≡ true → status ≡ Optimum → Appends old new (optimum_report format z a) → Answers format p old new status
answer_optimum format p held old new status a z least is_a is_z some is written = record {
  outcome = Optimal z a;
  ends = is;
  writes = written;
  right = (some, least_of p held a least is_a, cost_of p held a z least is_a is_z);
}

-- ---- what was found before a piece was cut

-- what is held is a solution, by its assignment and its cost
found_of_held : (p : Problem) (held : Option Solution) (a : List Bool) → IfSome held (IsSolution p) → Some a ≡ option_map (λ s. s.assignment) held → (length a ≡ p.vars) × IsFeasible p a
found_of_held p None a sound e = cc
found_of_held p (Some s) a sound e =
    let same : s.assignment ≡ a = cc in subst (λ (x : List Bool). (length x ≡ p.vars) × IsFeasible p x) same (sound.for_all_variables, sound.feasible)

found_cost_of : (p : Problem) (held : Option Solution) (a : List Bool) (z : ℤ) → IfSome held (IsSolution p) → Some a ≡ option_map (λ s. s.assignment) held → Some z ≡ option_map (λ s. s.cost) held → z ≡ cost p a
found_cost_of p None a z sound e f = cc
found_cost_of p (Some s) a z sound e f =
    let same : s.assignment ≡ a = cc in
    let price : z ≡ s.cost = cc in
    price ∙ sound.cost_is ∙ ap (λ (x : List Bool). cost p x) same

-- what is held, by the assignment and the cost that are answered
found_satisfiable : (p : Problem) (held : Option Solution) (a : List Bool) → Some a ≡ option_map (λ s. s.assignment) held → is_some p.objective ≡ false → found_of p held ≡ budgeted.Feasible a
found_satisfiable p None a e none = cc
found_satisfiable p (Some s) a e none =
    let same : s.assignment ≡ a = cc in
    ap (λ (b : Bool). if b then Costing s.cost s.assignment else budgeted.Feasible s.assignment) none ∙ ap budgeted.Feasible same

found_attained : (p : Problem) (held : Option Solution) (a : List Bool) (z : ℤ) → Some a ≡ option_map (λ s. s.assignment) held → Some z ≡ option_map (λ s. s.cost) held → is_some p.objective ≡ true → found_of p held ≡ Costing z a
found_attained p None a z e f some = cc
found_attained p (Some s) a z e f some =
    let same : s.assignment ≡ a = cc in
    let price : s.cost ≡ z = cc in
    ap (λ (b : Bool). if b then Costing s.cost s.assignment else budgeted.Feasible s.assignment) some ∙ (ap (λ (y : ℤ). Costing y s.assignment) price ∙ ap (Costing z) same)

-- the report of what was found is that of what is held
held_reported : (format : Format) (p : Problem) (held : Option Solution) (found : Found) (old new : Option (List ℕ)) (status : Status) → found_of p held ≡ found → status ≡ found_status found → Appends old new (found_report format found) → IsFound p found → AnswersHeld format p held old new status
held_reported format p held found old new status same is written right = record {
  ends = is ∙ ap found_status (sym same);
  writes = subst (λ (f : Found). Appends old new (found_report format f)) (sym same) written;
  right = subst (IsFound p) (sym same) right;
}

pub satisfiable_found : {E : Type 0} (r : Result Status E) (format : Format) (p : Problem) (held : Option Solution) (old new : Option (List ℕ)) (a : List Bool) → IfSome held (IsSolution p) → Some a ≡ option_map (λ s. s.assignment) held → is_some p.objective ≡ false → IfOk r (λ status. status ≡ Satisfiable) → OnOk r (Appends old new (satisfiable_report format a)) → IfOk r (AnswersHeld format p held old new)
satisfiable_found (Ok status) format p held old new a sound is_a none is written =
    let found = found_of_held p held a sound is_a in
    held_reported format p held (budgeted.Feasible a) old new status (found_satisfiable p held a is_a none) is written (no_objective p.objective none, found.0, found.1)
satisfiable_found (Err e) format p held old new a sound is_a none is written = tt

pub attained_found : {E : Type 0} (r : Result Status E) (format : Format) (p : Problem) (held : Option Solution) (old new : Option (List ℕ)) (a : List Bool) (z : ℤ) → IfSome held (IsSolution p) → Some a ≡ option_map (λ s. s.assignment) held → Some z ≡ option_map (λ s. s.cost) held → is_some p.objective ≡ true → IfOk r (λ status. status ≡ Satisfiable) → OnOk r (Appends old new (attained_report format z a)) → IfOk r (AnswersHeld format p held old new)
attained_found (Ok status) format p held old new a z sound is_a is_z some is written =
    let found = found_of_held p held a sound is_a in
    held_reported format p held (Costing z a) old new status (found_attained p held a z is_a is_z some) is written (some, found.0, found.1, found_cost_of p held a z sound is_a is_z)
attained_found (Err e) format p held old new a z sound is_a is_z some is written = tt

-- nothing is reported where nothing is held
pub nothing_found : {E : Type 0} (r : Result Status E) (format : Format) (p : Problem) (held : Option Solution) (old new : Option (List ℕ)) → held ≡ None → IfOk r (λ status. status ≡ Unknown) → OnOk r (Appends old new unknown_report) → IfOk r (AnswersHeld format p held old new)
nothing_found (Ok status) format p held old new none is written = held_reported format p held Nothing old new status (ap (found_of p) none) is written tt
nothing_found (Err e) format p held old new none is written = tt

-- what a run reports that was cut is what its answer holds, and so what the parts behind that found
found_by_parts : (ran : Ran) (format : Format) (p : Problem) (pieces : CubeList) (held : Option Solution) (some_cut : Bool) (old new : Option (List ℕ)) → (parts : List PartView) × IsAnswerOf p pieces parts held some_cut → (some_cut ≡ false → ran.cut ≡ false) → (some_cut ≡ true → (ran.cut ≡ true) × AnswersHeld format p held old new ran.status) → ran.cut ≡ true → AnswersFound format p pieces old new ran.status
found_by_parts ran format p pieces held false old new answer uncut h cut = absurd (false≢true (sym (uncut refl) ∙ cut))
found_by_parts ran format p pieces held true old new answer uncut h cut = record {
  found = found_of p held;
  ends = (h refl).1.ends;
  writes = (h refl).1.writes;
  right = (answer.0, held, answer.1, refl, (h refl).1.right);
}

pub found_by_answer : {E F : Type 0} (answered : Result Answer E) (r : Result Ran F) (format : Format) (p : Problem) (pieces : CubeList) (nodes : Option ℕ) (old new : Option (List ℕ)) → IfOk answered (λ answer. (parts : List PartView) × IsAnswerOf p pieces parts answer.best.held answer.cut × IfSome nodes (λ budget. All (KeepsBudget budget) parts))
    → (IfOk answered (λ answer. answer.cut ≡ false) → IfOk r (λ ran. ran.cut ≡ false))
    → IfOk answered (λ answer. answer.cut ≡ true → IfOk r (λ ran. (ran.cut ≡ true) × AnswersHeld format p answer.best.held old new ran.status))
    → IfOk r (λ ran. ran.cut ≡ true → AnswersFound format p pieces old new ran.status)
found_by_answer (Ok answer) (Ok ran) format p pieces nodes old new parts uncut h = found_by_parts ran format p pieces answer.best.held answer.cut old new (parts.0, parts.1) uncut h
found_by_answer (Err e) (Ok ran) format p pieces nodes old new parts uncut h = λ cut. absurd (false≢true (sym (uncut tt) ∙ cut))
found_by_answer answered (Err e) format p pieces nodes old new parts uncut h = tt

pub found_reported : (format : Format) (prepared : Prepared) (input : Option (List ℕ)) (cubes : Option (Option (List ℕ))) (split : ℕ) (old new : Option (List ℕ)) (status : Status) → WhereTold input cubes (λ text cube_text. IsAccepted format text cube_text split prepared) → AnswersFound format prepared.instance prepared.pieces old new status → ReportsFound format input cubes split old new status
found_reported format prepared input cubes split old new status told h = record {
  found = h.found;
  ends = h.ends;
  writes = h.writes;
  right = told_weaker input cubes (λ text cube_text. IsAccepted format text cube_text split prepared) (λ text cube_text. IsFoundIn format text cube_text split h.found)
      (λ text cube_text accepted. (prepared.instance, accepted.0, prepared.pieces, accepted.1, accepted.2, h.right)) told;
}

pub found_report_of : {E : Type 0} (r : Result Ran E) (format : Format) (prepared : Prepared) (input : Option (List ℕ)) (cubes : Option (Option (List ℕ))) (split : ℕ) (old new : Option (List ℕ)) → WhereTold input cubes (λ text cube_text. IsAccepted format text cube_text split prepared) → IfOk r (λ ran. ran.cut ≡ true → AnswersFound format prepared.instance prepared.pieces old new ran.status) → IfOk r (λ ran. ran.cut ≡ true → ReportsFound format input cubes split old new ran.status)
found_report_of (Ok ran) format prepared input cubes split old new told h = λ cut. found_reported format prepared input cubes split old new ran.status told (h cut)
found_report_of (Err e) format prepared input cubes split old new told h = tt

-- ---- the report

pub answer_reported : (format : Format) (found : Prepared) (input : Option (List ℕ)) (cubes : Option (Option (List ℕ))) (split : ℕ) (old new : Option (List ℕ)) (status : Status) → WhereTold input cubes (λ text cube_text. IsAccepted format text cube_text split found) → Answers format found.instance old new status → Reports format input cubes split old new status
answer_reported format found input cubes split old new status told h = record {
  outcome = h.outcome;
  ends = h.ends;
  writes = h.writes;
  right = told_weaker input cubes (λ text cube_text. IsAccepted format text cube_text split found) (λ text cube_text. IsOutcome format text cube_text split h.outcome)
      (λ text cube_text accepted. inr (found.instance, accepted.0, accepted.1, inr (accepted.2.0, h.right))) told;
}

pub refusal_reported : (format : Format) (input : Option (List ℕ)) (cubes : Option (Option (List ℕ))) (split : ℕ) (old new : Option (List ℕ)) (status : Status) (refusal : Refusal) → WhereTold input cubes (λ text cube_text. IsOutcome format text cube_text split (Refused refusal)) → status ≡ Unsupported → Appends old new (refusal_report refusal) → Reports format input cubes split old new status
refusal_reported format input cubes split old new status refusal told is written = record {
  outcome = Refused refusal;
  ends = is;
  writes = written;
  right = told;
}

pub both_told : {E : Type 0} (r : Result Ran E) (P Q : Ran → Type 0) → IfOk r P → IfOk r Q → IfOk r (λ ran. P ran × Q ran)
both_told (Ok ran) P Q p q = (p, q)
both_told (Err e) P Q p q = tt

-- ---- the same of what a call answers

pub satisfiable_answers : {E : Type 0} (r : Result Status E) (format : Format) (p : Problem) (held : Option Solution) (old new : Option (List ℕ)) (a : List Bool) → HoldsLeast p held → Some a ≡ option_map (λ s. s.assignment) held → is_some p.objective ≡ false → IfOk r (λ status. status ≡ Satisfiable) → OnOk r (Appends old new (satisfiable_report format a)) → IfOk r (Answers format p old new)
satisfiable_answers (Ok status) format p held old new a least is_a none is written = answer_satisfiable format p held old new status a least is_a none is written
satisfiable_answers (Err e) format p held old new a least is_a none is written = tt

pub optimum_answers : {E : Type 0} (r : Result Status E) (format : Format) (p : Problem) (held : Option Solution) (old new : Option (List ℕ)) (a : List Bool) (z : ℤ) → HoldsLeast p held → Some a ≡ option_map (λ s. s.assignment) held → Some z ≡ option_map (λ s. s.cost) held → is_some p.objective ≡ true → IfOk r (λ status. status ≡ Optimum) → OnOk r (Appends old new (optimum_report format z a)) → IfOk r (Answers format p old new)
optimum_answers (Ok status) format p held old new a z least is_a is_z some is written = answer_optimum format p held old new status a z least is_a is_z some is written
optimum_answers (Err e) format p held old new a z least is_a is_z some is written = tt

pub answers_report : {E : Type 0} (r : Result Ran E) (format : Format) (found : Prepared) (input : Option (List ℕ)) (cubes : Option (Option (List ℕ))) (split : ℕ) (old new : Option (List ℕ)) → WhereTold input cubes (λ text cube_text. IsAccepted format text cube_text split found) → IfOk r (λ ran. ran.cut ≡ false → ran.status ≢ Unknown → Answers format found.instance old new ran.status) → IfOk r (λ ran. ran.cut ≡ false → ran.status ≢ Unknown → Reports format input cubes split old new ran.status)
answers_report (Ok ran) format found input cubes split old new told h = λ whole known. answer_reported format found input cubes split old new ran.status told (h whole known)
answers_report (Err e) format found input cubes split old new told h = tt

-- ---- whether the cube file could be read

at_writing : (r : Result Ran RunFault) → IfErr r (λ e. e ≡ fault.Write) → IsErrOf r fault.ReadCubes → ⊥
at_writing (Ok ran) written failed = let bad : Ok ran ≡ Err fault.ReadCubes = failed in absurd cc
at_writing (Err error) written failed =
    let is : error ≡ fault.Write = written in
    let other : Err error ≡ Err fault.ReadCubes = failed in absurd cc

-- a run that solved its instance has read the cube file
pub cubes_read : (r : Result Ran RunFault) (found : Result Prepared PrepareError) (prepared : Prepared) → found ≡ Ok prepared → IfErr r (λ e. e ≡ fault.Write) → IsTrue (stops_at_cubes found) ↔ IsErrOf r fault.ReadCubes
cubes_read r (Ok same) prepared is written = (λ stopped. absurd (false≢true stopped), λ failed. absurd (at_writing r written failed))
cubes_read r (Err error) prepared is written = let bad : Err error ≡ Ok prepared = is in absurd cc

-- a run that solved nothing tells whether the cube file could not be read
pub cubes_unread : (r : Result Ran RunFault) (found : Result Prepared PrepareError) (error : PrepareError) → found ≡ Err error → (error ≡ stop.ReadCubes) ↔ IsErrOf r fault.ReadCubes → IsTrue (stops_at_cubes found) ↔ IsErrOf r fault.ReadCubes
cubes_unread r (Ok prepared) error is told = let bad : Ok prepared ≡ Err error = is in absurd cc
cubes_unread r (Err stop.ReadCubes) error is told = (λ stopped. told.0 (let same : error ≡ stop.ReadCubes = cc in same), λ failed. refl)
cubes_unread r (Err stop.ReadInput) error is told = (λ stopped. absurd (false≢true stopped), λ failed. (let other : error ≡ stop.ReadCubes = told.1 failed in absurd cc))
cubes_unread r (Err stop.Memory) error is told = (λ stopped. absurd (false≢true stopped), λ failed. (let other : error ≡ stop.ReadCubes = told.1 failed in absurd cc))
cubes_unread r (Err (stop.Refused refusal)) error is told = (λ stopped. absurd (false≢true stopped), λ failed. (let other : error ≡ stop.ReadCubes = told.1 failed in absurd cc))

-- what follows without a budget
pub where_none : {X : Type 0} (o : Option X) (P Q : Type 0) → (P → Q) → IfNone o P → IfNone o Q
where_none None P Q h p = h p
where_none (Some x) P Q h p = tt
