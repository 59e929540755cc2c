-- Clauses as C tells them: the literals of numbers, one by one.
use Rattle.std.proofs.Common.{◌≡◌, ◌≢◌, ◌↔◌, ℕ, ◌+◌, ◌<◌, ◌≤◌, ℤ, pos, unsigned_abs, List, [], ◌∷◌, ◌++◌, length, map, take, get_or, Bool, false, IsTrue, Result, Ok, Err, refl, sym, ap, subst, ◌∙◌, arith}
use Rattle.std.specs.Prelude.{IfErr, IsErrOf}
use Rattle.std.proofs.lemmas.Bool.{false≢true}
use Rattle.std.proofs.lemmas.List.{length-map, map-append, take_more}
use Rattle.pb_inst.specs.declared.limits.TheConstants.{SUM_BOUND}
use Rattle.pb_inst.specs.declared.faults.InstFault.TheVariants as refused
use Rattle.pb_inst.specs.Limits.{total_magnitude, HasRoom}
use Rattle.pb_inst.specs.Problem.{statements}
use Rattle.pb_inst.proofs.SumLemmas.{total_magnitude-units}
use Rattle.pb_inst.specs.declared.constraints.Term.{Term}
use Rattle.pb_inst.specs.Constraints.{unit_term}
use Rattle.pb_inst.specs.Literal.{Literal}
use Rattle.pb_session.specs.declared.faults.SessionFault.{SessionFault}
use Rattle.pb_session.specs.declared.faults.SessionFault.TheVariants.{Statement, Unended, Length}
use Rattle.pb_session.specs.Told.{Told}
use Rattle.pb_c.specs.Called.{number_of, RefusesClause}

-- no term is told
pub none_told : (terms : List Term) (told : Bool) → (IsTrue told ↔ (terms ≢ [])) → told ≡ false → terms ≡ []
none_told [] told is nothing = refl
none_told (t ∷ ts) told is nothing = absurd (false≢true (sym nothing ∙ is.1 (λ empty. cc)))

-- one number more, and its literal
pub one_literal_more : (numbers : List ℤ) (i : ℕ) (n : ℤ) (lits : List Literal) (l : Literal) → i < length numbers → n ≡ get_or numbers i n → map number_of lits ≡ take i numbers → number_of l ≡ n
    → map number_of (lits ++ l ∷ []) ≡ take (i + 1) numbers
one_literal_more numbers i n lits l within read before is =
    map-append number_of lits (l ∷ []) ∙ ap (λ (ns : List ℤ). ns ++ number_of l ∷ []) before ∙ ap (λ (m : ℤ). take i numbers ++ m ∷ []) (is ∙ read) ∙ sym (take_more numbers i n within)

-- one term more, which is that of the literal
pub one_unit_more : (first now new : Told) (lits : List Literal) (l : Literal) → now ≡ record first { terms = map unit_term lits } → new ≡ record now { terms = now.terms ++ record { coef = pos 1; lit = l } ∷ [] }
    → new ≡ record first { terms = map unit_term (lits ++ l ∷ []) }
one_unit_more first now new lits l before is =
    is ∙ ap (λ (t : Told). record t { terms = t.terms ++ unit_term l ∷ [] }) before ∙ ap (λ (ts : List Term). record first { terms = ts }) (sym (map-append unit_term lits (l ∷ [])))

-- where the sum of a clause's literals is refused, the clause is
pub refused_at_end : (first now : Told) (lits : List Literal) (numbers : List ℤ) (said : Result (Unit {0}) SessionFault)
    → map number_of lits ≡ numbers → now ≡ record first { terms = map unit_term lits }
    → (IsErrOf said (Statement refused.TooLarge) ↔ (SUM_BOUND < total_magnitude now.terms + unsigned_abs (pos 1)))
    → (IsErrOf said (Statement refused.TooMany) ↔ ((total_magnitude now.terms + unsigned_abs (pos 1) ≤ SUM_BOUND) × (¬ HasRoom (statements now.problem) (length now.terms))))
    → IfErr said (λ fault. (fault ≢ Statement refused.BadVariable) × (fault ≢ Unended) × (fault ≢ Length))
    → IfErr said (RefusesClause first numbers)
refused_at_end first now lits numbers (Ok u) are told large many other = tt
refused_at_end first now lits numbers (Err Unended) are told large many other = absurd (other.1 refl)
refused_at_end first now lits numbers (Err Length) are told large many other = other.2 refl
refused_at_end first now lits numbers (Err (Statement refused.BadVariable)) are told large many other = absurd (other.0 refl)
refused_at_end first now lits numbers (Err (Statement refused.Memory)) are told large many other = tt
refused_at_end first now lits numbers (Err (Statement refused.TooLarge)) are told large many other =
    let over = large.0 refl in
    let sum = ap (λ (t : Told). total_magnitude t.terms) told ∙ total_magnitude-units lits in
    let count = sym (length-map lits number_of) ∙ ap length are in
    omega (arith, over, sum, count)
refused_at_end first now lits numbers (Err (Statement refused.TooMany)) are told large many other = λ room.
    let count = ap (λ (t : Told). length t.terms) told ∙ length-map lits unit_term ∙ sym (length-map lits number_of) ∙ ap length are in
    (many.0 refl).1 (subst (λ (t : Told). HasRoom (statements t.problem) (length now.terms)) (sym told) (subst (λ (n : ℕ). HasRoom (statements first.problem) n) (sym count) room))
