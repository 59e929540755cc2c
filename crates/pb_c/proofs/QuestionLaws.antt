-- Questions as C asks them: the literals of numbers, one by one, and why a question is refused.
use Rattle.std.proofs.Common.{◌≡◌, ℕ, ◌+◌, ◌<◌, ℤ, List, [], ◌∷◌, ◌++◌, length, map, take, get_or, Result, Ok, Err, inl, inr, sym, subst}
use Rattle.std.specs.Prelude.{IfErr}
use Rattle.pb_inst.specs.declared.faults.InstFault.TheVariants as refused
use Rattle.pb_inst.specs.Literal.{Literal}
use Rattle.pb_session.specs.declared.faults.SessionFault.{SessionFault}
use Rattle.pb_session.specs.declared.faults.SessionFault.TheVariants.{Statement, Unended, Length}
use Rattle.pb_session.specs.Asked.{IsRefusal}
use Rattle.pb_session.specs.Told.{Told}
use Rattle.pb_c.specs.Called.{number_of}
use Rattle.pb_c.specs.Questions.{RefusesQuestion}
use Rattle.pb_c.proofs.ClauseLaws.{one_literal_more}

-- what the session refuses, the question is refused for
pub refusal_of_question : (old : Told) (numbers : List ℤ) (fault : SessionFault) → IsRefusal old fault → RefusesQuestion old numbers fault
refusal_of_question old numbers Unended why = why
refusal_of_question old numbers Length why = why
refusal_of_question old numbers (Statement refused.BadVariable) why = inr why
refusal_of_question old numbers (Statement refused.TooLarge) why = why
refusal_of_question old numbers (Statement refused.TooMany) why = why
refusal_of_question old numbers (Statement refused.Memory) why = tt

-- the same of what was said, where the session is as it was
pub refused_question : {A : Type 0} (old now : Told) (numbers : List ℤ) (said : Result A SessionFault) → now ≡ old → IfErr said (IsRefusal now) → IfErr said (RefusesQuestion old numbers)
refused_question old now numbers (Ok answer) same why = tt
refused_question old now numbers (Err fault) same why = refusal_of_question old numbers fault (subst (λ (t : Told). IsRefusal t fault) same why)

-- one number more, and its literal, at the end of the room
pub one_pushed : (numbers : List ℤ) (i : ℕ) (n : ℤ) (room new : List Literal) (l : Literal) → i < length numbers → n ≡ get_or numbers i n → map number_of room ≡ take i numbers → number_of l ≡ n
    → new ≡ room ++ l ∷ [] → map number_of new ≡ take (i + 1) numbers
one_pushed numbers i n room new l within read before is pushed = subst (λ (ls : List Literal). map number_of ls ≡ take (i + 1) numbers) (sym pushed) (one_literal_more numbers i n room l within read before is)
