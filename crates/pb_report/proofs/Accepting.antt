-- Why a text that claims something is accepted.
use Rattle.std.proofs.Common.{◌≡◌, ◌≢◌, ℕ, zero, suc, ◌-◌, ◌^◌, ◌<◌, ◌≤◌, Bool, true, false, List, [], ◌∷◌, length, get_or, replicate, None, Some, Result, Ok, Err, IsOk, IfErr, refl, sym, ◌∙◌, arith}
use Rattle.std.specs.Prelude.{All, AllPairs, slice_set}
use Rattle.std.proofs.lemmas.Bool.{false≢true}
use Rattle.std.proofs.lemmas.List.{get_or-set_other, length-replicate, length-set}
use Rattle.pb_inst.specs.Literal.{Literal}
use Rattle.pb_read.specs.declared.format.Format.{Format}
use Rattle.pb_report.specs.declared.claims.Claim.{Claim}
use Rattle.pb_report.specs.declared.claims.Claim.TheVariants.{Optimum, Satisfiable, Unsatisfiable, Unknown, Unsupported}
use Rattle.pb_report.specs.declared.claims.Witness.{Witness}
use Rattle.pb_report.specs.declared.values.Values.{Values}
use Rattle.pb_report.specs.Claims.{status_of, witness_of}
use Rattle.pb_report.specs.Draft.{Follow, ValuesFollow, fresh_draft, has_assignment}
use Rattle.pb_report.specs.Lines.{rows, said, is_cost, is_values}
use Rattle.pb_report.specs.Report.{AreNarrow, AreValuesOf, Claims}
use Rattle.pb_report.specs.Values.{Complete, after_literal, fresh_values, has_end, written}
use Rattle.pb_report.proofs.Lines.{all_costs}
use Rattle.pb_report.proofs.Taking.{other_place}

-- each of the literals is of a variable from 1 to n that has no value
abbrev AreUnseen : ℕ → List Bool → List Literal → Type 0
AreUnseen n seen lits = All (λ l. (1 ≤ l.var) × (l.var ≤ n) × (get_or seen (l.var - 1) false ≡ false)) lits

-- no two are of one variable
abbrev AreApart : List Literal → Type 0
AreApart lits = AllPairs (λ l m. l.var ≢ m.var) lits

-- what is seen of the first leaves the others unseen
still_unseen : (n : ℕ) (seen : List Bool) (l : Literal) (lits : List Literal) → AreUnseen n seen (l ∷ lits) → AreApart (l ∷ lits) → AreUnseen n (slice_set seen (l.var - 1) true) lits
still_unseen n seen l lits unseen apart k d within =
    let first = unseen 0 d (omega arith) in
    let one = unseen (suc k) d (omega arith) in
    let other : l.var ≢ (get_or lits k d).var = apart 0 (suc k) d (omega arith) (omega arith) in
    (one.0, one.1, get_or-set_other seen (l.var - 1) ((get_or lits k d).var - 1) true false (other_place (get_or lits k d).var l.var one.0 first.0 (λ e. other (sym e))) ∙ one.2)

-- literals that make every variable true or false can be taken, and then the end where there is one
complete : (n : ℕ) (ended : Bool) (lits : List Literal) (v : Values) → n < 2 ^ 32 → length v.given ≡ n → v.ended ≡ false → length lits ≡ v.left → ended ≡ has_end v.format → AreUnseen n v.seen lits → AreApart lits → Complete (written lits ended) v
complete n true [] v small given unended left ends unseen apart = (unended, (sym left, ends))
complete n false [] v small given unended left ends unseen apart = (sym left, unended ∙ ends)
complete n ended (l ∷ lits) v small given unended left ends unseen apart =
    let one = unseen 0 l (omega arith) in (
      unended,
      one.0,
      omega (arith, one.1),
      omega (arith, one.1, given),
      one.2,
      omega (arith, left),
      complete n ended lits (after_literal v l.positive l.var) small (length-set v.given (l.var - 1) l.positive ∙ given) unended (omega (arith, left)) ends (still_unseen n v.seen l lits unseen apart) (λ i j d before within. apart (suc i) (suc j) d (omega arith) (omega arith)),
    )

none_seen : (n k : ℕ) → get_or (replicate n false) k false ≡ false
none_seen zero k = refl
none_seen (suc n) zero = refl
none_seen (suc n) (suc k) = none_seen n k

values_follow : (format : Format) (n : ℕ) (lines : List (List (List ℕ))) (w : Witness) → n < 2 ^ 32 → AreValuesOf format n lines (Some w) → ValuesFollow true lines (fresh_values format n) None
values_follow format n lines w small h =
    let spelled = h.1 in (
      (
        written spelled.lits (has_end format),
        spelled.spelled,
        complete n (has_end format) spelled.lits (fresh_values format n) small (length-replicate n false) refl spelled.count refl
            (λ k d within. let range = spelled.are_of.in_range k d within in (range.0, range.1, none_seen n ((get_or spelled.lits k d).var - 1)))
            spelled.are_of.once,
      ),
      λ _. h.0,
    )

claim_follows : (format : Format) (n : ℕ) (lines : List (List (List ℕ))) (claim : Claim) → n < 2 ^ 32 → AreValuesOf format n lines (witness_of claim) → ValuesFollow (has_assignment (status_of claim)) lines (fresh_values format n) None
claim_follows format n lines (Optimum w) small h = values_follow format n lines w small h
claim_follows format n lines (Satisfiable w) small h = values_follow format n lines w small h
claim_follows format n lines Unsatisfiable small h = (h, refl)
claim_follows format n lines Unknown small h = (h, refl)
claim_follows format n lines Unsupported small h = (h, refl)

-- the lines of a text that claims something can be taken from the first on
pub follows : (format : Format) (n : ℕ) (text : List ℕ) (claim : Claim) → n < 2 ^ 32 → Claims format n text claim → AreNarrow text → Follow (status_of claim) (rows text) (fresh_draft format n)
follows format n text claim small h narrow =
    let numbers = all_costs (said is_cost (rows text)) h.cost h.last_cost in
    record {
      known = h.known;
      one_status = h.status;
      costs = λ k d within. let number = numbers k d within in (number.0, number.1, narrow k d within number.0 number.1);
      values = claim_follows format n (said is_values (rows text)) claim small h.values;
    }

pub no_fault : {T E : Type 0} (P : E → Type 0) (r : Result T E) → IsOk r → IfErr r P
no_fault P (Ok x) is = tt
no_fault P (Err e) is = absurd (false≢true is)
