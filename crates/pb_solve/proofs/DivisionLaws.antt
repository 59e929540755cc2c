-- The outcome does not depend on accepted cubes and splits.
use Rattle.std.proofs.Common.{◌≡◌, ℕ, Bool, false, List, [], length, Option, None, Some, is_some, refl, sym, ◌∙◌, ap, ap₂, subst, arith, inl, inr}
use Rattle.std.proofs.lemmas.Bool.{true≢false, false≢true}
use Rattle.pb_inst.specs.Literal.{Literal}
use Rattle.pb_inst.specs.Problem.{Problem}
use Rattle.pb_inst.specs.Meaning.{IsFeasible, cost}
use Rattle.pb_inst.specs.Order.{IsLeast}
use Rattle.pb_inst.proofs.OrderProofs.{least_is_unique}
use Rattle.pb_read.specs.declared.fault.ReadFault.{ReadFault}
use Rattle.pb_report.specs.declared.ends.Refusal.{Refusal}
use Rattle.pb_report.specs.declared.ends.Refusal.TheVariants.{Input, Cubes, Split, TooManyCubes}
use Rattle.pb_read.specs.Format.{text_refusal}
use Rattle.pb_solve.specs.Texts.{cube_text_refusal}
use Rattle.pb_solve.specs.Outcome.{Outcome, Refused, Infeasible, Feasible, Optimal, IsAnswer, IsOutcomeOn, IsDivisionRefused, IsDivisionAccepted, IsFileRefused, FileSpells}
use Rattle.pb_solve.specs.Laws.{refuses_division, DivisionChangesNothing, OneOutcome, OutcomeIsOfTextAlone}
use Rattle.pb_solve.proofs.TextLaws.{not_both, one_spelling, same_fault, cubes_not_both, one_cube_list}

-- ---- accepted cubes and splits can be left out

-- the text's own cubes are not too many alone
input_accepted : (p : Problem) (input_cubes : List (List Literal)) (cube_text : Option (List ℕ)) (split : ℕ) → IsDivisionAccepted p input_cubes cube_text split → IsDivisionAccepted p input_cubes None 0
input_accepted p input_cubes cube_text split accepted = (
  [],
  refl,
  λ split_bad. absurd (let h = split_bad.0 in let bad : ⊥ = omega arith in bad),
  λ many. accepted.3 (omega (arith, many)),
)

-- what is refused of the division is no other refusal
refuses_it : (p : Problem) (input_cubes : List (List Literal)) (cube_text : Option (List ℕ)) (split : ℕ) (refusal : Refusal) → IsDivisionRefused p input_cubes cube_text split refusal → refuses_division (Refused refusal) ≡ false → ⊥
refuses_it p input_cubes cube_text split (Input fault) refused kept = refused
refuses_it p input_cubes cube_text split (Cubes fault) refused kept = true≢false kept
refuses_it p input_cubes cube_text split Split refused kept = true≢false kept
refuses_it p input_cubes cube_text split TooManyCubes refused kept = true≢false kept

-- so the answer is given
answered : (p : Problem) (input_cubes : List (List Literal)) (cube_text : Option (List ℕ)) (split : ℕ) (outcome : Outcome) → IsOutcomeOn p input_cubes cube_text split outcome → refuses_division outcome ≡ false → IsDivisionAccepted p input_cubes cube_text split × IsAnswer p outcome
answered p input_cubes cube_text split outcome (inl refused) kept = absurd (refuses_it p input_cubes cube_text split refused.0 refused.2 (sym (ap refuses_division refused.1) ∙ kept))
answered p input_cubes cube_text split outcome (inr given) kept = given

pub division_changes_nothing : DivisionChangesNothing
division_changes_nothing format text cube_text split outcome (inl refused) kept = inl refused
division_changes_nothing format text cube_text split outcome (inr (p, input_cubes, spells, on)) kept =
    let given = answered p input_cubes cube_text split outcome on kept in
    inr (p, input_cubes, spells, inr (input_accepted p input_cubes cube_text split given.0, given.1))

-- ---- what is given has one outcome

-- what the file spells is not refused
spelled_or_refused : (vars : ℕ) (cube_text : Option (List ℕ)) (cubes : List (List Literal)) (fault : ReadFault) → FileSpells vars cube_text cubes → IsFileRefused vars cube_text fault → ⊥
spelled_or_refused vars None cubes fault h k = k
spelled_or_refused vars (Some text) cubes fault h k = cubes_not_both vars text cubes fault h k

one_file_fault : (vars : ℕ) (cube_text : Option (List ℕ)) (f g : ReadFault) → IsFileRefused vars cube_text f → IsFileRefused vars cube_text g → f ≡ g
one_file_fault vars None f g h k = absurd h
one_file_fault vars (Some text) f g h k = same_fault (cube_text_refusal vars text) f g h k

one_file : (vars : ℕ) (cube_text : Option (List ℕ)) (cubes cubes' : List (List Literal)) → FileSpells vars cube_text cubes → FileSpells vars cube_text cubes' → cubes ≡ cubes'
one_file vars None cubes cubes' h k = h ∙ sym k
one_file vars (Some text) cubes cubes' h k = one_cube_list vars text cubes cubes' h k

one_refusal : (p : Problem) (input_cubes : List (List Literal)) (cube_text : Option (List ℕ)) (split : ℕ) (r s : Refusal) → IsDivisionRefused p input_cubes cube_text split r → IsDivisionRefused p input_cubes cube_text split s → r ≡ s
one_refusal p input_cubes cube_text split (Input f) s h k = absurd h
one_refusal p input_cubes cube_text split (Cubes f) (Input g) h k = absurd k
one_refusal p input_cubes cube_text split (Cubes f) (Cubes g) h k = ap Cubes (one_file_fault p.vars cube_text f g h k)
one_refusal p input_cubes cube_text split (Cubes f) Split h k = absurd (spelled_or_refused p.vars cube_text k.0.0 f k.0.1 h)
one_refusal p input_cubes cube_text split (Cubes f) TooManyCubes h k = absurd (spelled_or_refused p.vars cube_text k.0 f k.1 h)
one_refusal p input_cubes cube_text split Split (Input g) h k = absurd k
one_refusal p input_cubes cube_text split Split (Cubes g) h k = absurd (spelled_or_refused p.vars cube_text h.0.0 g h.0.1 k)
one_refusal p input_cubes cube_text split Split Split h k = refl
one_refusal p input_cubes cube_text split Split TooManyCubes h k = absurd (k.2 h.1)
one_refusal p input_cubes cube_text split TooManyCubes (Input g) h k = absurd k
one_refusal p input_cubes cube_text split TooManyCubes (Cubes g) h k = absurd (spelled_or_refused p.vars cube_text h.0 g h.1 k)
one_refusal p input_cubes cube_text split TooManyCubes Split h k = absurd (h.2 k.1)
one_refusal p input_cubes cube_text split TooManyCubes TooManyCubes h k = refl

accepted_or_refused : (p : Problem) (input_cubes : List (List Literal)) (cube_text : Option (List ℕ)) (split : ℕ) (r : Refusal) → IsDivisionAccepted p input_cubes cube_text split → IsDivisionRefused p input_cubes cube_text split r → ⊥
accepted_or_refused p input_cubes cube_text split (Input f) h k = k
accepted_or_refused p input_cubes cube_text split (Cubes f) h k = spelled_or_refused p.vars cube_text h.0 f h.1 k
accepted_or_refused p input_cubes cube_text split Split h k = h.2 k.1
accepted_or_refused p input_cubes cube_text split TooManyCubes h k =
    let same : length k.0 ≡ length h.0 = ap length (one_file p.vars cube_text k.0 h.0 k.1 h.1) in
    let many = k.3 in
    h.3 (omega arith)

-- an instance has one answer
none_is_least : (p : Problem) (a : List Bool) → ((b : List Bool) → length b ≡ p.vars → IsFeasible p b → ⊥) → IsLeast p a → ⊥
none_is_least p a none least = none a least.for_all_variables least.feasible

one_answer : (p : Problem) (first second : Outcome) → IsAnswer p first → IsAnswer p second → first ≡ second
one_answer p (Refused r) second h k = absurd h
one_answer p Infeasible (Refused r) h k = absurd k
one_answer p Infeasible Infeasible h k = refl
one_answer p Infeasible (Feasible b) h k = absurd (none_is_least p b h k.1)
one_answer p Infeasible (Optimal y b) h k = absurd (none_is_least p b h k.1)
one_answer p (Feasible a) (Refused r) h k = absurd k
one_answer p (Feasible a) Infeasible h k = absurd (none_is_least p a k h.1)
one_answer p (Feasible a) (Feasible b) h k = ap Feasible (least_is_unique p a b h.1 k.1)
one_answer p (Feasible a) (Optimal y b) h k = absurd (false≢true (sym (ap is_some h.0) ∙ k.0))
one_answer p (Optimal z a) (Refused r) h k = absurd k
one_answer p (Optimal z a) Infeasible h k = absurd (none_is_least p a k h.1)
one_answer p (Optimal z a) (Feasible b) h k = absurd (false≢true (sym (ap is_some k.0) ∙ h.0))
one_answer p (Optimal z a) (Optimal y b) h k =
    let same = least_is_unique p a b h.1 k.1 in
    ap₂ Optimal (h.2 ∙ ap (λ (x : List Bool). cost p x) same ∙ sym k.2) same

one_outcome_on : (p : Problem) (input_cubes : List (List Literal)) (cube_text : Option (List ℕ)) (split : ℕ) (first second : Outcome) → IsOutcomeOn p input_cubes cube_text split first → IsOutcomeOn p input_cubes cube_text split second → first ≡ second
one_outcome_on p input_cubes cube_text split first second (inl (r, is, h)) (inl (s, is', k)) = is ∙ ap Refused (one_refusal p input_cubes cube_text split r s h k) ∙ sym is'
one_outcome_on p input_cubes cube_text split first second (inl (r, is, h)) (inr (accepted, k)) = absurd (accepted_or_refused p input_cubes cube_text split r accepted h)
one_outcome_on p input_cubes cube_text split first second (inr (accepted, h)) (inl (s, is', k)) = absurd (accepted_or_refused p input_cubes cube_text split s accepted k)
one_outcome_on p input_cubes cube_text split first second (inr (accepted, h)) (inr (accepted', k)) = one_answer p first second h k

pub one_outcome : OneOutcome
one_outcome format text cube_text split first second (inl (f, is, h)) (inl (g, is', k)) = is ∙ ap (λ e. Refused (Input e)) (same_fault (text_refusal format text) f g h k) ∙ sym is'
one_outcome format text cube_text split first second (inl (f, is, h)) (inr (q, input_cubes', spells', k)) = absurd (not_both format text q input_cubes' f spells' h)
one_outcome format text cube_text split first second (inr (p, input_cubes, spells, h)) (inl (g, is', k)) = absurd (not_both format text p input_cubes g spells k)
one_outcome format text cube_text split first second (inr (p, input_cubes, spells, h)) (inr (q, input_cubes', spells', k)) =
    let same = one_spelling format text q p input_cubes' input_cubes spells' spells in
    one_outcome_on p input_cubes cube_text split first second h
    (subst (λ (x : Problem). IsOutcomeOn x input_cubes cube_text split second) same.0
    (subst (λ (cubes : List (List Literal)). IsOutcomeOn q cubes cube_text split second) same.1 k))

pub outcome_is_of_text_alone : OutcomeIsOfTextAlone
outcome_is_of_text_alone format text cubes cubes' split split' first second h accepted k accepted' =
    one_outcome format text None 0 first second
    (division_changes_nothing format text cubes split first h accepted)
    (division_changes_nothing format text cubes' split' second k accepted')
