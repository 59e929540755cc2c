-- What one more report of a part adds.
use Rattle.std.proofs.Common.{◌≡◌, ◌≢◌, ℕ, ◌<◌, List, [], ◌∷◌, ◌++◌, inl, inr, get_or, Option, None, Some, refl, sym, ◌∙◌, ap, subst, arith}
use Rattle.std.specs.Prelude.{All, Any, slice_set}
use Rattle.std.specs.Option.{IfSome}
use Rattle.std.proofs.lemmas.Bool.{cases_eq}
use Rattle.std.proofs.lemmas.List.{get_or-set_other, get_or-set_same, length-set, map-append}
use Rattle.std.proofs.lemmas.List.Elements.{All-nil, All-push}
use Rattle.std.proofs.lemmas.List.Quantifiers.{Any-push, all_pairs_push}
use Rattle.pb_inst.specs.Problem.{Problem}
use Rattle.pb_inst.specs.Incumbent.{Solution}
use Rattle.pb_cubes.specs.First.{IsFirst}
use Rattle.pb_report.specs.Claims.{witness_of}
use Rattle.pb_parts.specs.declared.parts.Division.{Division}
use Rattle.pb_parts.specs.declared.parts.PartReport.{PartReport}
use Rattle.pb_join.specs.declared.parts.states.ReportState.{ReportState}
use Rattle.pb_join.specs.declared.parts.states.ReportState.TheVariants.{Missing, Cut, Ended}
use Rattle.pb_join.specs.Pieces.{found_in}
use Rattle.pb_join.specs.Joining.{IsWitness}
use Rattle.pb_join.specs.Parts.{AreGatheredParts, AreReportStates, IsPartClaim, IsSameDivision, IsReportBy, IsReportState, all_found_in_parts, first_division}
use Rattle.pb_join.proofs.Steps.{any_still}

-- what the report of a task tells stays where another report is of another task
state_still : (parts : List PartReport) (r : PartReport) (task : ℕ) (state : ReportState) → r.heading.task ≢ task → IsReportState parts task state → IsReportState (parts ++ r ∷ []) task state
state_still parts r task Missing other h = All-push (λ s. s.heading.task ≢ task) parts r h other
state_still parts r task Cut other h = any_still (λ s. (s.heading.task ≡ task) × IsReportBy s.heading Cut) parts r h
state_still parts r task Ended other h = any_still (λ s. (s.heading.task ≡ task) × IsReportBy s.heading Ended) parts r h

-- what the report tells of its own task
state_here : (parts : List PartReport) (r : PartReport) (task : ℕ) (state : ReportState) → r.heading.task ≡ task → IsReportBy r.heading state → IsReportState (parts ++ r ∷ []) task state
state_here parts r task Missing here by = absurd by
state_here parts r task Cut here by = Any-push (λ s. (s.heading.task ≡ task) × IsReportBy s.heading Cut) parts r (here, by)
state_here parts r task Ended here by = Any-push (λ s. (s.heading.task ≡ task) × IsReportBy s.heading Ended) parts r (here, by)

state_more : (tasks : ℕ) (parts : List PartReport) (r : PartReport) (states : List ReportState) (state : ReportState) (task : ℕ) → AreReportStates tasks parts states → r.heading.task < tasks → IsReportBy r.heading state → task < tasks
    → IsReportState (parts ++ r ∷ []) task (get_or (slice_set states r.heading.task state) task Missing)
state_more tasks parts r states state task h within by below = elim (cases_eq task r.heading.task) [
  | inl same ↦
      let here : get_or (slice_set states r.heading.task state) task Missing ≡ state = ap (λ n. get_or (slice_set states r.heading.task state) n Missing) same ∙ get_or-set_same states r.heading.task state Missing (let count = h.count in omega arith) in
      subst (IsReportState (parts ++ r ∷ []) task) (sym here) (state_here parts r task state (sym same) by)
  | inr other ↦
      subst (IsReportState (parts ++ r ∷ []) task) (sym (get_or-set_other states r.heading.task task state Missing other)) (state_still parts r task (get_or states task Missing) (λ e. other (sym e)) (h.each task below))
]

-- where a task has a report it is among these
pub reported : (parts : List PartReport) (task : ℕ) (state : ReportState) → state ≢ Missing → IsReportState parts task state → Any (λ s. s.heading.task ≡ task) parts
reported parts task Missing other h = absurd (other refl)
reported parts task Cut other (k, s, within, at, its) = (k, s, within, at, its.0)
reported parts task Ended other (k, s, within, at, its) = (k, s, within, at, its.0)

-- the first division stays, and each report has it
pub first_more : (parts : List PartReport) (r : PartReport) → IfSome (first_division parts) (λ d. d ≡ r.heading.division) → first_division (parts ++ r ∷ []) ≡ Some r.heading.division
first_more [] r same = refl
first_more (x ∷ xs) r same = ap Some same

divisions_more : (digest : List ℕ) (tasks : ℕ) (parts : List PartReport) (r : PartReport) → All (λ s. IsSameDivision digest tasks (first_division parts) s.heading.division) parts → IsSameDivision digest tasks (first_division parts) r.heading.division
    → All (λ s. IsSameDivision digest tasks (first_division (parts ++ r ∷ [])) s.heading.division) (parts ++ r ∷ [])
divisions_more digest tasks [] r all is =
    All-push (λ s. IsSameDivision digest tasks (Some r.heading.division) s.heading.division) [] r (All-nil (λ s. IsSameDivision digest tasks (Some r.heading.division) s.heading.division))
    (record { same_instance = is.same_instance; some_pieces = is.some_pieces; same_tasks = is.same_tasks; same_division = refl })
divisions_more digest tasks (x ∷ xs) r all is = All-push (λ s. IsSameDivision digest tasks (Some x.heading.division) s.heading.division) (x ∷ xs) r all is

pub gathered_more : (p : Problem) (digest : List ℕ) (tasks : ℕ) (parts : List PartReport) (r : PartReport) (before : Option Division) (held after : Option Solution) (states : List ReportState) (state : ReportState)
    → AreGatheredParts p digest tasks parts before held states → IsSameDivision digest tasks (first_division parts) r.heading.division → r.heading.task < tasks → get_or states r.heading.task Missing ≡ Missing
    → IsPartClaim r.claim → IfSome (witness_of r.claim) (IsWitness p) → IsFirst (all_found_in_parts p parts ++ found_in p r.claim ∷ []) after → IsReportBy r.heading state
    → AreGatheredParts p digest tasks (parts ++ r ∷ []) (Some r.heading.division) after (slice_set states r.heading.task state)
gathered_more p digest tasks parts r before held after states state h same within missing claim witness first by =
    let apart : All (λ s. s.heading.task ≢ r.heading.task) parts = subst (IsReportState parts r.heading.task) missing (h.became.each r.heading.task within) in
    record {
      fit = record {
        divisions = divisions_more digest tasks parts r h.fit.divisions same;
        once = all_pairs_push (λ s t. s.heading.task ≢ t.heading.task) parts r h.fit.once (λ k d lt. apart k d lt);
        claims = All-push (λ s. IsPartClaim s.claim) parts r h.fit.claims claim;
        witnesses = All-push (λ s. IfSome (witness_of s.claim) (IsWitness p)) parts r h.fit.witnesses witness;
      };
      first = subst (λ found. IsFirst found after) (ap (λ os. None ∷ os) (sym (map-append (λ (s : PartReport). found_in p s.claim) parts (r ∷ [])))) first;
      divided = sym (first_more parts r same.same_division);
      became = record {
        count = length-set states r.heading.task state ∙ h.became.count;
        each = λ task below. state_more tasks parts r states state task h.became within by below;
      };
    }
