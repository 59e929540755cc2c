-- Which pieces reports name as done, and that what is told by their numbers is told of the reports.
use Rattle.std.proofs.Common.{◌≡◌, ◌∙◌, ◌↔◌, IsTrue, ℕ, ◌+◌, ◌<◌, ◌≤◌, suc, zero, Bool, List, [], ◌∷◌, ◌++◌, length, take, get_or, Option, None, Some, inl, inr, refl, sym, ap, subst, take_all, arith}
use Rattle.std.specs.Prelude.{Any, Contains}
use Rattle.std.specs.List.{flat_map}
use Rattle.std.specs.Option.{IfSome}
use Rattle.std.proofs.lemmas.Bool.{cases_lt}
use Rattle.std.proofs.lemmas.List.{flat_map_more, get_or_append_left, get_or_push, length-append, take_more}
use Rattle.std.proofs.lemmas.List.Elements.{All-head, Contains-append_cases, Contains-append_left, Contains-append_right}
use Rattle.pb_inst.specs.Problem.{Problem}
use Rattle.pb_inst.specs.Incumbent.{Solution}
use Rattle.pb_parts.specs.declared.parts.Division.{Division}
use Rattle.pb_parts.specs.declared.parts.PartReport.{PartReport}
use Rattle.pb_join.specs.declared.parts.states.ReportState.{ReportState}
use Rattle.pb_join.specs.declared.parts.states.ReportState.TheVariants.{Missing}
use Rattle.pb_join.specs.declared.parts.states.TaskState.{TaskState}
use Rattle.pb_join.specs.Parts.{AreAllAmong, AreAllNamed, AreGatheredParts, AreNamed, AreStatesBy, AreTaskStates, IsFinished, IsFinishedBy, IsReportState, IsSameDivision, first_division}

-- ---- numbers of many lists

-- one more list in front
any_later : {X : Type 0} (P : X → Type 0) (x : X) (xs : List X) → Any P xs → Any P (x ∷ xs)
any_later P x xs (k, y, within, is, holds) = (suc k, y, omega (arith, within), is, holds)

-- what many lists have together is in one of them
of_one : {X : Type 0} (f : X → List ℕ) (xs : List X) (n : ℕ) → Contains (flat_map f xs) n → Any (λ x. Contains (f x) n) xs
of_one f [] n (k, within, is) = absurd (omega (arith, within))
of_one f (x ∷ xs) n has = elim (Contains-append_cases (f x) (flat_map f xs) n has) [
  | inl here ↦ (zero, x, omega arith, refl, here)
  | inr later ↦ any_later (λ y. Contains (f y) n) x xs (of_one f xs n later)
]

-- and they have what one of them has
of_all : {X : Type 0} (f : X → List ℕ) (xs : List X) (n : ℕ) → Any (λ x. Contains (f x) n) xs → Contains (flat_map f xs) n
of_all f [] n (k, x, within, is, has) = absurd (omega (arith, within))
of_all f (y ∷ ys) n (zero, x, within, is, has) = Contains-append_left (f y) (flat_map f ys) n (subst (λ z. Contains (f z) n) (sym is) has)
of_all f (y ∷ ys) n (suc k, x, within, is, has) = Contains-append_right (f y) (flat_map f ys) n (of_all f ys n (k, x, omega (arith, within), is, has))

named_by_lists : (parts : List PartReport) (n : ℕ) → Contains (flat_map (λ (part : PartReport). part.heading.done.items) parts) n ↔ Any (λ (part : PartReport). Contains part.heading.done.items n) parts
named_by_lists parts n = (of_one (λ (part : PartReport). part.heading.done.items) parts n, of_all (λ (part : PartReport). part.heading.done.items) parts n)

-- all of them
pub named_all : (parts : List PartReport) (count : ℕ) (has : List ℕ) → has ≡ flat_map (λ (part : PartReport). part.heading.done.items) (take count parts) → length parts ≤ count → (n : ℕ) → Contains has n ↔ Any (λ (part : PartReport). Contains part.heading.done.items n) parts
named_all parts count has is past n =
    subst (λ l. Contains l n ↔ Any (λ (part : PartReport). Contains part.heading.done.items n) parts) (sym (is ∙ ap (flat_map (λ (part : PartReport). part.heading.done.items)) (take_all count parts past))) (named_by_lists parts n)

-- one more report
pub named_more : (parts : List PartReport) (i : ℕ) (part : PartReport) (before : List ℕ) → i < length parts → get_or parts i part ≡ part → before ≡ flat_map (λ (x : PartReport). x.heading.done.items) (take i parts)
    → before ++ part.heading.done.items ≡ flat_map (λ (x : PartReport). x.heading.done.items) (take (i + 1) parts)
named_more parts i part before within at is =
    ap (λ l. l ++ part.heading.done.items) is ∙ flat_map_more (λ (x : PartReport). x.heading.done.items) [] (take i parts) part
    ∙ ap (flat_map (λ (x : PartReport). x.heading.done.items)) (ap (λ (x : PartReport). take i parts ++ x ∷ []) (sym at) ∙ sym (take_more parts i part within))

-- ---- from the numbers to the reports

-- what is told of all pieces
pub told_whole : (whole : Bool) (first : Option Division) (parts : List PartReport) (named : List ℕ) → AreNamed parts named → IsTrue whole ↔ AreAllAmong first named → IsTrue whole ↔ AreAllNamed first parts
told_whole whole None parts named h told = told
told_whole whole (Some d) parts named h told = (λ yes i below. (h.each i).0 (told.0 yes i below), λ all. told.1 (λ i below. (h.each i).1 (all i below)))

-- the same, of the division that was gathered and of numbers that are the same
pub told_gathered : (whole : Bool) (p : Problem) (digest : List ℕ) (tasks : ℕ) (parts : List PartReport) (division : Option Division) (held : Option Solution) (reports : List ReportState) (named seen : List ℕ) → seen ≡ named → AreGatheredParts p digest tasks parts division held reports → AreNamed parts named → IsTrue whole ↔ AreAllAmong division seen
    → IsTrue whole ↔ AreAllNamed (first_division parts) parts
told_gathered whole p digest tasks parts division held reports named seen is h names told =
    told_whole whole (first_division parts) parts named names
    (subst (λ (d : Option Division). IsTrue whole ↔ AreAllAmong d named) h.divided (subst (λ (s : List ℕ). IsTrue whole ↔ AreAllAmong division s) is told))

-- what is told of the pieces of a task
told_finished : (finished : Bool) (first : Option Division) (task : ℕ) (parts : List PartReport) (named : List ℕ) → AreNamed parts named → IsTrue finished ↔ IsFinishedBy first task named → IsTrue finished ↔ IsFinished first task parts
told_finished finished None task parts named h told = told
told_finished finished (Some d) task parts named h told = (λ yes i dealt. (h.each i).0 (told.0 yes i dealt), λ all. told.1 (λ i dealt. (h.each i).1 (all i dealt)))

-- what is told of the tasks, by reports and numbers that are the same as those that were gathered
pub told_states : (p : Problem) (digest : List ℕ) (tasks : ℕ) (parts : List PartReport) (division : Option Division) (held : Option Solution) (reports seen_reports : List ReportState) (named seen : List ℕ) (states : List TaskState) → seen_reports ≡ reports → seen ≡ named → AreGatheredParts p digest tasks parts division held reports → AreNamed parts named → AreStatesBy division tasks seen_reports seen states
    → AreTaskStates tasks parts states
told_states p digest tasks parts division held reports seen_reports named seen states same_reports is h names told =
    let by : AreStatesBy (first_division parts) tasks reports named states =
    subst (λ (d : Option Division). AreStatesBy d tasks reports named states) h.divided
    (subst (λ (r : List ReportState). AreStatesBy division tasks r named states) same_reports (subst (λ (s : List ℕ). AreStatesBy division tasks seen_reports s states) is told)) in
    record {
      count = by.count;
      each = λ task none below. record {
        report = subst (IsReportState parts task) (sym (by.told task none below)) (h.became.each task below);
        finished = told_finished (get_or states task none).finished (first_division parts) task parts named names (by.finished task none below);
      };
    }

-- one more task
pub states_more : (division : Option Division) (n : ℕ) (reports : List ReportState) (named : List ℕ) (states : List TaskState) (state : TaskState) → AreStatesBy division n reports named states → state.report ≡ get_or reports n Missing → IsTrue state.finished ↔ IsFinishedBy division n named
    → AreStatesBy division (n + 1) reports named (states ++ state ∷ [])
states_more division n reports named states state h report finished = record {
  count = length-append states (state ∷ []) ∙ ap (λ k. k + 1) h.count;
  told = λ task none below. elim (cases_lt task n) [
    | inl before ↦ ap (λ (s : TaskState). s.report) (get_or_append_left states (state ∷ []) none task (earlier task before)) ∙ h.told task none before
    | inr after ↦ ap (λ (s : TaskState). s.report) (get_or_push states state none task (last task below after)) ∙ subst (λ k. state.report ≡ get_or reports k Missing) (sym (same task below after)) report
  ];
  finished = λ task none below. elim (cases_lt task n) [
    | inl before ↦ subst (λ (s : TaskState). IsTrue s.finished ↔ IsFinishedBy division task named) (sym (get_or_append_left states (state ∷ []) none task (earlier task before))) (h.finished task none before)
    | inr after ↦ subst (λ (s : TaskState). IsTrue s.finished ↔ IsFinishedBy division task named) (sym (get_or_push states state none task (last task below after))) (subst (λ k. IsTrue state.finished ↔ IsFinishedBy division k named) (sym (same task below after)) finished)
  ];
}
  where
    earlier : (task : ℕ) → task < n → task < length states
    earlier task before = let count = h.count in omega (arith, before, count)

    same : (task : ℕ) → task < n + 1 → n ≤ task → task ≡ n
    same task below after = omega (arith, below, after)

    last : (task : ℕ) → task < n + 1 → n ≤ task → length states ≡ task
    last task below after = let count = h.count in omega (arith, below, after, count)

-- ---- the division among the tasks

-- the first division, if there is one, is among these tasks
pub among_tasks : (p : Problem) (digest : List ℕ) (tasks : ℕ) (parts : List PartReport) (division : Option Division) (held : Option Solution) (reports : List ReportState) → AreGatheredParts p digest tasks parts division held reports → IfSome division (λ d. d.tasks ≡ tasks)
among_tasks p digest tasks [] division held reports h = subst (λ d. IfSome d (λ d. d.tasks ≡ tasks)) (sym h.divided) tt
among_tasks p digest tasks (x ∷ rest) division held reports h =
    subst (λ d. IfSome d (λ d. d.tasks ≡ tasks)) (sym h.divided) (All-head (λ (part : PartReport). IsSameDivision digest tasks (Some x.heading.division) part.heading.division) x rest h.fit.divisions).same_tasks
