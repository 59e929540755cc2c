-- One search that goes through all pieces.
use Rattle.std.proofs.Common.{◌≡◌, ◌≢◌, ◌↔◌, ℕ, zero, suc, ◌+◌, ◌<◌, ◌≤◌, List, [], ◌∷◌, ◌++◌, inl, inr, Bool, true, false, ◌||◌, IsTrue, Option, None, Some, length, refl, sym, ap, ◌∙◌, subst, arith}
use Rattle.std.specs.Prelude.{All, Any, IfNone, nat_lt, if◌then◌else◌}
use Rattle.std.specs.Option.{IfSome}
use Rattle.std.proofs.lemmas.Bool.{false≢true}
use Rattle.std.proofs.lemmas.Bool.Decides.{nat_tests}
use Rattle.std.proofs.lemmas.List.Elements.{All-cons, All-contains, All-nil, All-push, Contains-append_cases}
use Rattle.std.proofs.lemmas.List.Quantifiers.{Any-push}
use Rattle.pb_inst.specs.Problem.{Problem}
use Rattle.pb_inst.specs.Incumbent.{Incumbent, Solution, IsSound}
use Rattle.pb_board.specs.Numbers.{IsEachOnceBelow, times}
use Rattle.pb_board.proofs.Counts.{found, mark, times-append, times-push}
use Rattle.pb_cubes.specs.Pieces.{CubeList}
use Rattle.pb_subtree.specs.declared.outcome.Outcome.{Outcome}
use Rattle.pb_subtree.specs.declared.outcome.Outcome.TheVariants.{Whole, Cut}
use Rattle.pb_search.specs.Done.{Division, IsDone}
use Rattle.pb_search.specs.Held.{IsNotAfter}
use Rattle.pb_workers.specs.Parts.{PartView, AreDone, AreSearched, IsAnswerOf, IsNotBefore, IsSettled, KeepsBudget, all_numbers}
use Rattle.pb_subtree.proofs.HeldLemmas.{not_after_itself}
use Rattle.pb_cubes.specs.Solving.{HoldsLeast}
use Rattle.pb_cubes.proofs.LeastLaws.{least_of_all_done}
use Rattle.pb_workers.proofs.ClaimLaws.{budget_of_one, counted_once, holds_some}
use Rattle.pb_workers.proofs.CutLaws.{HasCut, known_more}
use Rattle.pb_cubes.proofs.FirstLaws.{not_before_itself}
use Rattle.pb_workers.proofs.WorkLaws.{counted_where, done_more, none_counted, part_done}

-- no piece is searched yet
pub none_searched : (d : Division) (nodes : Option ℕ) (held : Option Solution) → AreSearched d 0 nodes held false
none_searched d nodes held = record {
  done = [];
  cut = [];
  decisions = [];
  cut_decisions = [];
  each_once = λ i. grind (arith, nat_tests);
  are_done = All-nil (λ i. IsDone d i held);
  budget = none_counted nodes [] [] [] [] refl refl refl refl;
  told = ((λ yes. absurd (false≢true yes)), (λ differs. absurd (differs refl)));
}

pub none_cut : (nodes : Option ℕ) → IfNone nodes (false ≡ false)
none_cut None = refl
none_cut (Some budget) = tt

-- one number more, each once
once_more : (i n : ℕ) → (if nat_lt i n then 1 else 0) + mark i n ≡ (if nat_lt i (n + 1) then 1 else 0)
once_more i n = grind (arith, nat_tests)

pushed_some : (l : List ℕ) (n : ℕ) → l ++ n ∷ [] ≢ []
pushed_some [] n = λ empty. cc
pushed_some (m ∷ l) n = λ empty. cc

-- one piece more is searched
pub one_more_searched : (d : Division) (piece : ℕ) (nodes : Option ℕ) (o : Outcome) (n : ℕ) (some_cut told : Bool) (old : Option Solution) (new : Incumbent)
    → (IsTrue told ↔ (o ≡ Cut)) → IsNotAfter d.problem old new.held → new.problem ≡ d.problem → IsSound new → (o ≡ Whole → IsDone d piece new.held)
    → IfSome nodes (λ budget. n ≤ budget) → (o ≡ Cut → nodes ≡ Some n)
    → AreSearched d piece nodes old some_cut → AreSearched d (piece + 1) nodes new.held (some_cut || told)
one_more_searched d piece nodes Whole n some_cut told old new is later same sound whole within used_up h =
    let both = known_more (h.cut ≢ []) (Whole ≡ Cut) some_cut told h.told is in
    record {
      done = h.done ++ piece ∷ [];
      cut = h.cut;
      decisions = h.decisions ++ n ∷ [];
      cut_decisions = h.cut_decisions;
      each_once = λ i. omega (arith, times-append i (h.done ++ piece ∷ []) h.cut, times-push i piece h.done, times-append i h.done h.cut, h.each_once i, once_more i piece);
      are_done = done_more d Whole h.done h.cut (h.done ++ piece ∷ []) h.cut piece old new (refl, refl) later same sound whole h.are_done;
      budget = counted_where nodes Whole piece n h.done h.decisions h.cut h.cut_decisions (h.done ++ piece ∷ []) (h.decisions ++ n ∷ []) h.cut h.cut_decisions (refl, refl) (refl, refl) within used_up h.budget;
      told = ((λ yes. elim (both.0 yes) [ inl some ↦ some | inr wrong ↦ cc ]), (λ some. both.1 (inl some)));
    }
one_more_searched d piece nodes Cut n some_cut told old new is later same sound whole within used_up h =
    let both = known_more (h.cut ≢ []) (Cut ≡ Cut) some_cut told h.told is in
    record {
      done = h.done;
      cut = h.cut ++ piece ∷ [];
      decisions = h.decisions;
      cut_decisions = h.cut_decisions ++ n ∷ [];
      each_once = λ i. omega (arith, times-append i h.done (h.cut ++ piece ∷ []), times-push i piece h.cut, times-append i h.done h.cut, h.each_once i, once_more i piece);
      are_done = done_more d Cut h.done h.cut h.done (h.cut ++ piece ∷ []) piece old new (refl, refl) later same sound whole h.are_done;
      budget = counted_where nodes Cut piece n h.done h.decisions h.cut h.cut_decisions h.done h.decisions (h.cut ++ piece ∷ []) (h.cut_decisions ++ n ∷ []) (refl, refl) (refl, refl) within used_up h.budget;
      told = ((λ yes. pushed_some h.cut piece), (λ some. both.1 (inr refl)));
    }

-- where each piece is done, all of them are searched
pub searched_where_done : (d : Division) (best : Incumbent) → best.problem ≡ d.problem → IsSound best → ((i : ℕ) → IsDone d i best.held) → (count : ℕ) → AreSearched d count None best.held false
searched_where_done d best same sound done zero = none_searched d None best.held
searched_where_done d best same sound done (suc n) =
    let more : n + 1 ≡ suc n = omega arith in
    subst (λ (k : ℕ). AreSearched d k None best.held false) more
    (one_more_searched d n None Whole 0 false false best.held best ((λ yes. absurd (false≢true yes)), (λ wrong. cc)) (not_after_itself d.problem best.held) same sound (λ _. done n) tt (λ wrong. cc) (searched_where_done d best same sound done n))

-- where none of them was cut each is done
pub all_done : (d : Division) (count : ℕ) (nodes : Option ℕ) (held : Option Solution) (some_cut : Bool) → AreSearched d count nodes held some_cut → some_cut ≡ false → (i : ℕ) → i < count → IsDone d i held
all_done d count nodes held some_cut h uncut i within =
    elim (Contains-append_cases h.done h.cut i (found (h.done ++ h.cut) i (counted_once i count (times i (h.done ++ h.cut)) (h.each_once i) within))) [
      | inl done ↦ All-contains (λ n. IsDone d n held) h.done i h.are_done done
      | inr cut ↦ absurd (false≢true (sym uncut ∙ h.told.1 (holds_some h.cut i cut)))
    ]

-- without a budget no piece is cut
pub still_uncut : (nodes : Option ℕ) (o : Outcome) (cut told : Bool) → (IsTrue told ↔ (o ≡ Cut)) → (nodes ≡ None → o ≡ Whole) → IfNone nodes (cut ≡ false) → IfNone nodes ((cut || told) ≡ false)
still_uncut (Some n) o cut told is whole before = tt
still_uncut None Cut cut told is whole before = let it : Cut ≡ Whole = whole refl in cc
still_uncut None Whole cut true is whole before = let it : Whole ≡ Cut = is.0 refl in cc
still_uncut None Whole cut false is whole before = ap (λ (b : Bool). b || false) before

the_only : {X : Type 0} (P : X → Type 0) (x : X) → Any P (x ∷ []) → P x
the_only P x (zero, y, within, is, holds) = subst P (sym is) holds
the_only P x (suc k, y, within, is, holds) = absurd (omega arith)

-- the answer of one search, as that of one part
pub answer_alone : (p : Problem) (pieces : CubeList) (d : Division) (count : ℕ) (nodes : Option ℕ) (best : Incumbent) (some_cut : Bool) → d ≡ record { problem = p; cubes = pieces.cubes } → best.problem ≡ p → count ≡ length pieces.cubes + 1 → AreSearched d count nodes best.held some_cut
    → (parts : List PartView) × IsAnswerOf p pieces parts best.held some_cut × IfSome nodes (λ budget. All (KeepsBudget budget) parts)
answer_alone p pieces d count nodes best some_cut is of_instance number h = (
  part ∷ [],
  record {
    of_instance = All-push (λ (x : PartView). x.best.problem ≡ p) [] part (All-nil (λ (x : PartView). x.best.problem ≡ p)) of_instance;
    of_pieces = All-push (λ (x : PartView). x.pieces ≡ pieces) [] part (All-nil (λ (x : PartView). x.pieces ≡ pieces)) refl;
    each_once = subst (λ (n : ℕ). IsEachOnceBelow n (all_numbers (part ∷ []))) number (λ i. omega (arith, times-append i (h.done ++ h.cut) [], h.each_once i));
    done = All-push AreDone [] part (All-nil AreDone) (part_done d pieces h.done h.cut h.decisions h.cut_decisions best same h.are_done);
    first = record {
      one_of_them = (1, omega arith, refl);
      none_before = All-cons (λ o. IsNotBefore o best.held) None (best.held ∷ []) tt (All-cons (λ o. IsNotBefore o best.held) best.held [] (not_before_itself best.held) (All-nil (λ o. IsNotBefore o best.held)));
    };
    told = ((λ yes. Any-push HasCut [] part (h.told.0 yes)), (λ some. h.told.1 (the_only HasCut part some)));
  },
  budget_of_one nodes part h.budget,
)
  where
    part : PartView
    part = record { pieces = pieces; named = h.done; cut = h.cut; decisions = h.decisions; cut_decisions = h.cut_decisions; best = best }

    same : d ≡ record { problem = best.problem; cubes = pieces.cubes }
    same = is ∙ ap (λ (q : Problem). let e : Division = record { problem = q; cubes = pieces.cubes } in e) (sym of_instance)

-- the answer where each piece is done
pub answer_where_done : (pieces : CubeList) (best : Incumbent) → IsSound best → IsSettled pieces best → (parts : List PartView) × IsAnswerOf best.problem pieces parts best.held false
answer_where_done pieces best sound done =
    let d : Division = record { problem = best.problem; cubes = pieces.cubes } in
    let count = length pieces.cubes + 1 in
    let answer = answer_alone best.problem pieces d count None best false refl refl refl (searched_where_done d best refl sound done count) in
    (answer.0, answer.1)

pub least_where_done : (pieces : CubeList) (best : Incumbent) → IsSettled pieces best → HoldsLeast best.problem best.held
least_where_done pieces best done = least_of_all_done (record { problem = best.problem; cubes = pieces.cubes }) best.held (λ i within. done i)
