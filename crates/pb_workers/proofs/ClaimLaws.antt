-- What several workers claimed and named together.
use Rattle.std.proofs.Common.{◌≡◌, ◌≢◌, ◌↔◌, IsTrue, map, Option, None, Some, ℕ, suc, ◌+◌, ◌<◌, ◌≤◌, List, [], ◌∷◌, ◌++◌, ◌⊎◌, Bool, true, false, cond, length, refl, sym, ◌∙◌, ap, subst, inl, inr, arith, length-append}
use Rattle.std.specs.Prelude.{All, Any, Contains, IfNone, flat_map, min, nat_lt, if◌then◌else◌}
use Rattle.std.proofs.lemmas.Bool.{false≢true}
use Rattle.std.proofs.lemmas.Bool.Decides.{nat_tests}
use Rattle.std.proofs.lemmas.List.{get_or_append_left}
use Rattle.std.proofs.lemmas.List.Concat.{flat_map-append}
use Rattle.std.proofs.lemmas.List.Elements.{All-append, All-push, All-nil, Contains-append_cases}
use Rattle.std.proofs.lemmas.List.Quantifiers.{Any-push}
use Rattle.std.specs.Option.{IfSome}
use Rattle.pb_inst.specs.Problem.{Problem}
use Rattle.pb_inst.specs.Incumbent.{Solution}
use Rattle.pb_cubes.specs.Pieces.{CubeList}
use Rattle.pb_board.specs.Seats.{BoardView, SeatView}
use Rattle.pb_board.specs.Numbers.{IsEachOnceBelow, times}
use Rattle.pb_board.proofs.Counts.{counted, found, times-append, times-cons}
use Rattle.pb_workers.specs.Parts.{PartView, AreDone, AreWhole, IsAnswerOf, KeepsBudget, IsFirst, all_numbers}
use Rattle.pb_workers.specs.Dealing.{TaskView, AreDealtWork, ArePieces, IsEachOwnOnce, has_claims, is_own_piece, numbers_for, piece_of}
use Rattle.pb_workers.specs.Claims.{piece_count, pieces_among, AreDealt, AreNamed, EndsPast, GoesPast, IsWork, AreWholeWork}
use Rattle.pb_workers.proofs.NumberLaws.{more_numbers, once_at_most, own_below, times_own}

Any-append_left : {X : Type 0} (P : X → Type 0) (xs ys : List X) → Any P xs → Any P (xs ++ ys)
Any-append_left P xs ys h =
    let within : h.0 < length xs = h.2 in
    (h.0, h.1, omega (arith, length-append xs ys), get_or_append_left xs ys h.1 h.0 within ∙ h.3, h.4)

-- what stands in the joined list stands in one of the lists
contained_in_some : {X : Type 0} (f : X → List ℕ) (xs : List X) (i : ℕ) → Contains (flat_map f xs) i → Any (λ x. Contains (f x) i) xs
contained_in_some f [] i (k, within, is) = absurd (omega arith)
contained_in_some f (x ∷ xs) i h = elim (Contains-append_cases (f x) (flat_map f xs) i h) [
  | inl here ↦ (0, x, omega arith, refl, here)
  | inr there ↦ (let some = contained_in_some f xs i there in (suc some.0, some.1, (let within : some.0 < length xs = some.2 in omega arith), some.3, some.4))
]

pub holds_some : (l : List ℕ) (i : ℕ) → Contains l i → l ≢ []
holds_some [] i (k, within, is) = absurd (omega arith)
holds_some (m ∷ l) i here = λ empty. cc

-- a number stands in a merge as often as in both lists together
dealt_times : (all some others : List ℕ) (i : ℕ) → AreDealt all some others → times i all ≡ times i some + times i others
dealt_times [] some others i dealt = omega (arith, ap (times i) dealt.0, ap (times i) dealt.1)
dealt_times (m ∷ all) some others i (inl h) = omega (arith, times-cons i m all, times-cons i m h.0, ap (times i) h.1, dealt_times all h.0 others i h.2)
dealt_times (m ∷ all) some others i (inr h) = omega (arith, times-cons i m all, times-cons i m h.0, ap (times i) h.1, dealt_times all some h.0 i h.2)

-- the numbers that are named stand in the list at least as often, and just as often where none was passed over
named_at_most : (claims : Bool) (all done cut : List ℕ) (i : ℕ) → AreNamed claims all done cut → times i (done ++ cut) ≤ times i all
named_at_most claims all done cut i h =
    omega (arith, times-append i done cut, dealt_times all h.granted h.passed i h.is_granted, dealt_times h.granted done cut i h.named)

named_exactly : (claims : Bool) (all done cut : List ℕ) (i : ℕ) → AreNamed claims all done cut → claims ≡ false → times i (done ++ cut) ≡ times i all
named_exactly claims all done cut i h none =
    omega (arith, times-append i done cut, dealt_times all h.granted h.passed i h.is_granted, dealt_times h.granted done cut i h.named, ap (times i) (h.all_granted none))

-- without a budget the list of one part has no cut piece
uncut_of_one : (nodes : Option ℕ) (part : PartView) → IfNone nodes (part.cut ≡ []) → IfNone nodes (All (λ (x : PartView). x.cut ≡ []) (part ∷ []))
uncut_of_one None part none = All-push (λ (x : PartView). x.cut ≡ []) [] part (All-nil (λ (x : PartView). x.cut ≡ [])) none
uncut_of_one (Some budget) part none = tt

uncut_of_all : (nodes : Option ℕ) (some others : List PartView) → IfNone nodes (All (λ (x : PartView). x.cut ≡ []) some) → IfNone nodes (All (λ (x : PartView). x.cut ≡ []) others) → IfNone nodes (All (λ (x : PartView). x.cut ≡ []) (some ++ others))
uncut_of_all None some others h k = All-append (λ (x : PartView). x.cut ≡ []) some others h k
uncut_of_all (Some budget) some others h k = tt

pub budget_of_one : (nodes : Option ℕ) (part : PartView) → IfSome nodes (λ budget. KeepsBudget budget part) → IfSome nodes (λ budget. All (KeepsBudget budget) (part ∷ []))
budget_of_one None part kept = tt
budget_of_one (Some budget) part kept = All-push (KeepsBudget budget) [] part (All-nil (KeepsBudget budget)) kept

budget_of_all : (nodes : Option ℕ) (some others : List PartView) → IfSome nodes (λ budget. All (KeepsBudget budget) some) → IfSome nodes (λ budget. All (KeepsBudget budget) others) → IfSome nodes (λ budget. All (KeepsBudget budget) (some ++ others))
budget_of_all None some others h k = tt
budget_of_all (Some budget) some others h k = All-append (KeepsBudget budget) some others h k

-- one worker's work, as the work of one
pub work_of_one : (p : Problem) (pieces : CubeList) (task : Option TaskView) (nodes : Option ℕ) (race : Bool) (part : PartView) (parts none : List PartView) (claimed : List ℕ) → parts ≡ none ++ part ∷ [] → none ≡ [] → IsWork p pieces task nodes race part claimed → AreWholeWork p pieces task nodes race parts claimed
work_of_one p pieces task nodes race part parts none claimed pushed empty h =
    let is : parts ≡ part ∷ [] = pushed ∙ ap (λ (l : List PartView). l ++ part ∷ []) empty in
    subst (λ (l : List PartView). AreWholeWork p pieces task nodes race l claimed) (sym is) (record {
      of_instance = All-push (λ (x : PartView). x.best.problem ≡ p) [] part (All-nil (λ (x : PartView). x.best.problem ≡ p)) h.of_instance;
      of_pieces = All-push (λ (x : PartView). x.pieces ≡ pieces) [] part (All-nil (λ (x : PartView). x.pieces ≡ pieces)) h.of_pieces;
      at_most = λ i. omega (arith, times-append i (part.named ++ part.cut) [], named_at_most (has_claims task) (pieces_among task (piece_count pieces) claimed) part.named part.cut i h.named);
      named = λ none i. omega (arith, times-append i (part.named ++ part.cut) [], named_exactly (has_claims task) (pieces_among task (piece_count pieces) claimed) part.named part.cut i h.named none);
      uncut = λ none. uncut_of_one nodes part (h.uncut none);
      budget = budget_of_one nodes part h.budget;
      past = past h.ends;
    })
  where
    more : piece_count pieces ≤ numbers_for task (piece_count pieces)
    more = more_numbers task (piece_count pieces)

    past : EndsPast (numbers_for task (piece_count pieces)) claimed ⊎ (length claimed ≡ numbers_for task (piece_count pieces) + 1) → GoesPast (piece_count pieces) claimed
    past (inl e) =
        let last : numbers_for task (piece_count pieces) ≤ e.last = e.no_piece in
        inl (subst (λ (l : List ℕ). Any (λ n. piece_count pieces ≤ n) l) (sym e.ends) (Any-push (λ n. piece_count pieces ≤ n) e.front e.last (omega (arith, more))))
    past (inr all) = inr (omega (arith, more))

goes_past_more : (count : ℕ) (xs ys : List ℕ) → GoesPast count xs → GoesPast count (xs ++ ys)
goes_past_more count xs ys (inl h) = inl (Any-append_left (λ n. count ≤ n) xs ys h)
goes_past_more count xs ys (inr h) = inr (omega (arith, length-append xs ys))

-- the work of some workers and the work of others, as the work of all
work_of_all : (p : Problem) (pieces : CubeList) (task : Option TaskView) (nodes : Option ℕ) (race : Bool) (some others all : List PartView) (claimed more both : List ℕ) → all ≡ some ++ others → both ≡ claimed ++ more → AreWholeWork p pieces task nodes race some claimed → AreWholeWork p pieces task nodes race others more → AreWholeWork p pieces task nodes race all both
work_of_all p pieces task nodes race some others all claimed more both parts_are claims_are h k =
    subst (λ (l : List PartView). AreWholeWork p pieces task nodes race l both) (sym parts_are) (subst (λ (l : List ℕ). AreWholeWork p pieces task nodes race (some ++ others) l) (sym claims_are) (record {
      of_instance = All-append (λ (x : PartView). x.best.problem ≡ p) some others h.of_instance k.of_instance;
      of_pieces = All-append (λ (x : PartView). x.pieces ≡ pieces) some others h.of_pieces k.of_pieces;
      at_most = λ i. omega (arith, named_of_all i, pieces_of_all i, h.at_most i, k.at_most i);
      named = λ none i. omega (arith, named_of_all i, pieces_of_all i, h.named none i, k.named none i);
      uncut = λ none. uncut_of_all nodes some others (h.uncut none) (k.uncut none);
      budget = budget_of_all nodes some others h.budget k.budget;
      past = goes_past_more (piece_count pieces) claimed more h.past;
    }))
  where
    named_of_all : (i : ℕ) → times i (all_numbers (some ++ others)) ≡ times i (all_numbers some) + times i (all_numbers others)
    named_of_all i = ap (times i) (flat_map-append (λ (x : PartView). x.named ++ x.cut) some others) ∙ times-append i (all_numbers some) (all_numbers others)

    pieces_of_all : (i : ℕ) → times i (pieces_among task (piece_count pieces) (claimed ++ more)) ≡ times i (pieces_among task (piece_count pieces) claimed) + times i (pieces_among task (piece_count pieces) more)
    pieces_of_all i =
        ap (times i) (flat_map-append (piece_of task (piece_count pieces)) claimed more)
        ∙ times-append i (pieces_among task (piece_count pieces) claimed) (pieces_among task (piece_count pieces) more)

-- two seats as one
abbrev joined : BoardView → SeatView → SeatView → SeatView
joined board v w = record { board = board.id; parts = v.parts + w.parts; claimed = v.claimed ++ w.claimed; offered = v.offered ++ w.offered; seen = min v.seen w.seen }

-- their work where their seats were joined
pub work_of_both : (p : Problem) (pieces : CubeList) (task : Option TaskView) (nodes : Option ℕ) (race : Bool) (some others all : List PartView) (board : BoardView) (low high both : SeatView) → all ≡ some ++ others → both ≡ joined board low high → AreWholeWork p pieces task nodes race some low.claimed → AreWholeWork p pieces task nodes race others high.claimed → AreWholeWork p pieces task nodes race all both.claimed
work_of_both p pieces task nodes race some others all board low high both parts_are is h k =
    work_of_all p pieces task nodes race some others all low.claimed high.claimed both.claimed parts_are (ap (λ (s : SeatView). s.claimed) is) h k

-- where numbers below the total count once, one that counts is below the total
counted_below : (n total count : ℕ) → count ≡ (if nat_lt n total then 1 else 0) → 0 < count → n < total
counted_below n total count is some = grind (arith, nat_tests)

pub counted_once : (n total count : ℕ) → count ≡ (if nat_lt n total then 1 else 0) → n < total → 0 < count
counted_once n total count is below = grind (arith, nat_tests)

-- a chosen number counts once, where each below the total does and each chosen one is below `count`
once_chosen : (own : Bool) (n count total k : ℕ) → k ≡ (if nat_lt n total then 1 else 0) → count ≤ total → (own ≡ true → n < count) → cond own k 0 ≡ (if own then 1 else 0)
once_chosen true n count total k is fewer below = let lower : n < count = below refl in below_once n total k is (omega arith)
  where
    below_once : (n total k : ℕ) → k ≡ (if nat_lt n total then 1 else 0) → n < total → k ≡ 1
    below_once n total k is lower = grind (arith, nat_tests)
once_chosen false n count total k is fewer below = refl

-- claims that are the numbers below `total`, each once, and go past the pieces, are as many as the pieces at least
passes_pieces : (count total : ℕ) (claimed : List ℕ) → total ≡ length claimed → IsEachOnceBelow total claimed → GoesPast count claimed → count ≤ total
passes_pieces count total claimed number once (inr more) = omega arith
passes_pieces count total claimed number once (inl some) =
    let at : Contains claimed some.1 = (some.0, some.2, some.3) in
    let below : some.1 < total = counted_below some.1 total (times some.1 claimed) (once some.1) (counted claimed some.1 at) in
    let past : count ≤ some.1 = some.4 in
    omega arith

-- each piece that the task is dealt is among them once, where no others are claimed
each_claimed : (task : Option TaskView) (count total : ℕ) (claimed : List ℕ) → total ≡ length claimed → IsEachOnceBelow total claimed → GoesPast count claimed → has_claims task ≡ false → IsEachOwnOnce task count (pieces_among task count claimed)
each_claimed task count total claimed number once past none i =
    let all : count ≤ total = passes_pieces count total claimed number once past in
    times_own task count claimed i none
    ∙ once_chosen (is_own_piece task count i) i count total (times i claimed) (once i) all (own_below task count i)

-- the joined claims of all workers stand for no piece twice and leave none out, so the parts name each once at most, and where no
-- others are claimed each that the task is dealt once
pub each_named : (p : Problem) (pieces : CubeList) (task : Option TaskView) (nodes : Option ℕ) (race : Bool) (parts : List PartView) (claimed : List ℕ) (total : ℕ) → AreWholeWork p pieces task nodes race parts claimed → total ≡ length claimed → IsEachOnceBelow total claimed → ArePieces task (piece_count pieces) (all_numbers parts)
each_named p pieces task nodes race parts claimed total h number once = record {
  at_most_once = λ i. omega (arith, h.at_most i, once_at_most task (piece_count pieces) total i claimed once);
  dealt = λ none i. h.named none i ∙ each_claimed task (piece_count pieces) total claimed number once h.past none i;
}

-- what some part names, where no part has a cut piece, it names as done
named_as_done : (parts : List PartView) (i : ℕ) → (Any (λ (x : PartView). x.cut ≢ []) parts → ⊥) → Any (λ (x : PartView). Contains (x.named ++ x.cut) i) parts → Any (λ (x : PartView). Contains x.named i) parts
named_as_done parts i none (k, part, within, is, names) = elim (Contains-append_cases part.named part.cut i names) [
  | inl done ↦ (k, part, within, is, done)
  | inr cut ↦ absurd (none (k, part, within, is, holds_some part.cut i cut))
]

-- where each piece is named and nothing was cut each piece is done
pub all_named : (pieces : CubeList) (parts : List PartView) → All (λ (x : PartView). x.pieces ≡ pieces) parts → IsEachOnceBelow (piece_count pieces) (all_numbers parts) → (Any (λ (x : PartView). x.cut ≢ []) parts → ⊥) → AreWhole pieces parts
all_named pieces parts of_pieces once none = record {
  of_list = of_pieces;
  all_named = λ i within. named_as_done parts i none (contained_in_some (λ (x : PartView). x.named ++ x.cut) parts i
      (found (all_numbers parts) i (counted_once i (piece_count pieces) (times i (all_numbers parts)) (once i) (omega arith))));
}

-- the parts' work on what the task is dealt, where they did all of it and what they hold was gathered
pub dealt_work : (p q : Problem) (pieces list : CubeList) (task dealt : Option TaskView) (nodes budget : Option ℕ) (race in_race : Bool) (parts seen : List PartView) (claimed : List ℕ) (total : ℕ) (before held : Option Solution) (some_cut : Bool)
    → q ≡ p → list ≡ pieces → dealt ≡ task → budget ≡ nodes → in_race ≡ race → AreWholeWork q list dealt budget in_race parts claimed → total ≡ length claimed → IsEachOnceBelow total claimed
    → seen ≡ parts → before ≡ None → All AreDone seen → IsFirst (before ∷ map (λ part. part.best.held) seen) held → (IsTrue some_cut ↔ Any (λ (x : PartView). x.cut ≢ []) seen)
    → AreDealtWork p pieces task nodes race parts held some_cut
dealt_work p q pieces list task dealt nodes budget race in_race parts seen claimed total before held some_cut same_instance same_list same_task same_nodes same_race work number once same none done first told =
    subst (λ (x : Problem). AreDealtWork x pieces task nodes race parts held some_cut) same_instance
    (subst (λ (l : CubeList). AreDealtWork q l task nodes race parts held some_cut) same_list
    (subst (λ (t : Option TaskView). AreDealtWork q list t nodes race parts held some_cut) same_task
    (subst (λ (n : Option ℕ). AreDealtWork q list dealt n race parts held some_cut) same_nodes
    (subst (λ (r : Bool). AreDealtWork q list dealt budget r parts held some_cut) same_race (record {
      of_instance = work.of_instance;
      of_pieces = work.of_pieces;
      named = each_named q list dealt budget in_race parts claimed total work number once;
      uncut = work.uncut;
      budget = work.budget;
      done = subst (λ (l : List PartView). All AreDone l) same done;
      first = subst (λ (l : List PartView). IsFirst (None ∷ map (λ part. part.best.held) l) held) same (subst (λ (o : Option Solution). IsFirst (o ∷ map (λ part. part.best.held) seen) held) none first);
      told = subst (λ (l : List PartView). IsTrue some_cut ↔ Any (λ (x : PartView). x.cut ≢ []) l) same told;
    })))))

-- the work on all pieces, as their answer
pub answer_of_work : (p : Problem) (pieces : CubeList) (nodes : Option ℕ) (race : Bool) (parts : List PartView) (held : Option Solution) (some_cut : Bool) → AreDealtWork p pieces None nodes race parts held some_cut → IsAnswerOf p pieces parts held some_cut
answer_of_work p pieces nodes race parts held some_cut work = record {
  of_instance = work.of_instance;
  of_pieces = work.of_pieces;
  each_once = work.named.dealt refl;
  done = work.done;
  first = work.first;
  told = work.told;
}
