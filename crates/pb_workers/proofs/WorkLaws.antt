-- How the pieces that a worker claims are done one by one.
use Rattle.std.proofs.Common.{◌≡◌, ℕ, ◌+◌, ◌<◌, ◌≤◌, List, [], ◌∷◌, ◌++◌, ◌⊎◌, inl, inr, Bool, true, false, cond, length, Option, None, Some, refl, sym, ◌∙◌, ap, subst, arith, rules, tests, length-append}
use Rattle.std.specs.Prelude.{All, IfNone}
use Rattle.std.specs.Option.{IfSome, option_map}
use Rattle.std.proofs.lemmas.Bool.{false≢true}
use Rattle.std.proofs.lemmas.List.Elements.{All-nil, All-push, All-weaker}
use Rattle.pb_inst.specs.Problem.{Problem}
use Rattle.pb_inst.specs.Incumbent.{Incumbent, Solution, IsSolution}
use Rattle.pb_cubes.specs.Pieces.{CubeList}
use Rattle.pb_search.specs.Done.{Division, IsDone}
use Rattle.pb_search.specs.Held.{IsNotAfter}
use Rattle.pb_subtree.proofs.HeldLemmas.{improvement_on_earlier}
use Rattle.pb_workers.specs.Parts.{PartView, AreCounted, AreDone}
use Rattle.pb_subtree.specs.declared.outcome.Outcome.{Outcome}
use Rattle.pb_subtree.specs.declared.outcome.Outcome.TheVariants.{Whole, Cut}
use Rattle.pb_workers.specs.Dealing.{TaskView, has_claims, numbers_for, piece_of}
use Rattle.pb_workers.specs.Claims.{piece_count, pieces_among, AreDealt, AreNamed, EndsPast, IsWork, NamesOneMore}
use Rattle.pb_workers.proofs.NumberLaws.{among_more, among_same, past_none}
use Rattle.pb_workers.specs.Sharing.{BoardShareView, KeepsClaims, SameSeat}

-- what is held is a solution, where anything is
abbrev pub IsFound : Division → Option Solution → Type 0
IsFound d None = Unit {0}
IsFound d (Some s) = IsSolution d.problem s

-- a piece that is done stays done where what is held moves on
pub stays_done : (d : Division) (i : ℕ) (old new : Option Solution) → IsNotAfter d.problem old new → IsFound d new → IsDone d i old → IsDone d i new
stays_done d i None None later found done = done
stays_done d i None (Some s) later found done = (found, λ a candidate before. done a candidate)
stays_done d i (Some o) None later found done = absurd later
stays_done d i (Some o) (Some s) later found done = (found, λ a candidate before. done.1 a candidate (improvement_on_earlier d.problem a (Some o) (Some s) later before))

-- what is held is a solution, where anything is: by what an incumbent tells
pub found_where_sound : (d : Division) (best : Incumbent) → best.problem ≡ d.problem → IfSome best.held (IsSolution best.problem) → IsFound d best.held
found_where_sound d best same sound = of best.held (subst (λ (p : Problem). IfSome best.held (IsSolution p)) same sound)
  where
    of : (held : Option Solution) → IfSome held (IsSolution d.problem) → IsFound d held
    of None is = tt
    of (Some s) is = is

-- the pieces that were done are done
stay_done : (d : Division) (done : List ℕ) (old : Option Solution) (best : Incumbent) → IsNotAfter d.problem old best.held → best.problem ≡ d.problem → IfSome best.held (IsSolution best.problem) → All (λ n. IsDone d n old) done → All (λ n. IsDone d n best.held) done
stay_done d done old best later same sound all =
    All-weaker (λ n. IsDone d n old) (λ n. IsDone d n best.held) (λ n. stays_done d n old best.held later (found_where_sound d best same sound)) done all

-- the pieces that are done, where one more is named by how its search ended
pub done_more : (d : Division) (outcome : Outcome) (done cut done' cut' : List ℕ) (i : ℕ) (old : Option Solution) (best : Incumbent) → NamesOneMore outcome i done cut done' cut' → IsNotAfter d.problem old best.held → best.problem ≡ d.problem → IfSome best.held (IsSolution best.problem)
    → (outcome ≡ Whole → IsDone d i best.held) → All (λ n. IsDone d n old) done → All (λ n. IsDone d n best.held) done'
done_more d Whole done cut done' cut' i old best names later same sound whole all =
    subst (λ (ns : List ℕ). All (λ n. IsDone d n best.held) ns) (sym names.0)
    (All-push (λ n. IsDone d n best.held) done i (stay_done d done old best later same sound all) (whole refl))
done_more d Cut done cut done' cut' i old best names later same sound whole all =
    subst (λ (ns : List ℕ). All (λ n. IsDone d n best.held) ns) (sym names.0) (stay_done d done old best later same sound all)

-- a merge stays one where a number is put at its end and at the end of one of the two lists
dealt_to_some : (all some others : List ℕ) (n : ℕ) → AreDealt all some others → AreDealt (all ++ n ∷ []) (some ++ n ∷ []) others
dealt_to_some [] some others n dealt = inl ([], ap (λ (l : List ℕ). l ++ n ∷ []) dealt.0, (refl, dealt.1))
dealt_to_some (m ∷ all) some others n (inl h) = inl (h.0 ++ n ∷ [], ap (λ (l : List ℕ). l ++ n ∷ []) h.1, dealt_to_some all h.0 others n h.2)
dealt_to_some (m ∷ all) some others n (inr h) = inr (h.0, h.1, dealt_to_some all some h.0 n h.2)

dealt_to_others : (all some others : List ℕ) (n : ℕ) → AreDealt all some others → AreDealt (all ++ n ∷ []) some (others ++ n ∷ [])
dealt_to_others [] some others n dealt = inr ([], ap (λ (l : List ℕ). l ++ n ∷ []) dealt.1, (dealt.0, refl))
dealt_to_others (m ∷ all) some others n (inl h) = inl (h.0, h.1, dealt_to_others all h.0 others n h.2)
dealt_to_others (m ∷ all) some others n (inr h) = inr (h.0 ++ n ∷ [], ap (λ (l : List ℕ). l ++ n ∷ []) h.1, dealt_to_others all some h.0 n h.2)

-- one more is named by how its search ended
dealt_by_outcome : (outcome : Outcome) (all done cut done' cut' : List ℕ) (i : ℕ) → AreDealt all done cut → NamesOneMore outcome i done cut done' cut' → AreDealt (all ++ i ∷ []) done' cut'
dealt_by_outcome Whole all done cut done' cut' i dealt names =
    subst (λ (l : List ℕ). AreDealt (all ++ i ∷ []) done' l) (sym names.1) (subst (λ (l : List ℕ). AreDealt (all ++ i ∷ []) l cut) (sym names.0) (dealt_to_some all done cut i dealt))
dealt_by_outcome Cut all done cut done' cut' i dealt names =
    subst (λ (l : List ℕ). AreDealt (all ++ i ∷ []) done' l) (sym names.1) (subst (λ (l : List ℕ). AreDealt (all ++ i ∷ []) l (cut ++ i ∷ [])) (sym names.0) (dealt_to_others all done cut i dealt))

-- what is named, where one claim more stands for no piece
pub still_named : (task : Option TaskView) (count : ℕ) (done cut claimed after : List ℕ) (n : ℕ) → AreNamed (has_claims task) (pieces_among task count claimed) done cut → after ≡ claimed ++ n ∷ [] → piece_of task count n ≡ [] → AreNamed (has_claims task) (pieces_among task count after) done cut
still_named task count done cut claimed after n h claim none =
    subst (λ (l : List ℕ). AreNamed (has_claims task) l done cut) (sym (among_same task count claimed after n claim none)) h

-- where its piece is passed over
pub passed_more : (task : Option TaskView) (count : ℕ) (done cut claimed after : List ℕ) (n piece : ℕ) → AreNamed (has_claims task) (pieces_among task count claimed) done cut → after ≡ claimed ++ n ∷ [] → piece_of task count n ≡ piece ∷ [] → has_claims task ≡ true → AreNamed (has_claims task) (pieces_among task count after) done cut
passed_more task count done cut claimed after n piece h claim is claims =
    subst (λ (l : List ℕ). AreNamed (has_claims task) l done cut) (sym (among_more task count claimed after n (piece ∷ []) claim is)) (record {
      granted = h.granted;
      passed = h.passed ++ piece ∷ [];
      is_granted = dealt_to_others (pieces_among task count claimed) h.granted h.passed piece h.is_granted;
      named = h.named;
      all_granted = λ none. absurd (false≢true (sym none ∙ claims));
    })

-- and where its piece is named
pub named_more : (task : Option TaskView) (count : ℕ) (outcome : Outcome) (done cut done' cut' claimed after : List ℕ) (n piece : ℕ) → AreNamed (has_claims task) (pieces_among task count claimed) done cut → NamesOneMore outcome piece done cut done' cut' → after ≡ claimed ++ n ∷ [] → piece_of task count n ≡ piece ∷ [] → AreNamed (has_claims task) (pieces_among task count after) done' cut'
named_more task count outcome done cut done' cut' claimed after n piece h names claim is =
    subst (λ (l : List ℕ). AreNamed (has_claims task) l done' cut') (sym (among_more task count claimed after n (piece ∷ []) claim is)) (record {
      granted = h.granted ++ piece ∷ [];
      passed = h.passed;
      is_granted = dealt_to_some (pieces_among task count claimed) h.granted h.passed piece h.is_granted;
      named = dealt_by_outcome outcome h.granted done cut done' cut' piece h.named names;
      all_granted = h.all_granted;
    })

-- where the last claim is past all numbers
pub named_past : (task : Option TaskView) (count numbers : ℕ) (done cut claimed after : List ℕ) → numbers ≡ numbers_for task count → AreNamed (has_claims task) (pieces_among task count claimed) done cut → (n : ℕ) × (numbers ≤ n) × (after ≡ claimed ++ n ∷ []) → AreNamed (has_claims task) (pieces_among task count after) done cut
named_past task count numbers done cut claimed after all h (n, past, claim) = still_named task count done cut claimed after n h claim (past_none task count n (subst (λ (k : ℕ). k ≤ n) all past))

pub ends_past : (task : Option TaskView) (count numbers : ℕ) (claimed after : List ℕ) → numbers ≡ numbers_for task count → (n : ℕ) × (numbers ≤ n) × (after ≡ claimed ++ n ∷ []) → EndsPast (numbers_for task count) after
ends_past task count numbers claimed after all (n, past, claim) = record { front = claimed; last = n; ends = claim; no_piece = subst (λ (k : ℕ). k ≤ n) all past }

-- without a budget each search is whole, by what it tells
pub whole_by : (nodes : Option ℕ) (outcome : Outcome) → IfNone nodes (outcome ≡ Whole) → nodes ≡ None → outcome ≡ Whole
whole_by None outcome told none = told
whole_by (Some budget) outcome told none = cc

pub whole_alone : (X : Type 0) (nodes : Option ℕ) (outcome : Outcome) → IfNone nodes ((outcome ≡ Whole) × X) → IfNone nodes (outcome ≡ Whole)
whole_alone X None outcome told = told.0
whole_alone X (Some budget) outcome told = tt

-- a search that was cut made all decisions of its budget, where there is one
pub used_up_by : (nodes : Option ℕ) (outcome : Outcome) (n : ℕ) → (outcome ≡ Cut → nodes ≡ Some n) → IfSome nodes (λ budget. outcome ≡ Cut → budget ≡ n)
used_up_by None outcome n used_up = tt
used_up_by (Some budget) outcome n used_up = λ is_cut. let same : Some budget ≡ Some n = used_up is_cut in cc

-- without a budget nothing is cut, also where one more is named
pub uncut_more : (nodes : Option ℕ) (outcome : Outcome) (i : ℕ) (done cut done' cut' : List ℕ) → NamesOneMore outcome i done cut done' cut' → (nodes ≡ None → outcome ≡ Whole) → IfNone nodes (cut ≡ []) → IfNone nodes (cut' ≡ [])
uncut_more None Whole i done cut done' cut' names whole none = names.1 ∙ none
uncut_more None Cut i done cut done' cut' names whole none = let other : Cut ≡ Whole = whole refl in cc
uncut_more (Some budget) outcome i done cut done' cut' names whole none = tt

-- the seat is as before in its board and parts, from step to step
pub same_seat_itself : (s : BoardShareView) → SameSeat s s
same_seat_itself s = record { board = refl; worker = refl; seat_of = refl; parts = refl }

pub same_seat_onward : (s t u : BoardShareView) → SameSeat s t → SameSeat t u → SameSeat s u
same_seat_onward s t u h k = record { board = k.board ∙ h.board; worker = k.worker ∙ h.worker; seat_of = k.seat_of ∙ h.seat_of; parts = k.parts ∙ h.parts }

pub same_seat_kept : (s t : BoardShareView) → KeepsClaims s t → SameSeat s t
same_seat_kept s t h = record { board = h.board; worker = h.worker; seat_of = h.seat_of; parts = h.parts }

-- no claim is named yet
pub none_named : (task : Option TaskView) (count : ℕ) (done cut claimed : List ℕ) → done ≡ [] → cut ≡ [] → claimed ≡ [] → AreNamed (has_claims task) (pieces_among task count claimed) done cut
none_named task count done cut claimed none_done none_cut unclaimed =
    subst (λ (l : List ℕ). AreNamed (has_claims task) (pieces_among task count l) done cut) (sym unclaimed) (record {
      granted = [];
      passed = [];
      is_granted = (refl, refl);
      named = (none_done, none_cut);
      all_granted = λ _. refl;
    })

pub none_cut : (nodes : Option ℕ) (cut : List ℕ) → cut ≡ [] → IfNone nodes (cut ≡ [])
none_cut None cut is = is
none_cut (Some budget) cut is = tt

-- nothing is counted yet
pub none_counted : (nodes : Option ℕ) (done decisions cut cut_decisions : List ℕ) → done ≡ [] → decisions ≡ [] → cut ≡ [] → cut_decisions ≡ [] → IfSome nodes (λ budget. AreCounted budget done decisions cut cut_decisions)
none_counted None done decisions cut cut_decisions no_done no_decisions no_cut no_cut_decisions = tt
none_counted (Some budget) done decisions cut cut_decisions no_done no_decisions no_cut no_cut_decisions = record {
  counted = ap length no_decisions ∙ sym (ap length no_done);
  within = subst (λ (l : List ℕ). All (λ n. n ≤ budget) l) (sym no_decisions) (All-nil (λ n. n ≤ budget));
  cut_counted = ap length no_cut_decisions ∙ sym (ap length no_cut);
  used_up = subst (λ (l : List ℕ). All (λ n. n ≡ budget) l) (sym no_cut_decisions) (All-nil (λ n. n ≡ budget));
}

same_lengths : (l m l' m' : List ℕ) (i j : ℕ) → l' ≡ l ++ i ∷ [] → m' ≡ m ++ j ∷ [] → length l ≡ length m → length l' ≡ length m'
same_lengths l m l' m' i j more more' same = omega (arith, ap length more, ap length more', length-append l (i ∷ []), length-append m (j ∷ []))

-- the decisions of one more search are counted
counted_of_more : (budget : ℕ) (outcome : Outcome) (i n : ℕ) (done decisions cut cut_decisions done' decisions' cut' cut_decisions' : List ℕ)
    → NamesOneMore outcome i done cut done' cut' → NamesOneMore outcome n decisions cut_decisions decisions' cut_decisions'
    → n ≤ budget → (outcome ≡ Cut → budget ≡ n) → AreCounted budget done decisions cut cut_decisions → AreCounted budget done' decisions' cut' cut_decisions'
counted_of_more budget Whole i n done decisions cut cut_decisions done' decisions' cut' cut_decisions' names counts within used_up h = record {
  counted = same_lengths decisions done decisions' done' n i counts.0 names.0 h.counted;
  within = subst (λ (l : List ℕ). All (λ k. k ≤ budget) l) (sym counts.0) (All-push (λ k. k ≤ budget) decisions n h.within within);
  cut_counted = ap length counts.1 ∙ h.cut_counted ∙ sym (ap length names.1);
  used_up = subst (λ (l : List ℕ). All (λ k. k ≡ budget) l) (sym counts.1) h.used_up;
}
counted_of_more budget Cut i n done decisions cut cut_decisions done' decisions' cut' cut_decisions' names counts within used_up h = record {
  counted = ap length counts.0 ∙ h.counted ∙ sym (ap length names.0);
  within = subst (λ (l : List ℕ). All (λ k. k ≤ budget) l) (sym counts.0) h.within;
  cut_counted = same_lengths cut_decisions cut cut_decisions' cut' n i counts.1 names.1 h.cut_counted;
  used_up = subst (λ (l : List ℕ). All (λ k. k ≡ budget) l) (sym counts.1) (All-push (λ k. k ≡ budget) cut_decisions n h.used_up (sym (used_up refl)));
}

-- they are counted where there is a budget
pub counted_where : (nodes : Option ℕ) (outcome : Outcome) (i n : ℕ) (done decisions cut cut_decisions done' decisions' cut' cut_decisions' : List ℕ)
    → NamesOneMore outcome i done cut done' cut' → NamesOneMore outcome n decisions cut_decisions decisions' cut_decisions'
    → IfSome nodes (λ budget. n ≤ budget) → (outcome ≡ Cut → nodes ≡ Some n)
    → IfSome nodes (λ budget. AreCounted budget done decisions cut cut_decisions) → IfSome nodes (λ budget. AreCounted budget done' decisions' cut' cut_decisions')
counted_where None outcome i n done decisions cut cut_decisions done' decisions' cut' cut_decisions' names counts within used_up h = tt
counted_where (Some budget) outcome i n done decisions cut cut_decisions done' decisions' cut' cut_decisions' names counts within used_up h =
    counted_of_more budget outcome i n done decisions cut cut_decisions done' decisions' cut' cut_decisions' names counts within (λ is_cut. let same : Some budget ≡ Some n = used_up is_cut in cc) h

-- they are counted as before, where the lists are as before
pub counted_as : (nodes : Option ℕ) (done decisions cut cut_decisions done' decisions' cut' cut_decisions' : List ℕ)
    → done' ≡ done → decisions' ≡ decisions → cut' ≡ cut → cut_decisions' ≡ cut_decisions
    → IfSome nodes (λ budget. AreCounted budget done decisions cut cut_decisions) → IfSome nodes (λ budget. AreCounted budget done' decisions' cut' cut_decisions')
counted_as None done decisions cut cut_decisions done' decisions' cut' cut_decisions' same_done same_decisions same_cut same_cut_decisions h = tt
counted_as (Some budget) done decisions cut cut_decisions done' decisions' cut' cut_decisions' same_done same_decisions same_cut same_cut_decisions h = record {
  counted = ap length same_decisions ∙ h.counted ∙ sym (ap length same_done);
  within = subst (λ (l : List ℕ). All (λ n. n ≤ budget) l) (sym same_decisions) h.within;
  cut_counted = ap length same_cut_decisions ∙ h.cut_counted ∙ sym (ap length same_cut);
  used_up = subst (λ (l : List ℕ). All (λ n. n ≡ budget) l) (sym same_cut_decisions) h.used_up;
}

-- and they are counted by what is told of the search
pub counted_more : (nodes told : Option ℕ) (outcome : Outcome) (i n : ℕ) (done decisions cut cut_decisions done' decisions' cut' cut_decisions' : List ℕ)
    → told ≡ option_map (λ _. n) nodes → NamesOneMore outcome i done cut done' cut' → IfSome told (λ k. NamesOneMore outcome k decisions cut_decisions decisions' cut_decisions')
    → IfSome nodes (λ budget. n ≤ budget) → IfSome nodes (λ budget. outcome ≡ Cut → budget ≡ n)
    → IfSome nodes (λ budget. AreCounted budget done decisions cut cut_decisions) → IfSome nodes (λ budget. AreCounted budget done' decisions' cut' cut_decisions')
counted_more None told outcome i n done decisions cut cut_decisions done' decisions' cut' cut_decisions' is names counts within used_up h = tt
counted_more (Some budget) told outcome i n done decisions cut cut_decisions done' decisions' cut' cut_decisions' is names counts within used_up h =
    counted_where (Some budget) outcome i n done decisions cut cut_decisions done' decisions' cut' cut_decisions' names
    (subst (λ (o : Option ℕ). IfSome o (λ k. NamesOneMore outcome k decisions cut_decisions decisions' cut_decisions')) is counts)
    within (λ is_cut. ap Some (used_up is_cut)) h

-- room for the decisions of one more search
pub room_told : (X : Type 0) (nodes told : Option ℕ) (n : ℕ) → told ≡ option_map (λ _. n) nodes → IfSome nodes (λ _. X) → IfSome told (λ _. X)
room_told X None told n is room = subst (λ (o : Option ℕ). IfSome o (λ _. X)) (sym is) tt
room_told X (Some budget) told n is room = subst (λ (o : Option ℕ). IfSome o (λ _. X)) (sym is) room

-- what a worker did, from what it claimed and named
pub whole_work : (p : Problem) (pieces : CubeList) (task : Option TaskView) (nodes : Option ℕ) (race : Bool) (part : PartView) (claimed after named cut decisions cut_decisions : List ℕ) (count : ℕ) (best : Incumbent)
    → part ≡ record { pieces = pieces; named = named; cut = cut; decisions = decisions; cut_decisions = cut_decisions; best = best } → claimed ≡ after → count ≡ piece_count pieces → best.problem ≡ p
    → AreNamed (has_claims task) (pieces_among task count after) named cut → (race ≡ false → IfNone nodes (cut ≡ [])) → IfSome nodes (λ budget. AreCounted budget named decisions cut cut_decisions)
    → length after ≤ numbers_for task count + 1 → EndsPast (numbers_for task count) after ⊎ (length after ≡ numbers_for task count + 1) → IsWork p pieces task nodes race part claimed
whole_work p pieces task nodes race part claimed after named cut decisions cut_decisions count best is same number of_instance names uncut budget most ends =
    subst (λ (x : PartView). IsWork p pieces task nodes race x claimed) (sym is)
    (subst (λ (l : List ℕ). IsWork p pieces task nodes race (record { pieces = pieces; named = named; cut = cut; decisions = decisions; cut_decisions = cut_decisions; best = best }) l) (sym same) (record {
      of_instance = of_instance;
      of_pieces = refl;
      named = subst (λ (n : ℕ). AreNamed (has_claims task) (pieces_among task n after) named cut) number names;
      uncut = uncut;
      budget = budget;
      most = subst (λ (n : ℕ). length after ≤ numbers_for task n + 1) number most;
      ends = subst (λ (n : ℕ). EndsPast (numbers_for task n) after ⊎ (length after ≡ numbers_for task n + 1)) number ends;
    }))

-- the named pieces are done in the part's own words
pub part_done : (d : Division) (pieces : CubeList) (named cut decisions cut_decisions : List ℕ) (best : Incumbent) → d ≡ record { problem = best.problem; cubes = pieces.cubes } → All (λ i. IsDone d i best.held) named
    → AreDone (record { pieces = pieces; named = named; cut = cut; decisions = decisions; cut_decisions = cut_decisions; best = best })
part_done d pieces named cut decisions cut_decisions best is done = subst (λ (x : Division). All (λ i. IsDone x i best.held) named) is done
