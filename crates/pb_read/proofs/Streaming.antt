-- Statements one by one: what a reader knows of the tokens that it has taken.
use Rattle.std.proofs.Common.{◌≡◌, refl, sym, ap, ◌∙◌, List, [], ◌∷◌, ◌++◌, true, false, not, ◌||◌, map, append_assoc, Some, None, Option}
use Rattle.std.specs.List.{list_any}
use Rattle.std.proofs.lemmas.List.{append-nil}
use Rattle.std.proofs.lemmas.Bool.{not_from_false}
use Rattle.pb_read.specs.declared.fault.ReadKind.{ReadKind}
use Rattle.pb_read.specs.declared.fault.ReadKind.TheVariants.{Unfinished}
use Rattle.pb_read.specs.declared.fault.ReadFault.{ReadFault}
use Rattle.pb_read.specs.Text.{Placed, items}
use Rattle.pb_read.specs.Refusal.{Faults, first_kind, first_fault, at_line, ◌or_else◌}
use Rattle.pb_read.specs.Opb.{Token, is_end, statements_in, statement_of, statement_faults, line_of}
use Rattle.pb_read.specs.Reading.{Refuses, ends, IsAt}
use Rattle.pb_read.proofs.Pieces.{pieces_cut, pieces_open}

or_else_assoc : {X : Type 0} (a b c : Option X) → (a or_else (b or_else c)) ≡ ((a or_else b) or_else c)
or_else_assoc (Some x) b c = refl
or_else_assoc None b c = refl

-- the first fault of two rows of statements
pub first_fault_append : {X : Type 0} (faults : List X → X → Faults) (earlier : List X) (a b : List (Placed X)) → first_fault faults earlier (a ++ b) ≡ (first_fault faults earlier a or_else first_fault faults (earlier ++ items a) b)
first_fault_append {X} faults earlier [] b = rw append-nil refl
first_fault_append {X} faults earlier (s ∷ a) b =
    let mine : Option ReadFault = at_line s.line (first_kind (faults earlier s.item)) in
    ap (λ (r : Option ReadFault). mine or_else r) (first_fault_append faults (earlier ++ s.item ∷ []) a b)
    ∙ ap (λ (l : List X). mine or_else (first_fault faults (earlier ++ s.item ∷ []) a or_else first_fault faults l b)) (append_assoc earlier (s.item ∷ []) (items a))
    ∙ or_else_assoc mine (first_fault faults (earlier ++ s.item ∷ []) a) (first_fault faults (earlier ++ items (s ∷ a)) b)

cut : (begun : List (Placed Token)) (e : Placed Token) (more : List (Placed Token)) → list_any ends begun ≡ false → ends e ≡ true → statements_in (begun ++ e ∷ more) ≡ statement_of (begun ++ e ∷ []) ∷ statements_in more
cut begun e more unended h = ap (map statement_of) (pieces_cut ends begun e more unended h)

pub at_start : IsAt [] []
at_start = record { whole = λ more. refl; clear = refl; unended = refl }

module _ (done begun : List (Placed Token)) (e : Placed Token) (here : IsAt done begun) (h : ends e ≡ true) where
  pub statements_then : (more : List (Placed Token)) → statements_in (((done ++ begun) ++ e ∷ []) ++ more) ≡ statements_in done ++ statement_of (begun ++ e ∷ []) ∷ statements_in more
  statements_then more =
      let regroup : ((done ++ begun) ++ e ∷ []) ++ more ≡ done ++ (begun ++ e ∷ more) = simp append_assoc in
      ap statements_in regroup ∙ here.whole (begun ++ e ∷ more) ∙ ap (λ (ss : List (Placed (List Token))). statements_in done ++ ss) (cut begun e more here.unended h)

  -- the statement that ends here has a fault, and whatever follows it is the text's
  pub refuses_here : (k : ReadKind) → first_kind (statement_faults (items (statements_in done)) (items (begun ++ e ∷ []))) ≡ Some k
      → Refuses ((done ++ begun) ++ e ∷ []) (record { kind = k; line = line_of (begun ++ e ∷ []) })
  refuses_here k fault more =
      let s : Placed (List Token) = statement_of (begun ++ e ∷ []) in
      let rest : Option ReadFault = first_fault statement_faults (items (statements_in done) ++ s.item ∷ []) (statements_in more) in
      ap (first_fault statement_faults []) (statements_then more)
      ∙ first_fault_append statement_faults [] (statements_in done) (s ∷ statements_in more)
      ∙ ap (λ (o : Option ReadFault). o or_else (at_line s.line (first_kind (statement_faults (items (statements_in done)) s.item)) or_else rest)) here.clear
      ∙ ap (λ (o : Option ReadKind). at_line s.line o or_else rest) fault

  -- it has none, and the next statement begins
  pub goes_on_here : first_kind (statement_faults (items (statements_in done)) (items (begun ++ e ∷ []))) ≡ None → IsAt ((done ++ begun) ++ e ∷ []) []
  goes_on_here clear =
      let s : Placed (List Token) = statement_of (begun ++ e ∷ []) in
      let all : statements_in ((done ++ begun) ++ e ∷ []) ≡ statements_in done ++ s ∷ [] = ap statements_in (sym (append-nil ((done ++ begun) ++ e ∷ []))) ∙ statements_then [] in
      record {
        whole = λ more. statements_then more ∙ sym (append_assoc (statements_in done) (s ∷ []) (statements_in more)) ∙ ap (λ (ss : List (Placed (List Token))). ss ++ statements_in more) (sym all);
        clear = ap (first_fault statement_faults []) all
            ∙ first_fault_append statement_faults [] (statements_in done) (s ∷ [])
            ∙ ap (λ (o : Option ReadFault). o or_else (at_line s.line (first_kind (statement_faults (items (statements_in done)) s.item)) or_else None)) here.clear
            ∙ ap (λ (o : Option ReadKind). at_line s.line o or_else None) clear;
        unended = refl;
      }

-- the text ends between two statements
pub ends_whole : (done : List (Placed Token)) → IsAt done [] → first_fault statement_faults [] (statements_in (done ++ [])) ≡ None
ends_whole done here = ap (λ (ts : List (Placed Token)). first_fault statement_faults [] (statements_in ts)) (append-nil done) ∙ here.clear

same_ends : (ts : List (Placed Token)) → list_any is_end (items ts) ≡ list_any ends ts
same_ends [] = refl
same_ends (t ∷ ts) = ap (λ b. is_end t.item || b) (same_ends ts)

unfinished : (earlier : List (List Token)) (s : List Token) → not (list_any is_end s) ≡ true → first_kind (statement_faults earlier s) ≡ Some Unfinished
unfolding statement_faults
unfinished earlier s none = rw none refl

-- the text ends within a statement
pub ends_within : (done : List (Placed Token)) (t : Placed Token) (begun : List (Placed Token)) → IsAt done (t ∷ begun)
    → first_fault statement_faults [] (statements_in (done ++ t ∷ begun)) ≡ Some (record { kind = Unfinished; line = t.line })
ends_within done t begun here =
    let s : Placed (List Token) = statement_of (t ∷ begun) in
    let last : statements_in (t ∷ begun) ≡ s ∷ [] = ap (map statement_of) (pieces_open ends t begun here.unended) in
    let none : not (list_any is_end s.item) ≡ true = not_from_false (list_any is_end s.item) (same_ends (t ∷ begun) ∙ here.unended) in
    let fault : first_kind (statement_faults (items (statements_in done)) s.item) ≡ Some Unfinished = unfinished (items (statements_in done)) s.item none in
    ap (first_fault statement_faults []) (here.whole (t ∷ begun) ∙ ap (λ (ss : List (Placed (List Token))). statements_in done ++ ss) last)
    ∙ first_fault_append statement_faults [] (statements_in done) (s ∷ [])
    ∙ ap (λ (o : Option ReadFault). o or_else (at_line s.line (first_kind (statement_faults (items (statements_in done)) s.item)) or_else None)) here.clear
    ∙ ap (λ (o : Option ReadKind). at_line s.line o or_else None) fault
