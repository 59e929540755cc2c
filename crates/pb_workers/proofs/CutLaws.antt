-- Whether some part names a piece that was cut.
use Rattle.std.proofs.Common.{◌≡◌, ◌≢◌, ◌↔◌, ℕ, zero, suc, ◌+◌, ◌<◌, List, [], ◌∷◌, ◌++◌, ◌⊎◌, inl, inr, Bool, true, false, not, ◌||◌, ◌==◌, IsTrue, Option, None, Some, length, take, get_or, refl, sym, ◌∙◌, ap, subst, arith, rules, tests}
use Rattle.std.specs.Prelude.{All, Any, IfNone, flat_map}
use Rattle.std.proofs.lemmas.Bool.{false≢true}
use Rattle.std.proofs.lemmas.List.{take_more}
use Rattle.std.proofs.lemmas.List.Elements.{All-contains, All-tail}
use Rattle.std.proofs.lemmas.List.Sorted.{length_permutation}
use Rattle.std.proofs.lemmas.List.Quantifiers.{Any-push}
use Rattle.pb_workers.specs.Dealing.{TaskView, AreNamesOf}
use Rattle.pb_workers.specs.Parts.{PartView}

abbrev pub HasCut : PartView → Type 0
HasCut part = part.cut ≢ []

-- an element of a longer list stands in the shorter one, or is the new one
any_of_more : {X : Type 0} (P : X → Type 0) (xs : List X) (y : X) → Any P (xs ++ y ∷ []) → Any P xs ⊎ P y
any_of_more P [] y (zero, x, within, is, holds) = inr (subst P (sym is) holds)
any_of_more P [] y (suc k, x, within, is, holds) = absurd (omega arith)
any_of_more P (z ∷ xs) y (zero, x, within, is, holds) = inl (zero, x, omega arith, is, holds)
any_of_more P (z ∷ xs) y (suc k, x, within, is, holds) = elim (any_of_more P xs y (k, x, omega arith, is, holds)) [
  | inl h ↦ inl (suc h.0, h.1, (let below : h.0 < length xs = h.2 in omega arith), h.3, h.4)
  | inr h ↦ inr h
]

any_still : {X : Type 0} (P : X → Type 0) (xs : List X) (y : X) → Any P xs → Any P (xs ++ y ∷ [])
any_still P (z ∷ xs) y (zero, x, within, is, holds) = (zero, x, omega arith, is, holds)
any_still P (z ∷ xs) y (suc k, x, within, is, holds) =
    let more = any_still P xs y (k, x, omega arith, is, holds) in
    (suc more.0, more.1, (let below : more.0 < length (xs ++ y ∷ []) = more.2 in omega arith), more.3, more.4)
any_still P [] y (k, x, within, is, holds) = absurd (omega arith)

one_or_more : (n : ℕ) → ((suc n) == 0) ≡ false
one_or_more n = search (rules, tests)

-- a list that is seen to be not empty
is_some : (cut seen : List ℕ) (empty : Bool) → seen ≡ cut → empty ≡ (length seen == 0) → IsTrue (not empty) ↔ (cut ≢ [])
is_some [] seen empty is told =
    let yes : empty ≡ true = told ∙ ap (λ (l : List ℕ). length l == 0) is in
    ((λ some. cc), (λ differs. absurd (differs refl)))
is_some (n ∷ cut) seen empty is told =
    let no : empty ≡ false = told ∙ ap (λ (l : List ℕ). length l == 0) is ∙ one_or_more (length cut) in
    ((λ some none. cc), (λ differs. ap not no))

-- what is known of some parts and of one more
pub known_more : (P Q : Type 0) (known more : Bool) → (IsTrue known ↔ P) → (IsTrue more ↔ Q) → IsTrue (known || more) ↔ (P ⊎ Q)
known_more P Q true more h k = ((λ yes. inl (h.0 refl)), (λ some. refl))
known_more P Q false more h k = ((λ yes. inr (k.0 yes)), (λ some. elim some [ inl p ↦ absurd (false≢true (h.1 p)) | inr q ↦ k.1 q ]))

-- whether some part has a cut piece, of one part more
pub cut_more : (parts : List PartView) (i : ℕ) (part : PartView) (seen : List ℕ) (known empty : Bool) → i < length parts → part ≡ get_or parts i part → seen ≡ part.cut → empty ≡ (length seen == 0)
    → (IsTrue known ↔ Any HasCut (take i parts)) → IsTrue (known || not empty) ↔ Any HasCut (take (i + 1) parts)
cut_more parts i part seen known empty within read is told h =
    let more : take (i + 1) parts ≡ take i parts ++ part ∷ [] = take_more parts i part within ∙ ap (λ (x : PartView). take i parts ++ x ∷ []) (sym read) in
    let both = known_more (Any HasCut (take i parts)) (HasCut part) known (not empty) h (is_some part.cut seen empty is told) in
    subst (λ (l : List PartView). IsTrue (known || not empty) ↔ Any HasCut l) (sym more) (
      (λ yes. elim (both.0 yes) [
        | inl some ↦ any_still HasCut (take i parts) part some
        | inr it ↦ Any-push HasCut (take i parts) part it
      ]),
      (λ some. both.1 (any_of_more HasCut (take i parts) part some)),
    )

-- without a budget nothing was cut
pub none_cut_of_all : (nodes : Option ℕ) (parts : List PartView) (cut : Bool) → IfNone nodes (All (λ (x : PartView). x.cut ≡ []) parts) → (IsTrue cut → Any (λ (x : PartView). x.cut ≢ []) parts) → IfNone nodes (cut ≡ false)
none_cut_of_all (Some budget) parts cut none told = tt
none_cut_of_all None parts false none told = refl
none_cut_of_all None parts true none told =
    let some = told refl in
    absurd (some.4 (All-contains (λ (x : PartView). x.cut ≡ []) parts some.1 none (some.0, some.2, some.3)))

-- no part has a cut piece, where that was told
pub none_cut_told : (parts : List PartView) (cut : Bool) → (Any (λ (x : PartView). x.cut ≢ []) parts → IsTrue cut) → cut ≡ false → Any (λ (x : PartView). x.cut ≢ []) parts → ⊥
none_cut_told parts cut told none some = false≢true (sym none ∙ told some)

-- the names of parts of which none has a cut piece
none_of_parts : (parts : List PartView) → All (λ (x : PartView). x.cut ≡ []) parts → flat_map (λ (x : PartView). x.cut) parts ≡ []
none_of_parts [] none = refl
none_of_parts (part ∷ parts) none =
    ap (λ (l : List ℕ). l ++ flat_map (λ (x : PartView). x.cut) parts) (All-contains (λ (x : PartView). x.cut ≡ []) (part ∷ parts) part none (0, omega arith, refl))
    ∙ none_of_parts parts (All-tail (λ (x : PartView). x.cut ≡ []) part parts none)

empty_by_length : (l : List ℕ) → length l ≡ 0 → l ≡ []
empty_by_length [] is = refl
empty_by_length (n ∷ l) is = absurd (omega arith)

-- without a budget no name is that of a cut piece
pub no_cut_names : (task : TaskView) (nodes : Option ℕ) (parts : List PartView) (done cut : List ℕ) → IfNone nodes (All (λ (x : PartView). x.cut ≡ []) parts) → AreNamesOf (Some task) parts done cut → IfNone nodes (cut ≡ [])
no_cut_names task None parts done cut none names =
    empty_by_length cut (length_permutation (flat_map (λ (x : PartView). x.cut) parts) cut names.1 ∙ ap length (none_of_parts parts none))
no_cut_names task (Some budget) parts done cut none names = tt
