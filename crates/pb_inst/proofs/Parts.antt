-- Parts of one list, and lists of what is made of such parts.
use Rattle.std.proofs.Common.{◌≡◌, ℕ, ◌+◌, ◌-◌, ◌≤◌, List, [], ◌∷◌, ◌++◌, length, map, take, drop, refl, sym, ◌∙◌, ap, arith, All, sum_by, slice_range}
use Rattle.std.proofs.lemmas.List.{length-take, length-drop, length-append, take_all, drop_at, take-append-le, drop-append-le, map_push}
use Rattle.std.proofs.lemmas.List.Elements.{All-head, All-tail, All-push, All-weaker}
use Rattle.std.proofs.lemmas.List.Sums.{sum_by-cons, sum_by_push}

-- the length of a part
length-part : {X : Type 0} (xs : List X) (a b : ℕ) → a ≤ b → b ≤ length xs → length (slice_range xs a b) ≡ b - a
length-part xs a b low high = omega (arith, length-take (b - a) (drop a xs), length-drop a xs)

-- more at the end changes no part
part_stays : {X : Type 0} (xs more : List X) (a b : ℕ) → a ≤ b → b ≤ length xs → slice_range (xs ++ more) a b ≡ slice_range xs a b
part_stays {X} xs more a b low high =
    ap (λ (part : List X). take (b - a) part) (drop-append-le a xs more (omega arith)) ∙ take-append-le (b - a) (drop a xs) more (omega (arith, length-drop a xs))

-- what was added at the end is a part
new_part : {X : Type 0} (xs more : List X) (a b : ℕ) → a ≡ length xs → b ≡ length xs + length more → slice_range (xs ++ more) a b ≡ more
new_part {X} xs more a b start end =
    ap (λ (part : List X). take (b - a) part) (drop_at xs more a (sym start)) ∙ take_all (b - a) more (omega arith)

-- the part from `start` up to `end` lies in the list
abbrev pub LiesWithin : {X R : Type 0} → (R → ℕ) → (R → ℕ) → List X → R → Type 0
LiesWithin start end xs r = (start r ≤ end r) × (end r ≤ length xs)

-- what is made of the part
abbrev pub of_part : {X R C : Type 0} → (R → ℕ) → (R → ℕ) → (R → List X → C) → List X → R → C
of_part start end make xs r = make r (slice_range xs (start r) (end r))

module _ {X R : Type 0} (start end : R → ℕ) where
  -- one more part, that of what is added at the end
  pub LiesWithin-push : (xs more : List X) (rs : List R) (r : R) → All (LiesWithin start end xs) rs → start r ≡ length xs → end r ≡ length xs + length more → All (LiesWithin start end (xs ++ more)) (rs ++ r ∷ [])
  LiesWithin-push xs more rs r all starts ends =
      let len = length-append xs more in
      let kept : All (LiesWithin start end (xs ++ more)) rs = All-weaker (LiesWithin start end xs) (LiesWithin start end (xs ++ more)) (λ s h. (h.0, omega (arith, h.1))) rs all in
      All-push (LiesWithin start end (xs ++ more)) rs r kept (omega arith, omega arith)

  -- the parts still count all that there is
  pub counted-push : (xs more : List X) (rs : List R) (r : R) → sum_by (λ s. end s - start s) rs ≡ length xs → start r ≡ length xs → end r ≡ length xs + length more → sum_by (λ s. end s - start s) (rs ++ r ∷ []) ≡ length (xs ++ more)
  counted-push xs more rs r counted starts ends =
      let sums = sum_by_push (λ (s : R). end s - start s) rs r in
      let len = length-append xs more in
      omega arith

module _ {X R C : Type 0} (start end : R → ℕ) (make : R → List X → C) where
  parts_stay : (xs more : List X) (rs : List R) → All (LiesWithin start end xs) rs → map (of_part start end make (xs ++ more)) rs ≡ map (of_part start end make xs) rs
  parts_stay xs more [] all = refl
  parts_stay xs more (r ∷ rs) all =
      let here : LiesWithin start end xs r = All-head (LiesWithin start end xs) r rs all in
      let same : of_part start end make (xs ++ more) r ≡ of_part start end make xs r = ap (make r) (part_stays xs more (start r) (end r) here.0 here.1) in
      let rest = parts_stay xs more rs (All-tail (LiesWithin start end xs) r rs all) in
      cc

  -- a part for what is added at the end makes one more at the end
  pub parts_push : (xs more : List X) (rs : List R) (r : R) → All (LiesWithin start end xs) rs → start r ≡ length xs → end r ≡ length xs + length more → map (of_part start end make (xs ++ more)) (rs ++ r ∷ []) ≡ map (of_part start end make xs) rs ++ make r more ∷ []
  parts_push xs more rs r all starts ends =
      map_push (of_part start end make (xs ++ more)) rs r
      ∙ (ap (λ (cs : List C). cs ++ of_part start end make (xs ++ more) r ∷ []) (parts_stay xs more rs all) ∙ ap (λ (part : List X). map (of_part start end make xs) rs ++ make r part ∷ []) (new_part xs more (start r) (end r) starts ends))

  -- what is made of the parts is as long together as the parts
  pub total_of_parts : (size : C → ℕ) → ((r : R) (part : List X) → size (make r part) ≡ length part) → (xs : List X) (rs : List R) → All (LiesWithin start end xs) rs → sum_by size (map (of_part start end make xs) rs) ≡ sum_by (λ r. end r - start r) rs
  total_of_parts size same xs [] all = refl
  total_of_parts size same xs (r ∷ rs) all =
      let here : LiesWithin start end xs r = All-head (LiesWithin start end xs) r rs all in
      let len = length-part xs (start r) (end r) here.0 here.1 in
      let first = same r (slice_range xs (start r) (end r)) in
      let left = sum_by-cons size (of_part start end make xs r) (map (of_part start end make xs) rs) in
      let right = sum_by-cons (λ (s : R). end s - start s) r rs in
      let rest = total_of_parts size same xs rs (All-tail (LiesWithin start end xs) r rs all) in
      omega arith
