use Rattle.std.proofs.Common.{◌≡◌, Bool, true, false, List, [], ◌∷◌, ap, cond, map, refl, rules, string_bytes, subst, sym, ◌∙◌}
use Rattle.std.specs.Prelude.{filter, IsPermutation}
use Rattle.std.proofs.lemmas.List.Elements.{filter_from_retain}
use Rattle.std.proofs.lemmas.List.Sorted.{IsPermutation-map}
use Rattle.pb_files.specs.Reading.{is_report_name}
use Rattle.pb_files.specs.Texts.{texts}
use Rattle.pb_files.proofs.listing.named_in.Goals as goal

filter-map : {X Y : Type 0} (p : Y → Bool) (f : X → Y) (xs : List X) → filter p (map f xs) ≡ map f (filter (λ x. p (f x)) xs)
filter-map p f [] = refl
filter-map {X} p f (x ∷ xs) = chosen (p (f x)) (filter-map p f xs) where
  chosen : (b : Bool) → filter p (map f xs) ≡ map f (filter (λ y. p (f y)) xs)
      → cond b (f x ∷ filter p (map f xs)) (filter p (map f xs)) ≡ map f (cond b (x ∷ filter (λ y. p (f y)) xs) (filter (λ y. p (f y)) xs))
  chosen true e = ap (λ l. f x ∷ l) e
  chosen false e = e

pub returns-clause-reports : goal.returns-clause-reports
returns-clause-reports c =
    let found = c.args.found.items in
    let kept = filter_from_retain _ (λ name. is_report_name (string_bytes name)) (λ p x b q k. search rules) _ found _ c.retain.ensures.filtered in
    let same = ap (map string_bytes) kept ∙ sym (filter-map is_report_name string_bytes found) in
    subst (λ names. IsPermutation names (texts c.sort_unstable.new.self)) same (IsPermutation-map string_bytes _ _ c.sort_unstable.ensures.permutation)
