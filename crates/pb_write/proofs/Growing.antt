-- How the bytes of a writer grow, piece by piece.
use Rattle.std.proofs.Common.{◌≡◌, ℕ, ◌+◌, List, [], ◌∷◌, ◌++◌, take, get_or, map, Option, Some, sym, ap, subst, ◌∙◌, append-nil}
use Rattle.std.specs.Prelude.{flat_map, slice_get}
use Rattle.std.proofs.KnownBytes.{Appends-nil, Appends-trans}
use Rattle.std.proofs.lemmas.Grind.{flat_map-append}
use Rattle.std.proofs.lemmas.List.{take_more}
use Rattle.std.proofs.lemmas.List.Folds.{flat_map-map}
use Rattle.std.proofs.lemmas.Option.{get_or_from_slice_get, slice_get_within}
use Rattle.pb_write.specs.Written.{Adds}

pub adds_none : {T : Type 0} (contents : T → Option (List ℕ)) (a : T) → Adds contents a a []
adds_none contents a = record { grown = Appends-nil (contents a) }

pub adds_both : {T : Type 0} (contents : T → Option (List ℕ)) (a b c : T) (bs cs : List ℕ) → Adds contents a b bs → Adds contents b c cs → Adds contents a c (bs ++ cs)
adds_both contents a b c bs cs p q = record { grown = Appends-trans (contents a) (contents b) (contents c) bs cs p.grown q.grown }

-- the texts of one more element
pub flat_map_more : {X : Type 0} (f : X → List ℕ) (xs : List X) (i : ℕ) (x : X) → slice_get xs i ≡ Some x → flat_map f (take (i + 1) xs) ≡ flat_map f (take i xs) ++ f x
flat_map_more f xs i x read =
    ap (λ l. flat_map f l) (take_more xs i x (slice_get_within xs i x read))
    ∙ flat_map-append f (take i xs) (get_or xs i x ∷ [])
    ∙ ap (λ l. flat_map f (take i xs) ++ l) (append-nil (f (get_or xs i x)) ∙ ap f (get_or_from_slice_get xs i x x read))

pub adds_more : {T X : Type 0} (contents : T → Option (List ℕ)) (f : X → List ℕ) (xs : List X) (i : ℕ) (x : X) (a b c : T) → slice_get xs i ≡ Some x → Adds contents a b (flat_map f (take i xs)) → Adds contents b c (f x)
    → Adds contents a c (flat_map f (take (i + 1) xs))
adds_more contents f xs i x a b c read p q = subst (λ bytes. Adds contents a c bytes) (sym (flat_map_more f xs i x read)) (adds_both contents a b c (flat_map f (take i xs)) (f x) p q)

-- the same of what the elements are mapped to
pub adds_mapped : {T X Y : Type 0} (contents : T → Option (List ℕ)) (f : Y → List ℕ) (h : X → Y) (xs : List X) (i : ℕ) (x : X) (a b c : T) → slice_get xs i ≡ Some x → Adds contents a b (flat_map f (map h (take i xs)))
    → Adds contents b c (f (h x)) → Adds contents a c (flat_map f (map h (take (i + 1) xs)))
adds_mapped contents f h xs i x a b c read p q =
    subst (λ bytes. Adds contents a c bytes) (sym (flat_map-map f h (take (i + 1) xs)))
    (adds_more contents (λ y. f (h y)) xs i x a b c read (subst (λ bytes. Adds contents a b bytes) (flat_map-map f h (take i xs)) p) q)
