-- Laws of runs and pieces.
use Rattle.std.proofs.Common.{◌≡◌, refl, ap, ◌∙◌, List, [], ◌∷◌, ◌++◌, Bool, true, false, not, cond, map}
use Rattle.std.specs.List.{list_any, flat_map, onto_first}
use Rattle.std.proofs.lemmas.Bool.{or_parts}
use Rattle.pb_read.specs.Runs.{first_is, runs, pieces}

first_const : {X : Type 0} (b : Bool) (xs : List X) (e : X) (ys : List X) → first_is (λ y. b) (xs ++ e ∷ ys) ≡ b
first_const b [] e ys = refl
first_const b (x ∷ xs) e ys = refl

-- a piece ends with its first element that passes
pub pieces_cut : {X : Type 0} (p : X → Bool) (xs : List X) (e : X) (ys : List X) → list_any p xs ≡ false → p e ≡ true → pieces p (xs ++ e ∷ ys) ≡ (xs ++ e ∷ []) ∷ pieces p ys
pieces_cut p [] e [] none h = refl
pieces_cut p [] e (y ∷ ys) none h = rw h refl
pieces_cut p (x ∷ xs) e ys none h =
    let parts = or_parts (p x) (list_any p xs) none in
    rw (first_const (not (p x)) xs e ys, parts.0, pieces_cut p xs e ys parts.1 h) refl

-- the last piece may have no such element
pub pieces_open : {X : Type 0} (p : X → Bool) (x : X) (xs : List X) → list_any p (x ∷ xs) ≡ false → pieces p (x ∷ xs) ≡ (x ∷ xs) ∷ []
pieces_open p x [] none = refl
pieces_open p x (y ∷ ys) none =
    let parts = or_parts (p x) (list_any p (y ∷ ys)) none in
    rw (parts.0, pieces_open p y ys parts.1) refl

flat_onto : {X : Type 0} (x : X) (rs : List (List X)) → flat_map (λ r. r) (onto_first x rs) ≡ x ∷ flat_map (λ r. r) rs
flat_onto x [] = refl
flat_onto x (r ∷ rs) = refl

flat_either : {X : Type 0} (b : Bool) (x : X) (rs : List (List X)) → flat_map (λ r. r) (cond b (onto_first x rs) ((x ∷ []) ∷ rs)) ≡ x ∷ flat_map (λ r. r) rs
flat_either true x rs = flat_onto x rs
flat_either false x rs = refl

-- the runs in a row are the list
pub runs_flat : {X : Type 0} (together : X → X → Bool) (xs : List X) → flat_map (λ r. r) (runs together xs) ≡ xs
runs_flat together [] = refl
runs_flat together (x ∷ xs) = flat_either (first_is (together x) xs) x (runs together xs) ∙ ap (λ l. x ∷ l) (runs_flat together xs)

first_map : {X Y : Type 0} (f : X → Y) (test : Y → Bool) (xs : List X) → first_is test (map f xs) ≡ first_is (λ x. test (f x)) xs
first_map f test [] = refl
first_map f test (x ∷ xs) = refl

map_either : {X Y : Type 0} (f : X → Y) (b : Bool) (x : X) (rs : List (List X)) → cond b (onto_first (f x) (map (map f) rs)) ((f x ∷ []) ∷ map (map f) rs) ≡ map (map f) (cond b (onto_first x rs) ((x ∷ []) ∷ rs))
map_either f true x [] = refl
map_either f true x (r ∷ rs) = refl
map_either f false x rs = refl

-- runs of images are images of runs
pub runs_map : {X Y : Type 0} (f : X → Y) (together : Y → Y → Bool) (xs : List X) → runs together (map f xs) ≡ map (map f) (runs (λ a b. together (f a) (f b)) xs)
runs_map f together [] = refl
runs_map f together (x ∷ xs) =
    rw (first_map f (together (f x)) xs, runs_map f together xs) (map_either f (first_is (λ b. together (f x) (f b)) xs) x (runs (λ a b. together (f a) (f b)) xs))
