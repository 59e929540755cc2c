-- How texts that end with a known byte are cut from what follows.
use Rattle.std.proofs.Common.{◌≡◌, ℕ, ◌<◌, List, [], ◌∷◌, ◌++◌, Bool, true, false, not, ◌&&◌, length, refl, ap, ◌∙◌, eqb, arith}
use Rattle.std.specs.List.{list_all, flat_map, onto_first}
use Rattle.std.proofs.lemmas.Bool.{and_parts, and_from, eqb-true, false≢true}
use Rattle.pb_read.specs.Runs.{runs}
use Rattle.pb_read.specs.Text.{lines}

-- each two neighbours belong together
abbrev pub joined : (ℕ → ℕ → Bool) → List ℕ → Bool
joined together [] = true
joined together (x ∷ []) = true
joined together (x ∷ y ∷ xs) = together x y && joined together (y ∷ xs)

-- such a list is the first run, where what follows it begins with a byte that belongs to none
pub runs_front : (together : ℕ → ℕ → Bool) (w : List ℕ) (y : ℕ) (rest : List ℕ) → 0 < length w → joined together w ≡ true → ((b : ℕ) → together b y ≡ false)
    → runs together (w ++ y ∷ rest) ≡ w ∷ runs together (y ∷ rest)
runs_front together [] y rest some h apart = absurd (omega arith)
runs_front together (x ∷ []) y rest some h apart = let e = apart x in rw e refl
runs_front together (x ∷ z ∷ w) y rest some h apart =
    let p = and_parts (together x z) (joined together (z ∷ w)) h in
    let next : runs together ((z ∷ w) ++ y ∷ rest) ≡ (z ∷ w) ∷ runs together (y ∷ rest) = runs_front together (z ∷ w) y rest (omega arith) p.1 apart in
    rw p.0 (ap (onto_first x) next)

-- the last byte is LF, and no other
abbrev pub is_line : List ℕ → Bool
is_line [] = false
is_line (b ∷ []) = eqb b 10
is_line (b ∷ c ∷ bs) = not (eqb b 10) && is_line (c ∷ bs)

after_feed : (rest : List ℕ) → lines (10 ∷ rest) ≡ (10 ∷ []) ∷ lines rest
after_feed [] = refl
after_feed (b ∷ bs) = refl

-- a line comes first
pub lines_front : (l rest : List ℕ) → is_line l ≡ true → lines (l ++ rest) ≡ l ∷ lines rest
lines_front [] rest h = absurd (false≢true h)
lines_front (b ∷ []) rest h = rw (eqb-true b 10 h) (after_feed rest)
lines_front (b ∷ c ∷ bs) rest h =
    let p = and_parts (not (eqb b 10)) (is_line (c ∷ bs)) h in
    let next : lines ((c ∷ bs) ++ rest) ≡ (c ∷ bs) ∷ lines rest = lines_front (c ∷ bs) rest p.1 in
    rw p.0 (ap (onto_first b) next)

abbrev pub all_lines : List (List ℕ) → Bool
all_lines ls = list_all is_line ls

-- the text of lines has these lines
pub lines_joined : (ls : List (List ℕ)) → all_lines ls ≡ true → lines (flat_map (λ l. l) ls) ≡ ls
lines_joined [] h = refl
lines_joined (l ∷ ls) h =
    let p = and_parts (is_line l) (all_lines ls) h in
    lines_front l (flat_map (λ x. x) ls) p.0 ∙ ap (λ (x : List (List ℕ)). l ∷ x) (lines_joined ls p.1)

abbrev pub no_feed : ℕ → Bool
no_feed b = not (eqb b 10)

-- bytes that are no LF may stand before a line
pub line_after : (xs l : List ℕ) → list_all no_feed xs ≡ true → is_line l ≡ true → is_line (xs ++ l) ≡ true
line_after [] l h t = t
line_after (x ∷ xs) l h t =
    let p = and_parts (no_feed x) (list_all no_feed xs) h in
    before x (xs ++ l) p.0 (line_after xs l p.1 t)
  where
    before : (b : ℕ) (l : List ℕ) → no_feed b ≡ true → is_line l ≡ true → is_line (b ∷ l) ≡ true
    before b [] h t = absurd (false≢true t)
    before b (c ∷ bs) h t = and_from (no_feed b) (is_line (c ∷ bs)) h t
