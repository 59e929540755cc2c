-- How the literals of a report grow.
use Rattle.std.proofs.Common.{◌≡◌, ℕ, ◌+◌, ◌-◌, ◌<◌, Bool, false, List, [], ◌∷◌, ◌++◌, length, take, get_or, decimal, refl, sym, ◌∙◌, ap, append_assoc, append-nil, arith}
use Rattle.std.proofs.lemmas.List.{take_more, length-take-le}
use Rattle.pb_read.specs.declared.format.Format.{Format}
use Rattle.pb_report.specs.Written.{literals, sign}

-- one value more at the end
pub literals_snoc : (f : Format) (n : ℕ) (xs : List Bool) (y : Bool) → literals f n (xs ++ y ∷ []) ≡ literals f n xs ++ (sign f y ++ decimal (n + length xs))
literals_snoc f n [] y =
    let e : n ≡ n + 0 = omega arith in
    append-nil (sign f y ++ decimal n) ∙ ap (λ m. sign f y ++ decimal m) e
literals_snoc f n (x ∷ xs) y =
    let e : n + 1 + length xs ≡ n + length (x ∷ xs) = omega arith in
    ap (λ l. (sign f x ++ decimal n) ++ l) (literals_snoc f (n + 1) xs y)
    ∙ sym (append_assoc (sign f x ++ decimal n) (literals f (n + 1) xs) (sign f y ++ decimal (n + 1 + length xs)))
    ∙ ap (λ m. ((sign f x ++ decimal n) ++ literals f (n + 1) xs) ++ (sign f y ++ decimal m)) e

-- the value at i, which is the variable n
pub literals_more : (f : Format) (vs : List Bool) (i n : ℕ) (d : Bool) → i < length vs → n ≡ i + 1 → literals f 1 (take (i + 1) vs) ≡ literals f 1 (take i vs) ++ (sign f (get_or vs i d) ++ decimal n)
literals_more f vs i n d lt e =
    let same : length (take i vs) ≡ i = length-take-le i vs (omega arith) in
    let place : 1 + length (take i vs) ≡ n = omega arith in
    ap (λ l. literals f 1 l) (take_more vs i d lt)
    ∙ literals_snoc f 1 (take i vs) (get_or vs i d)
    ∙ ap (λ m. literals f 1 (take i vs) ++ (sign f (get_or vs i d) ++ decimal m)) place

-- the literal of the variable at place i was added
pub literal_added : (f : Format) (vs : List Bool) (i : ℕ) (value : Bool) (bytes : List ℕ) → i < length vs → value ≡ get_or vs (i + 1 - 1) false → bytes ≡ sign f value → literals f 1 (take (i + 1) vs) ≡ literals f 1 (take i vs) ++ (bytes ++ decimal (i + 1))
literal_added f vs i value bytes lt read is =
    let place : i + 1 - 1 ≡ i = omega arith in
    literals_more f vs i (i + 1) false lt refl
    ∙ ap (λ b. literals f 1 (take i vs) ++ (b ++ decimal (i + 1))) (ap (λ v. sign f v) (ap (λ k. get_or vs k false) (sym place) ∙ sym read) ∙ sym is)
