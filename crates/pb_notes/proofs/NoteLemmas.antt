-- How the lines of a note are put together and taken apart.
use Rattle.std.proofs.Common.{◌≡◌, ◌≢◌, ℕ, suc, ◌+◌, ◌<◌, ◌≤◌, Bool, false, List, [], ◌∷◌, ◌++◌, length, take, get_or, set, map, nat_eq, Option, Some, None, Bor, IfSome, MatchOption, refl, sym, ◌∙◌, ap, append_assoc, inl, inr, arith}
use Rattle.std.proofs.lemmas.List.{take_more, take_more_set, map-append, length-map, get_or-map, take_all}
use Rattle.pb_notes.specs.Notes.{digit_of, is_one, IsDigit}

-- what comes after a beginning, and what comes before an end, if the text has it
pub rest_after : (s p : List ℕ) (r : Option (Bor (List ℕ))) → MatchOption r ((rest : List ℕ) → s ≢ p ++ rest) (λ x. s ≡ p ++ x.now) → IfSome r (λ x. s ≡ p ++ x.now)
rest_after s p None h = tt
rest_after s p (Some x) h = h

pub rest_before : (s p : List ℕ) (r : Option (Bor (List ℕ))) → MatchOption r ((rest : List ℕ) → s ≢ rest ++ p) (λ x. s ≡ x.now ++ p) → IfSome r (λ x. s ≡ x.now ++ p)
rest_before s p None h = tt
rest_before s p (Some x) h = h

-- a line of three parts was added, one part after the other
pub line_added : (text a b c t1 t2 t3 : List ℕ) → t1 ≡ text ++ a → t2 ≡ t1 ++ b → t3 ≡ t2 ++ c → t3 ≡ text ++ (a ++ b ++ c)
line_added text a b c t1 t2 t3 e1 e2 e3 =
    e3
    ∙ ap (λ t. t ++ c) (e2 ∙ ap (λ t. t ++ b) e1)
    ∙ append_assoc (text ++ a) b c
    ∙ append_assoc text a (b ++ c)
    ∙ ap (λ l. text ++ l) (sym (append_assoc a b c))

-- what is left of a text, where a line of three parts was taken off, one part after the other
pub line_taken : (text a b d c r1 r2 : List ℕ) (r : Option (Bor (List ℕ))) → text ≡ a ++ r1 → r1 ≡ d ++ r2 → d ≡ b → IfSome r (λ rest. r2 ≡ c ++ rest.now) → IfSome r (λ rest. text ≡ (a ++ b ++ c) ++ rest.now)
line_taken text a b d c r1 r2 None e1 e2 is e3 = tt
line_taken text a b d c r1 r2 (Some rest) e1 e2 is e3 =
    e1
    ∙ ap (λ r. a ++ r) (e2 ∙ ap (λ l. l ++ r2) is ∙ ap (λ r. b ++ r) e3)
    ∙ sym (append_assoc a b (c ++ rest.now))
    ∙ sym (append_assoc (a ++ b) c rest.now)

-- a digit is that of its value
digit_is : (d : ℕ) → IsDigit d → digit_of (is_one d) ≡ d
digit_is d (inl e) = ap (λ n. digit_of (nat_eq n 49)) e ∙ sym e
digit_is d (inr e) = ap (λ n. digit_of (nat_eq n 49)) e ∙ sym e

-- digits are those of their values
pub digits_are : (ds : List ℕ) → ((k : ℕ) → k < length ds → IsDigit (get_or ds k 0)) → map digit_of (map is_one ds) ≡ ds
digits_are [] h = refl
digits_are (d ∷ ds) h =
    let first = digit_is d (h 0 (omega arith)) in
    let rest = digits_are ds (λ k lt. h (suc k) (omega arith)) in
    cc

-- the line of the digits of values, of its parts
pub values_taken : (text a ds c line : List ℕ) → text ≡ a ++ line → line ≡ ds ++ c → ((k : ℕ) → k < length ds → IsDigit (get_or ds k 0)) → text ≡ a ++ map digit_of (map is_one ds) ++ c
values_taken text a ds c line e1 e2 h =
    e1 ∙ ap (λ l. a ++ l) (e2 ∙ ap (λ d. d ++ c) (sym (digits_are ds h))) ∙ sym (append_assoc a (map digit_of (map is_one ds)) c)

-- the digit of the value at place i was added
pub digit_added : (text before after : List ℕ) (vs : List Bool) (i j : ℕ) (value : Bool) (bytes : List ℕ) → j ≡ i → i < length vs → value ≡ get_or vs j false → bytes ≡ digit_of value ∷ [] → before ≡ text ++ map digit_of (take i vs) → after ≡ before ++ bytes → after ≡ text ++ map digit_of (take (i + 1) vs)
digit_added text before after vs i j value bytes at lt read is so_far added =
    let value_is : value ≡ get_or vs i false = read ∙ ap (λ k. get_or vs k false) at in
    added
    ∙ ap (λ t. t ++ bytes) so_far
    ∙ append_assoc text (map digit_of (take i vs)) bytes
    ∙ ap (λ l. text ++ (map digit_of (take i vs) ++ l)) (is ∙ ap (λ v. digit_of v ∷ []) value_is)
    ∙ ap (λ l. text ++ l) (sym (map-append digit_of (take i vs) (get_or vs i false ∷ [])))
    ∙ ap (λ l. text ++ map digit_of l) (sym (take_more vs i false lt))

-- the value of the digit at place i was copied
pub value_copied : (into : List Bool) (ds : List ℕ) (i j digit : ℕ) → j ≡ i → length into ≡ length (map is_one ds) → i < length into → digit ≡ get_or ds i 0 → take i into ≡ take i (map is_one ds) → take (i + 1) (set into j (is_one digit)) ≡ take (i + 1) (map is_one ds)
value_copied into ds i j digit at same lt read so_far =
    let count : length (map is_one ds) ≡ length ds = length-map ds is_one in
    let within : i < length ds = omega arith in
    ap (λ k. take (i + 1) (set into k (is_one digit))) at
    ∙ take_more_set into i (is_one digit) lt
    ∙ ap (λ l. l ++ is_one digit ∷ []) so_far
    ∙ ap (λ v. take i (map is_one ds) ++ v ∷ []) (ap is_one read ∙ sym (get_or-map is_one ds i 0 false within))
    ∙ sym (take_more (map is_one ds) i false (omega arith))

-- all values were copied
pub all_copied : (into values : List Bool) (n : ℕ) → length into ≡ length values → length into ≤ n → take n into ≡ take n values → into ≡ values
all_copied into values n same all so_far = sym (take_all n into all) ∙ so_far ∙ take_all n values (omega arith)

-- all digits were added
pub all_added : (text after : List ℕ) (vs : List Bool) (n : ℕ) → length vs ≤ n → after ≡ text ++ map digit_of (take n vs) → after ≡ text ++ map digit_of vs
all_added text after vs n all so_far = so_far ∙ ap (λ l. text ++ map digit_of l) (take_all n vs all)
