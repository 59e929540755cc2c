-- Tokens taken one by one are those of the line.
use Rattle.std.proofs.Common.{◌≡◌, ℕ, ◌+◌, true, false, refl, sym, ap, subst, ◌∙◌, List, [], ◌∷◌, ◌++◌, append_assoc, inl, inr}
use Rattle.std.proofs.lemmas.List.{append-nil, map-append}
use Rattle.pb_read.specs.declared.fault.ReadFault.{ReadFault}
use Rattle.std.specs.List.{flat_map}
use Rattle.pb_read.specs.Text.{Placed, numbered}
use Rattle.pb_read.specs.Opb.{Token, placed, on_line, is_comment, line_tokens}
use Rattle.pb_read.specs.Reading.{Fails}

placed_append : (n : ℕ) (xs ys : List Token) → placed n (xs ++ ys) ≡ placed n xs ++ placed n ys
placed_append n xs ys = map-append (λ t. record { item = t; line = n }) xs ys

pub one_more : (P : List (Placed Token) → Type 0) (taken : List (Placed Token)) (n : ℕ) (line rest after seen : List Token) (t : Token)
    → rest ≡ t ∷ after → seen ++ rest ≡ line → P ((taken ++ placed n seen) ++ record { item = t; line = n } ∷ [])
    → (x : List Token) × (x ++ after ≡ line) × P (taken ++ placed n x)
one_more P taken n line rest after seen t first whole h =
    let e : (taken ++ placed n seen) ++ placed n (t ∷ []) ≡ taken ++ placed n (seen ++ t ∷ []) =
    append_assoc taken (placed n seen) (placed n (t ∷ [])) ∙ ap (λ (x : List (Placed Token)). taken ++ x) (sym (placed_append n seen (t ∷ []))) in
    (seen ++ t ∷ [], append_assoc seen (t ∷ []) after ∙ ap (λ (x : List Token). seen ++ x) (sym first) ∙ whole, subst P e h)

-- what is refused stays refused, whatever follows
pub fails_more : (ts more : List (Placed Token)) (f : ReadFault) → Fails ts f → Fails (ts ++ more) f
fails_more ts more f (inl m) = inl m
fails_more ts more f (inr r) = inr (λ rest. rw append_assoc (r (more ++ rest)))

pub line_fails : (taken : List (Placed Token)) (n : ℕ) (line rest after seen : List Token) (t : Token) (f : ReadFault)
    → rest ≡ t ∷ after → seen ++ rest ≡ line → Fails ((taken ++ placed n seen) ++ record { item = t; line = n } ∷ []) f → Fails (taken ++ placed n line) f
line_fails taken n line rest after seen t f first whole h =
    let more = one_more (λ ts. Fails ts f) taken n line rest after seen t first whole h in
    let e : (taken ++ placed n more.0) ++ placed n after ≡ taken ++ placed n line =
    append_assoc taken (placed n more.0) (placed n after) ∙ ap (λ (x : List (Placed Token)). taken ++ x) (sym (placed_append n more.0 after) ∙ ap (placed n) more.1) in
    subst (λ (ts : List (Placed Token)). Fails ts f) e (fails_more (taken ++ placed n more.0) (placed n after) f more.2)

on_line_is : (n : ℕ) (line : List ℕ) → is_comment line ≡ false → on_line (record { item = line; line = n }) ≡ placed n (line_tokens line)
on_line_is n line h = rw h refl

-- one more line, whose tokens were taken
pub line_taken : (P : List (Placed Token) → Type 0) (seen total : List (Placed Token)) (n : ℕ) (left after : List (List ℕ)) (line : List ℕ)
    → left ≡ line ∷ after → seen ++ flat_map on_line (numbered n left) ≡ total → is_comment line ≡ false → P (seen ++ placed n (line_tokens line))
    → (x : List (Placed Token)) × (x ++ flat_map on_line (numbered (n + 1) after) ≡ total) × P x
line_taken P seen total n left after line first whole plain h =
    let more : List (Placed Token) = flat_map on_line (numbered (n + 1) after) in
    let head : flat_map on_line (numbered n left) ≡ placed n (line_tokens line) ++ more =
    ap (λ (ls : List (List ℕ)). flat_map on_line (numbered n ls)) first ∙ ap (λ (ts : List (Placed Token)). ts ++ more) (on_line_is n line plain) in
    (seen ++ placed n (line_tokens line), append_assoc seen (placed n (line_tokens line)) more ∙ ap (λ (ts : List (Placed Token)). seen ++ ts) (sym head) ∙ whole, h)

no_tokens : (n : ℕ) (line : List ℕ) → is_comment line ≡ true → on_line (record { item = line; line = n }) ≡ []
no_tokens n line h = rw h refl

-- one more line, which is a comment
pub line_passed : (P : List (Placed Token) → Type 0) (seen total : List (Placed Token)) (n : ℕ) (left after : List (List ℕ)) (line : List ℕ)
    → left ≡ line ∷ after → seen ++ flat_map on_line (numbered n left) ≡ total → is_comment line ≡ true → P seen
    → (x : List (Placed Token)) × (x ++ flat_map on_line (numbered (n + 1) after) ≡ total) × P x
line_passed P seen total n left after line first whole comment h =
    let more : List (Placed Token) = flat_map on_line (numbered (n + 1) after) in
    let head : flat_map on_line (numbered n left) ≡ more =
    ap (λ (ls : List (List ℕ)). flat_map on_line (numbered n ls)) first ∙ ap (λ (ts : List (Placed Token)). ts ++ more) (no_tokens n line comment) in
    (seen, ap (λ (ts : List (Placed Token)). seen ++ ts) (sym head) ∙ whole, h)

-- no line is left
pub text_taken : (P : List (Placed Token) → Type 0) (seen total : List (Placed Token)) (n : ℕ) (left : List (List ℕ)) → left ≡ [] → seen ++ flat_map on_line (numbered n left) ≡ total → P seen → P total
text_taken P seen total n left none whole h = subst P (sym (append-nil seen) ∙ ap (λ (ls : List (List ℕ)). seen ++ flat_map on_line (numbered n ls)) (sym none) ∙ whole) h

-- a fault of a line's tokens is one of the text's
pub text_fails : (seen total : List (Placed Token)) (n : ℕ) (left after : List (List ℕ)) (line : List ℕ) (f : ReadFault)
    → left ≡ line ∷ after → seen ++ flat_map on_line (numbered n left) ≡ total → is_comment line ≡ false → Fails (seen ++ placed n (line_tokens line)) f → Fails total f
text_fails seen total n left after line f first whole plain h =
    let more = line_taken (λ ts. Fails ts f) seen total n left after line first whole plain h in
    subst (λ (ts : List (Placed Token)). Fails ts f) more.1 (fails_more more.0 (flat_map on_line (numbered (n + 1) after)) f more.2)
