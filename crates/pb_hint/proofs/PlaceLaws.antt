-- The position of what follows one more byte of a text.
use Rattle.std.proofs.Common.{◌≡◌, ℕ, ◌+◌, ◌≤◌, Bool, false, cond, List, [], ◌∷◌, ◌++◌, ◌<◌, length, take, get_or, Option, Some, refl, sym, ap, subst, ◌∙◌, arith}
use Rattle.std.specs.List.{count_by, last_or}
use Rattle.std.proofs.lemmas.Bool.{ne_eqb}
use Rattle.std.proofs.lemmas.List.{append-nil, append_assoc, length-append, take_more}
use Rattle.std.proofs.lemmas.List.Sums.{count_by-le-length, sum_by-append, sum_by_push}
use Rattle.pb_hint.specs.Places.{IsPosition, is_line_feed}

last_pushed : {X : Type 0} (o : Option X) (xs : List X) (x : X) → last_or o (xs ++ x ∷ []) ≡ Some x
last_pushed o [] x = refl
last_pushed o (y ∷ ys) x = last_pushed (Some y) ys x

pub at_start : IsPosition [] 1 1
at_start = record { above = []; left = []; parts = refl; whole_lines = refl; one_line = refl; line = refl; column = refl }

line_feeds : (before : List ℕ) (line column : ℕ) → IsPosition before line column → line ≡ count_by is_line_feed before + 1
line_feeds before line column is =
    let parts = ap (λ (bytes : List ℕ). count_by is_line_feed bytes) is.parts ∙ sum_by-append (λ (b : ℕ). cond (is_line_feed b) 1 0) is.above is.left in
    omega (arith, parts, is.one_line, is.line)

after_line_feed : (before : List ℕ) (line column : ℕ) → IsPosition before line column → IsPosition (before ++ 10 ∷ []) (line + 1) 1
after_line_feed before line column is =
    let pushed = sum_by_push (λ (b : ℕ). cond (is_line_feed b) 1 0) before 10 in
    record {
      above = before ++ 10 ∷ [];
      left = [];
      parts = sym (append-nil (before ++ 10 ∷ []));
      whole_lines = last_pushed _ before 10;
      one_line = refl;
      line = omega (arith, line_feeds before line column is, pushed);
      column = refl;
    }

after_byte : (before : List ℕ) (line column byte : ℕ) → IsPosition before line column → is_line_feed byte ≡ false → IsPosition (before ++ byte ∷ []) line (column + 1)
after_byte before line column byte is other =
    let none = ap {B = ℕ} (λ (b : Bool). cond b 1 0) other in
    let pushed = sum_by_push (λ (b : ℕ). cond (is_line_feed b) 1 0) is.left byte in
    let longer = length-append is.left (byte ∷ []) in
    record {
      above = is.above;
      left = is.left ++ byte ∷ [];
      parts = ap (λ bytes. bytes ++ byte ∷ []) is.parts ∙ append_assoc is.above is.left (byte ∷ []);
      whole_lines = is.whole_lines;
      one_line = omega (arith, pushed, none, is.one_line);
      line = is.line;
      column = omega (arith, longer, is.column);
    }

pub within : (before : List ℕ) (line column : ℕ) → IsPosition before line column → (line ≤ length before + 1) × (column ≤ length before + 1)
within before line column is =
    let feeds = line_feeds before line column is in
    let few = count_by-le-length is_line_feed before in
    let long = ap length is.parts ∙ length-append is.above is.left in
    (omega (arith, feeds, few), omega (arith, long, is.column))

pub moved_down : (bytes : List ℕ) (i line column next_line next_column : ℕ) → i < length bytes → IsPosition (take i bytes) line column
    → get_or bytes i 0 ≡ 10 → next_line ≡ line + 1 → next_column ≡ 1 → IsPosition (take (i + 1) bytes) next_line next_column
moved_down bytes i line column next_line next_column inside is feed down first =
    let more = take_more bytes i 0 inside ∙ ap (λ (b : ℕ). take i bytes ++ b ∷ []) feed in
    subst (λ (bs : List ℕ). IsPosition bs next_line next_column) (sym more)
    (subst (λ (n : ℕ). IsPosition (take i bytes ++ 10 ∷ []) next_line n) (sym first)
    (subst (λ (n : ℕ). IsPosition (take i bytes ++ 10 ∷ []) n 1) (sym down) (after_line_feed (take i bytes) line column is)))

pub moved_right : (bytes : List ℕ) (i line column next_line next_column : ℕ) → i < length bytes → IsPosition (take i bytes) line column
    → (get_or bytes i 0 ≡ 10 → ⊥) → next_line ≡ line → next_column ≡ column + 1 → IsPosition (take (i + 1) bytes) next_line next_column
moved_right bytes i line column next_line next_column inside is other same right =
    let byte = get_or bytes i 0 in
    subst (λ (bs : List ℕ). IsPosition bs next_line next_column) (sym (take_more bytes i 0 inside))
    (subst (λ (n : ℕ). IsPosition (take i bytes ++ byte ∷ []) next_line n) (sym right)
    (subst (λ (n : ℕ). IsPosition (take i bytes ++ byte ∷ []) n (column + 1)) (sym same) (after_byte (take i bytes) line column byte is (ne_eqb byte 10 other))))
