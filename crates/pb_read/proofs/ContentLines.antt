-- Lines with content, one by one.
use Rattle.std.proofs.Common.{◌≡◌, ℕ, suc, take, arith, inl, inr, subst, ◌+◌, refl, sym, ap, ◌∙◌, List, [], ◌∷◌, ◌++◌, Bool, true, false, not, ◌||◌, append_assoc, Some, None, Option}
use Rattle.std.specs.List.{list_all, prefix_len}
use Rattle.std.specs.Prelude.{take_while, ◌⊎◌}
use Rattle.std.proofs.lemmas.Bool.{not_from_false}
use Rattle.std.proofs.lemmas.List.{map-append}
use Rattle.pb_inst.specs.Literal.{Literal}
use Rattle.pb_read.specs.declared.fault.ReadKind.{ReadKind}
use Rattle.pb_read.specs.declared.fault.ReadFault.{ReadFault}
use Rattle.pb_read.specs.Text.{Placed, items, is_marked, is_blank, numbered, content_of}
use Rattle.pb_read.specs.Refusal.{Faults, first_kind, first_fault, at_line, ◌or_else◌}
use Rattle.pb_read.specs.ClauseReading.{content_from, lines_from, CubesRead}
use Rattle.pb_read.specs.Reading.{IsMemory}
use Rattle.pb_read.specs.Cubes.{cube_faults}
use Rattle.pb_read.proofs.Streaming.{first_fault_append}
use Rattle.pb_read.proofs.CubeLaws.{cubes_clear}

abbrev pub at : List ℕ → ℕ → Placed (List ℕ)
at line n = record { item = line; line = n }

pub first_kept : {X : Type 0} (p : X → Bool) (y : X) (ys : List X) → p y ≡ true → take_while p (y ∷ ys) ≡ y ∷ take_while p ys
first_kept p y ys h = rw h (one_more (prefix_len p ys))
  where
    one_more : (k : ℕ) → take (1 + k) (y ∷ ys) ≡ y ∷ take k ys
    one_more k = let e : 1 + k ≡ suc k = omega arith in rw e refl

abbrev before_end : Placed (List ℕ) → Bool
before_end l = not (is_marked 37 l.item)

-- a line that does not end the text
pub line_kept : (n : ℕ) (line : List ℕ) (rest : List (List ℕ)) → is_marked 37 line ≡ false → lines_from n (line ∷ rest) ≡ at line n ∷ lines_from (n + 1) rest
line_kept n line rest h = first_kept before_end (at line n) (numbered (n + 1) rest) (not_from_false (is_marked 37 line) h)

-- a line without content
pub passes_over : (n : ℕ) (line : List ℕ) (rest : List (List ℕ)) → is_marked 37 line ≡ false → not (is_marked 99 line || list_all is_blank line) ≡ false → content_from n (line ∷ rest) ≡ content_from (n + 1) rest
passes_over n line rest h k = ap content_of (line_kept n line rest h) ∙ rw k refl

-- a line with content
pub takes_in : (n : ℕ) (line : List ℕ) (rest : List (List ℕ)) → is_marked 37 line ≡ false → not (is_marked 99 line || list_all is_blank line) ≡ true → content_from n (line ∷ rest) ≡ at line n ∷ content_from (n + 1) rest
takes_in n line rest h k = ap content_of (line_kept n line rest h) ∙ rw k refl

-- the fault of a statement after ones without fault is the text's
pub fault_is : {X : Type 0} (faults : List X → X → Faults) (a : List (Placed X)) (s : Placed X) (b : List (Placed X)) (k : ReadKind) → first_fault faults [] a ≡ None → first_kind (faults (items a) s.item) ≡ Some k
    → first_fault faults [] (a ++ s ∷ b) ≡ Some (record { kind = k; line = s.line })
fault_is {X} faults a s b k clear e =
    let rest : Option ReadFault = first_fault faults (items a ++ s.item ∷ []) b in
    first_fault_append faults [] a (s ∷ b)
    ∙ ap (λ (o : Option ReadFault). o or_else (at_line s.line (first_kind (faults (items a) s.item)) or_else rest)) clear
    ∙ ap (λ (o : Option ReadKind). at_line s.line o or_else rest) e

abbrev fault : ReadKind → ℕ → ReadFault
fault k l = record { kind = k; line = l }

-- one more line was taken
pub line_taken : (seen total left rest : List (Placed (List ℕ))) (line : List ℕ) (number : ℕ) → seen ++ left ≡ total → left ≡ at line number ∷ rest → (seen ++ at line number ∷ []) ++ rest ≡ total
line_taken seen total left rest line number all first =
    append_assoc seen (at line number ∷ []) rest ∙ ap (λ (ls : List (Placed (List ℕ))). seen ++ ls) (sym first) ∙ all

-- a fault of a cube line is the text's
pub line_fails : (other : ReadKind) (n m : ℕ) (same : m ≡ n) (seen total left rest : List (Placed (List ℕ))) (line : List ℕ) (number : ℕ) (cubes : List (List Literal)) (count : ℕ)
    → CubesRead n cubes count (items seen) → seen ++ left ≡ total → left ≡ at line number ∷ rest
    → (f : ReadFault) → IsMemory f ⊎ ((f.line ≡ number) × (first_kind (cube_faults other m (items seen) line) ≡ Some f.kind)) → IsMemory f ⊎ (first_fault (cube_faults other n) [] total ≡ Some f)
line_fails other n m same seen total left rest line number cubes count read all first f (inl x) = inl x
line_fails other n m same seen total left rest line number cubes count read all first f (inr x) =
    let e : seen ++ at line number ∷ rest ≡ total = ap (λ (ls : List (Placed (List ℕ))). seen ++ ls) (sym first) ∙ all in
    let k : first_kind (cube_faults other n (items seen) line) ≡ Some f.kind = subst (λ (x : ℕ). first_kind (cube_faults other x (items seen) line) ≡ Some f.kind) same x.1 in
    inr (ap (first_fault (cube_faults other n) []) (sym e) ∙ fault_is (cube_faults other n) seen (at line number) rest f.kind (cubes_clear other n seen cubes read.lines) k ∙ ap (λ (l : ℕ). Some (fault f.kind l)) (sym x.0))

pub items_more : (earlier : List (Placed (List ℕ))) (line : List ℕ) (n : ℕ) → items (earlier ++ at line n ∷ []) ≡ items earlier ++ line ∷ []
items_more earlier line n = map-append (λ (l : Placed (List ℕ)). l.item) earlier (at line n ∷ [])
