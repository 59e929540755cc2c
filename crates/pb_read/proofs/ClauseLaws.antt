-- The clauses of a text have no fault, or they spell lists of literals.
use Rattle.std.proofs.Common.{◌≡◌, ℕ, ◌+◌, ◌<◌, ◌≤◌, min, refl, List, [], ◌∷◌, ◌++◌, Bool, false, ◌||◌, length, arith, Option, Some, None, ltb}
use Rattle.std.specs.List.{AllByRecursion}
use Rattle.std.proofs.lemmas.Bool.{or_parts, or_from, le-ltb, ltb-false, not-false, lt-ltb, ltb-true}
use Rattle.pb_inst.specs.declared.limits.TheConstants.{MAX_CONSTRAINTS, MAX_TERMS}
use Rattle.pb_read.specs.Refusal.{first_kind}
use Rattle.pb_read.specs.Clauses.{Word, literals_in, word_faults, clause_faults, all_there}
use Rattle.pb_read.proofs.ClausesSpelled.{Passes, IsTable, words_clear, words_back}
use Rattle.pb_read.proofs.Spelled.{none_applies, none_of}

abbrev pub plain : List Word → List Word
plain ws = ws

abbrev pub Any : List Word → Type 0
Any ws = Unit {0}

pub each_any : (ss : List (List Word)) → AllByRecursion Any ss
each_any [] = tt
each_any (s ∷ ss) = (tt, each_any ss)

-- the most clauses that there may be
abbrev pub most : Option ℕ → ℕ
most None = MAX_CONSTRAINTS
most (Some announced) = min announced MAX_CONSTRAINTS

room_left : (announced : Option ℕ) (k : ℕ) → k < most announced → all_there announced k ≡ false
room_left None k h = refl
room_left (Some m) k h = rw (lt-ltb k m (omega (arith, h))) refl

pub few_enough : (announced : Option ℕ) (k : ℕ) → k < most announced → k + 1 ≤ MAX_CONSTRAINTS
few_enough None k h = omega (arith, h)
few_enough (Some m) k h = omega (arith, h)

most_left : (announced : Option ℕ) (k : ℕ) → all_there announced k ≡ false → k + 1 ≤ MAX_CONSTRAINTS → k < most announced
most_left None k e h = omega (arith, h)
most_left (Some m) k e h = let lt : k < m = ltb-true k m (not-false (ltb k m) e) in omega (arith, lt, h)

module _ (announced : Option ℕ) (n : ℕ) where
  clear_one : (earlier : List (List Word)) (c : List Word) → Passes plain Any n (most announced) earlier c → first_kind (clause_faults announced n earlier c) ≡ None
  clear_one earlier c p =
      let few = or_from _ _ (le-ltb MAX_CONSTRAINTS (length earlier + 1) (few_enough announced (length earlier) p.count)) (le-ltb MAX_TERMS (literals_in plain (earlier ++ c ∷ [])) p.literals) in
      rw (room_left announced (length earlier) p.count) (words_clear n c _ p.reads few)

  pub back_one : (earlier : List (List Word)) (c : List Word) → first_kind (clause_faults announced n earlier c) ≡ None → Passes plain Any n (most announced) earlier c
  back_one earlier c e =
      let f = none_applies (clause_faults announced n earlier c) e in
      let too_many : Bool = ltb MAX_CONSTRAINTS (length earlier + 1) || ltb MAX_TERMS (literals_in plain (earlier ++ c ∷ [])) in
      let w = words_back n c too_many (none_of (word_faults n c too_many) f.1) in
      let counts = or_parts (ltb MAX_CONSTRAINTS (length earlier + 1)) (ltb MAX_TERMS (literals_in plain (earlier ++ c ∷ []))) w.1 in
      record {
        stands = tt;
        reads = w.0;
        count = most_left announced (length earlier) f.0 (ltb-false MAX_CONSTRAINTS (length earlier + 1) counts.0);
        literals = ltb-false MAX_TERMS _ counts.1;
      }

  pub table : IsTable plain Any n (most announced) (clause_faults announced n)
  table = record { clear = clear_one; back = back_one }
