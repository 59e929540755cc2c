-- Flags, and for each 64 of them whether one is set.
use Rattle.std.proofs.Common.{◌≡◌, ℕ, ◌+◌, ◌*◌, ◌/◌, ◌<◌, ◌≤◌, List, length, get_or, subst, arith, Bool, true, false, Option, Some, inl, inr, sym, ◌∙◌}
use Rattle.std.proofs.lemmas.Bool.{cases_Bool, cases_lt}
use Rattle.std.proofs.lemmas.List.{get_or_past}
use Rattle.pb_bits.specs.RowSet.{HasNoneBetween, HasMember, AreGroups}

same_place : (a b : ℕ) → ◌≡◌ {A = Option ℕ} (Some a) (Some b) → a ≡ b
same_place a b h = cc

abbrev pub IsNext : List Bool → ℕ → ℕ → Type 0
IsNext members from i = (from ≤ i) × (i < length members) × (get_or members i false ≡ true) × HasNoneBetween members from i

-- the first from a later place is the first, where none comes before that place
pub still_next : (members : List Bool) (from place i x : ℕ) → from ≤ place → HasNoneBetween members from place → IsNext members place i → ◌≡◌ {A = Option ℕ} (Some i) (Some x) → IsNext members from x
still_next members from place i x low none next chosen =
    subst (IsNext members from) (same_place i x chosen) (
      omega (arith, next.0),
      next.1,
      next.2,
      λ j above below. elim (cases_lt j place) [
        | inl early ↦ none j above early
        | inr late ↦ next.3 j late below
      ],
    )

-- a place is not both a member and none
apart : (members : List Bool) (i : ℕ) → get_or members i false ≡ true → get_or members i false ≡ false → ⊥
apart members i on off = let e : true ≡ false = sym on ∙ off in let nothing : ⊥ = cc in nothing

-- a member is one of the places
member_within : (members : List Bool) (i : ℕ) → get_or members i false ≡ true → i < length members
member_within members i on = elim (cases_lt i (length members)) [
  | inl within ↦ within
  | inr past ↦ absurd (apart members i on (get_or_past members i false past))
]

-- places of groups without members are none
group_passed : (members groups : List Bool) (from group i : ℕ) → AreGroups members groups → HasNoneBetween groups (from / 64 + 1) group → 64 * (from / 64 + 1) ≤ i → i < 64 * group → get_or members i false ≡ false
group_passed members groups from group i are none low high = elim (cases_Bool (get_or members i false)) [
  | inl on ↦ absurd (apart groups (i / 64) (are.each i on) (none (i / 64) (omega arith) (omega arith)))
  | inr off ↦ off
]

pub groups_passed : (members groups : List Bool) (from group : ℕ) → AreGroups members groups → HasNoneBetween members from (64 * (from / 64 + 1)) → HasNoneBetween groups (from / 64 + 1) group → HasNoneBetween members from (64 * group)
groups_passed members groups from group are word none i low high = elim (cases_lt i (64 * (from / 64 + 1))) [
  | inl own ↦ word i low own
  | inr beyond ↦ group_passed members groups from group i are none beyond high
]

pub group_within : (members : List Bool) (group : ℕ) → HasMember members group → 64 * group < length members
group_within members group there = let within = member_within members there.0 there.2 in omega (arith, there.1)
