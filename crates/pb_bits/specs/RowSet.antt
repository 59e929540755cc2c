-- Members of a set of rows.
use Rattle.std.specs.Prelude.{◌≡◌, ℕ, ◌+◌, ◌/◌, ◌<◌, ◌≤◌, Bool, true, false, List, length, slice_index_or}

-- no place from one up to another is a member
abbrev pub HasNoneBetween : List Bool → ℕ → ℕ → Type 0
HasNoneBetween members from end = (i : ℕ) → from ≤ i → i < end → slice_index_or members i false ≡ false

-- one of the 64 places of a group is a member
abbrev pub HasMember : List Bool → ℕ → Type 0
HasMember members group = (i : ℕ) × (i / 64 ≡ group) × (slice_index_or members i false ≡ true)

-- the flag of a group of 64 places is set exactly where one of them is a member
pub record AreGroups (members groups : List Bool) : Type 0 where
  pub count : length groups ≡ length members / 64 + 1
  pub each : (i : ℕ) → slice_index_or members i false ≡ true → slice_index_or groups (i / 64) false ≡ true
  pub some : (group : ℕ) → slice_index_or groups group false ≡ true → HasMember members group
