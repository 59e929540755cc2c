-- The slack cache: at which slack rows were looked through, and what is known of them since.
use Rattle.std.specs.Prelude.{◌≡◌, ℕ, ◌<◌, ◌≤◌, ◌⊎◌, List, length, slice_index_or}

-- the slack at which a row was looked through last, and the number of undoings from which on it tells nothing
pub record CachedSlack : Type 0 where
  pub row : ℕ
  pub slack : ℕ
  pub until : ℕ

-- the slack at which each of some rows was looked through last, and how often literals were taken off the trail
pub record SlackCacheState : Type 0 where
  pub last : List CachedSlack
  pub undone : ℕ

-- at this place stands the row's slack
abbrev pub IsEntryOf : SlackCacheState → ℕ → ℕ → Type 0
IsEntryOf slack_cache row place = (place < length slack_cache.last) × ((d : CachedSlack) → (slice_index_or slack_cache.last place d).row ≡ row)

-- the row was looked through at this slack or a lesser one, with nothing undone since
pub record IsKnown (slack_cache : SlackCacheState) (row slack : ℕ) : Type 0 where
  pub place : ℕ
  pub entry : CachedSlack
  pub within : place < length slack_cache.last
  pub is_last : entry ≡ slice_index_or slack_cache.last place entry
  pub of_row : entry.row ≡ row
  pub at_most : entry.slack ≤ slack
  pub since : slack_cache.undone < entry.until

abbrev pub KnowsNothing : SlackCacheState → Type 0
KnowsNothing slack_cache = (row slack : ℕ) → ¬ IsKnown slack_cache row slack

-- no more is known than before and that the row was looked through at this slack
abbrev pub NotesOnly : SlackCacheState → SlackCacheState → ℕ → ℕ → Type 0
NotesOnly old new row slack = (r s : ℕ) → IsKnown new r s → IsKnown old r s ⊎ ((r ≡ row) × (slack ≤ s))
