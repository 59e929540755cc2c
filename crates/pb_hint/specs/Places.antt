-- Where words stand in a text.
use Rattle.std.specs.Prelude.{◌≡◌, ℕ, ◌+◌, ◌<◌, ◌==◌, Bool, List, ◌++◌, length, take, Some}
use Rattle.std.specs.List.{count_by, last_or}
use Rattle.pb_hint.specs.declared.places.Place.{Place}

abbrev pub is_line_feed : ℕ → Bool
is_line_feed b = b == 10

-- what follows these bytes of a text has this line and this column: one more than the whole lines above it, and one more than the
-- bytes to the left of it on its own line
pub record IsPosition (before : List ℕ) (line_number column_number : ℕ) : Type 0 where
  pub above : List ℕ
  pub left : List ℕ
  pub parts : before ≡ above ++ left
  pub whole_lines : last_or (Some 10) above ≡ Some 10
  pub one_line : count_by is_line_feed left ≡ 0
  pub line : line_number ≡ count_by is_line_feed above + 1
  pub column : column_number ≡ length left + 1

-- the word of the place, which has at least one byte, stands in the text after `start` bytes, at the place's line and column
pub record StandsAfter (text : List ℕ) (start : ℕ) (place : Place) : Type 0 where
  pub after : List ℕ
  pub parts : text ≡ take start text ++ (place.word.now ++ after)
  pub position : IsPosition (take start text) place.line place.column
  pub shown : 0 < length place.word.now

-- the word of the place stands in the text, at the place's line and column
abbrev pub StandsIn : List ℕ → Place → Type 0
StandsIn text place = (start : ℕ) × StandsAfter text start place
