-- The lines of a report, and what each of them is.
use Rattle.std.specs.Prelude.{◌≢◌, ℕ, Bool, true, false, ◌==◌, if◌then◌else◌, List, [], ◌∷◌, map, None, codes, ⊤}
use Rattle.std.specs.List.{flat_map}
use Rattle.std.specs.Char.{is_whitespace}
use Rattle.bstr.specs.Fields.{fields_acc}
use Rattle.bstr.specs.Text.{lines_of, without_terminator}
use Rattle.bstr.specs.Utf8.{pieces, spans_from}
use Rattle.pb_read.specs.Text.{is_text}
use Rattle.pb_report.specs.declared.keys.Key.{Key}
use Rattle.pb_report.specs.declared.keys.Key.TheVariants.{Cost, Status, Values, Comment, Other}

-- the words of a line, which are what stands between white space
abbrev pub words : List ℕ → List (List ℕ)
words line = fields_acc is_whitespace line None (spans_from 0 (pieces line))

-- the words of each line of a text
abbrev pub rows : List ℕ → List (List (List ℕ))
rows text = map words (map without_terminator (lines_of text))

abbrev pub begins_with_c : List ℕ → Bool
begins_with_c [] = false
begins_with_c (b ∷ word) = b == 99

-- what a line is that begins with the word; a comment's first word begins with `c` (99)
abbrev pub key_of : List ℕ → Key
key_of word =
    if is_text (codes "o") word then Cost
    else (if is_text (codes "s") word then Status
    else (if is_text (codes "v") word then Values
    else (if begins_with_c word then Comment else Other)))

abbrev pub is_cost : Key → Bool
is_cost Cost = true
is_cost Status = false
is_cost Values = false
is_cost Comment = false
is_cost Other = false

abbrev pub is_status : Key → Bool
is_status Cost = false
is_status Status = true
is_status Values = false
is_status Comment = false
is_status Other = false

abbrev pub is_values : Key → Bool
is_values Cost = false
is_values Status = false
is_values Values = true
is_values Comment = false
is_values Other = false

-- what a line says after its first word, where that passes the test
abbrev pub said_in : (Key → Bool) → List (List ℕ) → List (List (List ℕ))
said_in test [] = []
said_in test (word ∷ rest) = if test (key_of word) then rest ∷ [] else []

-- what the lines of one kind say, in order
abbrev pub said : (Key → Bool) → List (List (List ℕ)) → List (List (List ℕ))
said test lines = flat_map (said_in test) lines

-- the line is blank, a comment, or of a kind that a report has
abbrev pub IsKnown : List (List ℕ) → Type 0
IsKnown [] = ⊤
IsKnown (word ∷ rest) = key_of word ≢ Other
