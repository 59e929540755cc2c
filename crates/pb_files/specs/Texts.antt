-- Texts, as the codes of their bytes.
use Rattle.std.specs.Prelude.{ℕ, List, Option, String, Vec, map, option_map, string_bytes}
use Rattle.std.specs.Global.{Global}

-- the bytes of a text
abbrev pub Text : Type 0
Text = List ℕ

-- the texts of these strings
abbrev pub texts : Vec (String Global) Global → List Text
texts strings = map string_bytes strings.items

-- the texts of these strings, if there are any
abbrev pub texts_found : Option (Vec (String Global) Global) → Option (List Text)
texts_found found = option_map texts found
