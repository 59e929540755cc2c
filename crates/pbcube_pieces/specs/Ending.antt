-- How the program may end.
use Rattle.std.specs.Prelude.{◌≡◌, ℕ, List}
use Rattle.clap.specs.Words.{Text}
use Rattle.pb_line.specs.Ends.{EndsOn}
use Rattle.pb_line.specs.Dividing.{HasNoLine, pbcube_pieces}

-- how it may end on these words: with 1 for want of memory, and with 0 where all was written
abbrev pub Ends : List Text → ℕ → Type 0
Ends = EndsOn pbcube_pieces HasNoLine (λ status. status ≡ 1) (λ status. status ≡ 0)
