-- What the report of a part says.
use Rattle.std.specs.Prelude.{◌≡◌, ◌<◌, ℕ, List, ◌++◌, All, Contains}
use Rattle.std.specs.List.Sorted.{IsStrictlyIncreasing}
use Rattle.pb_read.specs.declared.format.Format.{Format}
use Rattle.pb_report.specs.Report.{Claims}
use Rattle.pb_parts.specs.Heading.{part_heading}
use Rattle.pb_parts.specs.declared.parts.Division.{Division}
use Rattle.pb_parts.specs.declared.parts.Heading.{Heading}
use Rattle.pb_parts.specs.declared.parts.PartReport.{PartReport}

-- there is a piece of this number; a task may have done any of them, whichever it is dealt
abbrev pub IsPiece : Division → ℕ → Type 0
IsPiece division number = number < division.pieces

-- the numbers are of pieces, and rise
pub record ArePieces (division : Division) (numbers : List ℕ) : Type 0 where
  pub each : All (IsPiece division) numbers
  pub rising : IsStrictlyIncreasing numbers

-- no number of the second list is in the first
abbrev pub AreApart : List ℕ → List ℕ → Type 0
AreApart done cut = All (λ number. ¬ Contains done number) cut

-- there is such a task, what is done and what was cut are pieces of it, and no piece is both
pub record IsFit (heading : Heading) : Type 0 where
  pub task : heading.task < heading.division.tasks
  pub done : ArePieces heading.division heading.done.items
  pub cut : ArePieces heading.division heading.cut.items
  pub apart : AreApart heading.done.items heading.cut.items

-- the bytes of a heading
abbrev pub heading_text : Heading → List ℕ
heading_text heading = part_heading heading.division heading.task heading.done.items heading.cut.items

-- the text is the heading, and then a report that claims what is claimed
pub record IsPartReport (format : Format) (vars : ℕ) (text : List ℕ) (report : PartReport) : Type 0 where
  pub rest : List ℕ
  pub spelled : text ≡ heading_text report.heading ++ rest
  pub claims : Claims format vars rest report.claim
