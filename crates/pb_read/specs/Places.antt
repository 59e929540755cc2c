-- How far a statement has come: the words of the reader's test of its form.
use Rattle.std.specs.Prelude.{Bool, true, false, not, ◌&&◌, List, [], ◌∷◌, fold}
use Rattle.std.specs.List.{list_any}
use Rattle.pb_read.specs.declared.fault.ReadKind.TheVariants.{LateObjective, Syntax, NonLinear, BadVariable}
use Rattle.pb_read.specs.declared.opb.form.Place.{Place}
use Rattle.pb_read.specs.declared.opb.form.Place.TheVariants.{Start, Terms, Coefficient, Literals, AfterRelation, AfterNumber, Whole, Wrong}
use Rattle.pb_read.specs.Runs.{first_is, any_neighbours}
use Rattle.pb_read.specs.Refusal.{Faults}
use Rattle.pb_read.specs.Opb as opb
use Rattle.pb_read.specs.Opb.{Token, is_min, has_shape, both_literals, has_bad_index}

-- a token after whole terms of an objective or of a constraint
abbrev pub next_after_terms : Bool → Token → Place
next_after_terms o (opb.Number n) = Coefficient o
next_after_terms true opb.End = Whole
next_after_terms false (opb.Related r) = AfterRelation
next_after_terms o t = Wrong

abbrev pub next_place : Place → Token → Place
next_place Start opb.Min = Terms true
next_place Start t = next_after_terms false t
next_place (Terms o) t = next_after_terms o t
next_place (Coefficient o) (opb.Lit l) = Literals o
next_place (Coefficient o) t = Wrong
next_place (Literals o) (opb.Lit l) = Literals o
next_place (Literals o) t = next_after_terms o t
next_place AfterRelation (opb.Number n) = AfterNumber
next_place AfterRelation t = Wrong
next_place AfterNumber opb.End = Whole
next_place AfterNumber t = Wrong
next_place Whole t = Wrong
next_place Wrong t = Wrong

abbrev pub is_start : Place → Bool
is_start Start = true
is_start p = false

abbrev pub is_whole : Place → Bool
is_whole Whole = true
is_whole p = false

-- where the tokens lead
abbrev pub place_after : Place → List Token → Place
place_after p ts = fold next_place p ts

-- the faults of a statement's form, in order
abbrev pub form_faults : Bool → List Token → Faults
form_faults first s =
    (LateObjective, first_is is_min s && not first)
    ∷ (Syntax, not (has_shape s))
    ∷ (NonLinear, any_neighbours both_literals s)
    ∷ (BadVariable, list_any has_bad_index s)
    ∷ []
