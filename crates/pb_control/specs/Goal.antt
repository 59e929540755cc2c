-- What a search is for.
use Rattle.std.specs.Prelude.{Option, IsSomeAnd, ◌≤ℤ◌, ⊤}
use Rattle.pb_inst.specs.Incumbent.{Solution}
use Rattle.pb_control.specs.declared.goal.Goal.{Goal}

-- what is held ends a search for any assignment, or for one that costs no more; nothing ends the search for the least one
abbrev pub IsMet : Goal → Option Solution → Type 0
IsMet Goal.Least held = ⊥
IsMet Goal.Any held = IsSomeAnd held (λ s. ⊤)
IsMet (Goal.AtMost most) held = IsSomeAnd held (λ s. s.cost ≤ℤ most)
