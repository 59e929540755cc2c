-- What is kept at one of two widths.
use Rattle.std.specs.Borrow.{Bor}
use Rattle.pb_normal.specs.declared.widths.Width.{Width}
use Rattle.pb_normal.specs.declared.widths.Width.TheVariants.{Narrow, Wide}

-- the value, of whichever width
abbrev pub either : {X : Type 0} → Width X X → X
either (Narrow x) = x
either (Wide x) = x

-- what is lent, of whichever width
abbrev pub lent : {X : Type 0} → Width (Bor X) (Bor X) → X
lent (Narrow x) = x.now
lent (Wide x) = x.now
