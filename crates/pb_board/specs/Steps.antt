-- What each atomic step changes in the view of the one seat that steps.
use Rattle.std.specs.Prelude.{◌≡◌, ℕ, ◌-◌, ◌+◌, ◌<◌, ◌≤◌, [], ◌∷◌, ◌++◌, All, min}
use Rattle.atomic_table.specs.Table.{Step, Me}
use Rattle.pb_inst.specs.declared.limits.TheConstants.{MAX_WORKERS}
use Rattle.pb_board.specs.declared.view.View.{View}

-- a seat's view, with the slots that it holds: a board's table has none
abbrev pub Held : Type 0
Held = Me (Unit {0}) View

-- the number found joins the seat's claims, and is above each of them
abbrev pub Claims : Step (Unit {0}) → Held → ℕ → Held → Type 0
Claims step old found new = (new ≡ (record old.0 { claimed = old.0.claimed ++ found ∷ [] }, old.1)) × All (λ n. n < found) old.0.claimed

-- the key joins the seat's offers
abbrev pub Offers : Step (Unit {0}) → Held → ℕ → Held → Type 0
Offers step old found new = new ≡ (record old.0 { offered = old.0.offered ++ step.first ∷ []; seen = min old.0.seen step.first }, old.1)

-- the word found is what the seat has seen, and is at most what it had seen or offered
abbrev pub Reads : Step (Unit {0}) → Held → ℕ → Held → Type 0
Reads step old found new = (new ≡ (record old.0 { seen = found }, old.1)) × (found ≤ old.0.seen) × All (λ k. found ≤ k) old.0.offered

-- nothing changes
abbrev pub Stays : Step (Unit {0}) → Held → ℕ → Held → Type 0
Stays step old found new = new ≡ old

-- nothing changes, and the seat has at most 64 parts
abbrev pub Counts : Step (Unit {0}) → Held → ℕ → Held → Type 0
Counts step old found new = (new ≡ old) × (old.0.parts ≤ MAX_WORKERS)

-- the seat that stays, with some of the parts
abbrev pub kept : ℕ → View → View
kept keep v = record v { parts = keep }

-- the new seat, with the other parts
abbrev pub given : ℕ → View → View
given keep v = record { parts = v.parts - keep; claimed = []; offered = []; seen = v.seen }

-- two seats made one
abbrev pub joined : View → View → View
joined v w = record { parts = v.parts + w.parts; claimed = v.claimed ++ w.claimed; offered = v.offered ++ w.offered; seen = min v.seen w.seen }
