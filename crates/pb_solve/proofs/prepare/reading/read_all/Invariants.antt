use Rattle.std.proofs.Common.{◌≡◌, ◌-◌, ◌^◌, false, vec_len}
use Rattle.std.specs.Io.KnownBytes.{Consumes}
use Rattle.pb_solve.proofs.prepare.reading.read_all.Given as goal

-- what was read is what the device gave
abbrev pub invariant-reading : goal.invariant-reading
invariant-reading g l =
    (l.input.failed ≡ false) × Consumes (g.R.Read.remaining l.fn.input.held) (g.R.Read.remaining l.input.held) l.text.items

abbrev pub decreases-reading : goal.decreases-reading
decreases-reading g l = 2 ^ 64 - vec_len l.text
