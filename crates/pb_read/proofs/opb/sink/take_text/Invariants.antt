use Rattle.std.proofs.Common.{◌≡◌, ◌++◌, ◌+◌, ◌≤◌, List, length, []}
use Rattle.std.specs.List.{flat_map}
use Rattle.pb_read.specs.Text.{Placed, numbered}
use Rattle.pb_read.specs.Opb as opb
use Rattle.pb_read.proofs.opb.sink.take_text.Given as goal

-- the tokens of the lines so far were taken, and those of the lines to come are left
abbrev pub invariant-loop-line : goal.invariant-loop-line
invariant-loop-line g l = record {
  counted : l.before + length l.line-iterator ≤ length l.fn.text;
  so_far : g.S.TokenSink.has_taken l.fn.sink [] → (seen : List (Placed opb.Token)) × (seen ++ flat_map opb.on_line (numbered (l.before + 1) l.line-iterator) ≡ opb.tokens l.fn.text) × g.S.TokenSink.has_taken l.sink seen;
}
