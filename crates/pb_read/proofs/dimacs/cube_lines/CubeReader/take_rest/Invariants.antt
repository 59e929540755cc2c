use Rattle.std.proofs.Common.{◌≡◌, ◌<◌, ◌+◌, ◌^◌, ◌++◌, List, ℕ, length}
use Rattle.pb_read.specs.Text.{Placed, items}
use Rattle.pb_read.specs.ClauseReading.{CubesRead, content_from}
use Rattle.pb_read.proofs.dimacs.cube_lines.CubeReader.take_rest.Given as goal

-- the lines so far were read, and the others are left
abbrev pub invariant-loop-line : goal.invariant-loop-line
invariant-loop-line l = record {
  counted : l.lines.before + length l.lines.rest < 2 ^ 64;
  same_limit : l.self.scan.limit ≡ l.fn.self.scan.limit;
  so_far : (earlier : List (Placed (List ℕ))) → CubesRead l.fn.self.scan.limit l.fn.self.cubes.items l.fn.self.literal_count (items earlier)
      → (seen : List (Placed (List ℕ))) × (seen ++ content_from (l.lines.before + 1) l.lines.rest ≡ earlier ++ content_from (l.fn.lines.before + 1) l.fn.lines.rest)
      × CubesRead l.fn.self.scan.limit l.self.cubes.items l.self.literal_count (items seen);
}

abbrev pub decreases-loop-line : goal.decreases-loop-line
decreases-loop-line l = length (content_from (l.lines.before + 1) l.lines.rest)
