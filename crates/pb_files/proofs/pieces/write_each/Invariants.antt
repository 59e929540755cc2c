use Rattle.pb_files.specs.Writing.{WritesPieces}
use Rattle.pb_files.proofs.pieces.write_each.Given as goal

-- the pieces below this number are written
abbrev pub invariant-loop-number : goal.invariant-loop-number
invariant-loop-number g l = WritesPieces g.F.Folders.writes l.format l.folder l.prepared.instance l.prepared.pieces.cubes l.number l.initial.folders l.folders
