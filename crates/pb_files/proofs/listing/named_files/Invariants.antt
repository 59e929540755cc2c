use Rattle.std.proofs.Common.{map, take}
use Rattle.pb_files.specs.Reading.{ListsFiles}
use Rattle.pb_files.specs.Texts.{texts}
use Rattle.pb_files.proofs.listing.named_files.Given as goal

-- the names are those of the operands so far
abbrev pub invariant-loop-operand : goal.invariant-loop-operand
invariant-loop-operand g l = ListsFiles g.F.Files.lists (map (λ name. name.now) (take l.operand-index l.operands)) (texts l.reports) (texts l.indexes) l.initial.files l.files
