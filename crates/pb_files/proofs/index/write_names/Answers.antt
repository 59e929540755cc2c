use Rattle.std.proofs.Common.{◌≡◌, ℕ, ◌+◌, List, ◌++◌, Option, add-one, codes, subst}
use Rattle.std.specs.Io.KnownBytes.{Appends}
use Rattle.std.proofs.KnownBytes.{Appends-trans}
use Rattle.pb_read.specs.declared.format.Format.{Format}
use Rattle.pb_files.specs.Names.{piece_name}
use Rattle.pb_files.specs.Writing.{name_lines}
use Rattle.pb_files.proofs.index.write_names.Goals as goal

-- one more name
name_lines-more : (format : Format) (last i : ℕ) (name : List ℕ) (old mid new : Option (List ℕ)) → Appends old mid (name_lines format last i) → name ≡ piece_name format i last → Appends mid new (name ++ codes "\n")
    → Appends old new (name_lines format last (i + 1))
name_lines-more format last i name old mid new earlier is added =
    rw add-one (Appends-trans old mid new (name_lines format last i) (piece_name format i last ++ codes "\n") earlier (subst (λ (n : List ℕ). Appends mid new (n ++ codes "\n")) is added))

pub loop-number-preserved : goal.loop-number-preserved
loop-number-preserved g c = name_lines-more c.args.format c.saturating_sub-last.result c.loop-number.number _ (g.W.Write.contents c.args.out.now) (g.W.Write.contents c.loop-number.out) (g.W.Write.contents c.writeln.new.self) c.loop-number.invariant c.in_ok-name.ensures c.in_ok-writeln.ensures.bytes
