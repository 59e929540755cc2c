use Rattle.std.proofs.Common.{◌-◌, ℕ, List, codes, decimal, subst}
use Rattle.std.specs.Io.KnownBytes.{Appends}
use Rattle.std.proofs.KnownBytes.{Appends-trans}
use Rattle.std.proofs.lemmas.Result.{on_ok_weaker}
use Rattle.pb_files.specs.Names.{written_name}
use Rattle.pb_files.specs.Writing.{name_lines, told_line}
use Rattle.pb_files.proofs.index.write_index.Goals as goal

pub returns : goal.returns
returns g c =
    let index = c.args.index.now in
    let start = g.W.Write.contents c.args.out.now in
    let one = g.W.Write.contents c.writeln.new.self in
    let two = g.W.Write.contents c.writeln-2.new.self in
    let three = g.W.Write.contents c.writeln-3.new.self in
    let four = g.W.Write.contents c.writeln-4.new.self in
    let end = g.W.Write.contents c.write_names.new.out in
    let format = written_name index.format in
    let pieces_line : Appends start one (told_line (codes "pieces") (decimal index.pieces)) = c.in_ok-writeln.ensures.bytes in
    let format_line : Appends one two (told_line (codes "format") format) = subst (λ (name : List ℕ). Appends one two (told_line (codes "format") name)) c.name_of.ensures c.in_ok-writeln-2.ensures.bytes in
    let variables_line : Appends two three (told_line (codes "variables") (decimal index.vars)) = c.in_ok-writeln-3.ensures.bytes in
    let digest_line : Appends three four (told_line (codes "sha256") index.digest.now) = c.in_ok-writeln-4.ensures.bytes in
    let names = name_lines index.format (index.pieces - 1) index.pieces in
    on_ok_weaker c.write_names.result (λ written.
    Appends-trans start four end _ names (Appends-trans start three four _ _ (Appends-trans start two three _ _ (Appends-trans start one two _ _ pieces_line format_line) variables_line) digest_line) written) c.write_names.ensures
