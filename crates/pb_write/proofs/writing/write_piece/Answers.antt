use Rattle.std.proofs.Common.{◌≡◌, OnOk, refl, subst}
use Rattle.pb_cubes.specs.Pieces.{AreWithin}
use Rattle.pb_write.specs.Pieces.{clauses_of, piece_clauses, with_clauses, KeepsCounts}
use Rattle.pb_write.specs.Written.{IsWritten}
use Rattle.pb_write.proofs.Faults.{other_than_counts}
use Rattle.pb_write.proofs.Taken.{same_clauses, clauses_within}
use Rattle.pb_write.proofs.writing.write_piece.Goals as goal

pub write_text-requires-clause-within : goal.write_text-requires-clause-within
write_text-requires-clause-within g c =
    clauses_within c.args.instance.now.vars c.args.pieces.now.cubes c.args.number c.piece-piece.result
    (subst (λ n. AreWithin n c.args.pieces.now.cubes) c.requires.same_variables c.piece-piece.ensures.within) c.piece-piece.ensures.piece

pub returns-clause-written : goal.returns-clause-written
returns-clause-written g c =
    let same : clauses_of c.piece-piece.result ≡ piece_clauses c.args.pieces.now.cubes c.args.number = same_clauses c.args.pieces.now.cubes c.args.number c.piece-piece.result c.piece-piece.ensures.piece in
    subst (λ clauses. OnOk c.write_text.result (IsWritten c.args.format (g.W.Write.contents c.args.out.now) (g.W.Write.contents c.write_text.new.out) (with_clauses c.args.instance.now clauses))) same
    c.write_text.ensures.written

pub returns-clause-too_many : goal.returns-clause-too_many
returns-clause-too_many g c =
    let same : clauses_of c.piece-piece.result ≡ piece_clauses c.args.pieces.now.cubes c.args.number = same_clauses c.args.pieces.now.cubes c.args.number c.piece-piece.result c.piece-piece.ensures.piece in
    (λ is. absurd (other_than_counts _ c.write_text.ensures.fault is), λ h. absurd (h.1 (subst (λ clauses. KeepsCounts (with_clauses c.args.instance.now clauses)) same (c.in-Some.ensures.kept.0 refl))))
