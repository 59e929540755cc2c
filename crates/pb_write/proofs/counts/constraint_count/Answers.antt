use Rattle.std.proofs.Common.{refl, arith}
use Rattle.std.proofs.lemmas.Bool.{false≢true}
use Rattle.pb_write.specs.Pieces.{clauses_of}
use Rattle.pb_write.proofs.Counting.{not_within, keeps_counts, too_many_terms}
use Rattle.pb_write.proofs.counts.constraint_count.Goals as goal

pub returns-then-not-has_room_for_terms-clause-kept : goal.returns-then-not-has_room_for_terms-clause-kept
returns-then-not-has_room_for_terms-clause-kept c =
    let over = not_within _ _ _ c.has_room_for_terms.ensures.1 c.if-not-has_room_for_terms.true in
    (λ none. absurd (false≢true none), λ kept. absurd (too_many_terms c.args.instance.now (clauses_of c.args.piece) (omega (arith, over, c.spare_terms.ensures)) kept))

pub returns-clause-kept : goal.returns-clause-kept
returns-clause-kept c =
    let room = c.has_room_for_terms.ensures.0 c.if-not-has_room_for_terms.false in
    (λ some. keeps_counts c.args.instance.now (clauses_of c.args.piece) (omega (arith, c.clause_count-clauses.ensures, c.len.ensures.value, c.if-clauses-len.false)) (omega (arith, room, c.spare_terms.ensures)), λ kept. refl)
