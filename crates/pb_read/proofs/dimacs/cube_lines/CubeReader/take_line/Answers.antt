use Rattle.std.proofs.Common.{◌≡◌, ◌∙◌, sym, refl, inr, true, subst, List, [], ℕ, Some, None, arith}
use Rattle.pb_read.specs.Clauses.{Word}
use Rattle.pb_read.specs.Refusal.{first_kind}
use Rattle.pb_read.specs.Cubes.{is_cube_line, cube_words, cube_faults}
use Rattle.pb_read.specs.ClauseReading.{Scanned, CubesRead}
use Rattle.pb_read.proofs.CubeReading.{same_first, one_more}
use Rattle.pb_read.proofs.dimacs.cube_lines.CubeReader.take_line.Goals as goal

pub returns-in-Some-fault-clause-err : goal.returns-in-Some-fault-clause-err
returns-in-Some-fault-clause-err c = λ earlier read.
    let isline : is_cube_line c.args.line.now ≡ true = c.in-Some.ensures.0 in
    let same : c.take_words.new.self.limit ≡ c.args.self.now.scan.limit = c.take_words.ensures.same_limit ∙ c.restart.ensures.same_limit in
    let here : CubesRead c.take_words.new.self.limit c.args.self.now.cubes.items c.args.self.now.literal_count earlier = subst (λ (m : ℕ). CubesRead m c.args.self.now.cubes.items c.args.self.now.literal_count earlier) (sym same) read in
    let h = subst (λ (ws : List Word). Scanned c.take_words.new.self.limit c.take_words.new.self.literals.items c.take_words.new.self.ended c.take_words.new.self.broken c.take_words.new.self.over ws)
    c.in-Some.ensures.1 (c.in-Ok.ensures.scanned [] c.restart.ensures.scanned) in
    let first = same_first c.args.other c.take_words.new.self.limit earlier c.args.line.now c.args.self.now.cubes.items c.args.self.now.literal_count here isline
    c.take_words.new.self.literals.items c.take_words.new.self.ended c.take_words.new.self.broken c.take_words.new.self.over h c.len-2.result c.saturating_add-total.result
    (c.len-2.ensures ∙ c.args.self.now.cubes.ok.0) (omega (arith, c.saturating_add-total.ensures, c.len.ensures ∙ c.take_words.new.self.literals.ok.0)) in
    inr (refl, subst (λ (m : ℕ). first_kind (cube_faults c.args.other m earlier c.args.line.now) ≡ Some c.in-Some-fault.kind) same (sym first ∙ sym (c.fault.ensures (cube_words c.args.line.now) h) ∙ c.in-Some-fault.is))

pub returns-clause-ok : goal.returns-clause-ok
returns-clause-ok c = λ earlier read.
    let isline : is_cube_line c.args.line.now ≡ true = c.in-Some.ensures.0 in
    let same : c.take_words.new.self.limit ≡ c.args.self.now.scan.limit = c.take_words.ensures.same_limit ∙ c.restart.ensures.same_limit in
    let here : CubesRead c.take_words.new.self.limit c.args.self.now.cubes.items c.args.self.now.literal_count earlier = subst (λ (m : ℕ). CubesRead m c.args.self.now.cubes.items c.args.self.now.literal_count earlier) (sym same) read in
    let h = subst (λ (ws : List Word). Scanned c.take_words.new.self.limit c.take_words.new.self.literals.items c.take_words.new.self.ended c.take_words.new.self.broken c.take_words.new.self.over ws)
    c.in-Some.ensures.1 (c.in-Ok.ensures.scanned [] c.restart.ensures.scanned) in
    let first = same_first c.args.other c.take_words.new.self.limit earlier c.args.line.now c.args.self.now.cubes.items c.args.self.now.literal_count here isline
    c.take_words.new.self.literals.items c.take_words.new.self.ended c.take_words.new.self.broken c.take_words.new.self.over h c.len-2.result c.saturating_add-total.result
    (c.len-2.ensures ∙ c.args.self.now.cubes.ok.0) (omega (arith, c.saturating_add-total.ensures, c.len.ensures ∙ c.take_words.new.self.literals.ok.0)) in
    let clear : first_kind (cube_faults c.args.other c.take_words.new.self.limit earlier c.args.line.now) ≡ None = sym first ∙ sym (c.fault.ensures (cube_words c.args.line.now) h) ∙ c.in_default-fault.is in
    let more = one_more c.args.other c.take_words.new.self.limit earlier c.args.line.now c.args.self.now.cubes.items c.args.self.now.literal_count here isline
    c.take_words.new.self.literals.items c.take_words.new.self.ended c.take_words.new.self.broken c.take_words.new.self.over h c.len-2.result c.saturating_add-total.result
    (c.len-2.ensures ∙ c.args.self.now.cubes.ok.0) (omega (arith, c.saturating_add-total.ensures, c.len.ensures ∙ c.take_words.new.self.literals.ok.0)) clear in
    (rw (c.push_reserved.ensures.items, c.in-Ok-reserve.ensures.items, c.in-Ok-new.ensures.made, c.deref.ensures.value) more, subst (λ (m : ℕ). first_kind (cube_faults c.args.other m earlier c.args.line.now) ≡ None) same clear)
