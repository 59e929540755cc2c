use Rattle.std.proofs.Common.{◌≡◌, ◌≤◌, length, subst, refl, arith, Some}
use Rattle.std.specs.Prelude.{slice_get}
use Rattle.std.proofs.lemmas.Option.{slice_get_read}
use Rattle.pb_inst.specs.Literal.{Literal}
use Rattle.pb_write.specs.Pieces.{negation}
use Rattle.pb_write.specs.Text.{clause_literal}
use Rattle.pb_write.specs.Written.{Adds}
use Rattle.pb_write.proofs.Counting.{all_mapped}
use Rattle.pb_write.proofs.Growing.{adds_mapped}
use Rattle.pb_write.proofs.Taken.{is_negation}
use Rattle.pb_write.proofs.clauses.put_negated_clause.Goals as goal

abbrev IsPositive : Literal → Type 0
IsPositive l = 1 ≤ l.var

pub loop-lit-preserved : goal.loop-lit-preserved
loop-lit-preserved g c =
    let read : slice_get c.args.lits.now c.loop-lit.lit-index ≡ Some c.lit-item.result = slice_get_read c.args.lits.now (length c.args.lits.now) c.loop-lit.lit-index c.lit-item.result refl (omega arith) c.lit-item.is in
    let same : c.negate.result ≡ negation c.lit-item.result = is_negation c.lit-item.result c.negate.result c.negate.ensures.same_variable c.negate.ensures.other_sign in
    record {
      written = adds_mapped _ (clause_literal c.args.format) negation _ _ _ _ _ _ read c.loop-lit.invariant.written
          (subst (λ l. Adds g.W.Write.contents c.loop-lit.out c.put_literal.new.out (clause_literal c.args.format l)) same c.in_ok-put_literal.ensures.written);
      variables = all_mapped IsPositive negation c.args.lits.now c.loop-lit.lit-index c.lit-item.result read c.loop-lit.invariant.variables (subst IsPositive same c.put_literal.ensures.variable);
    }
