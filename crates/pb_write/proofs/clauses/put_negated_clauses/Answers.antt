use Rattle.std.proofs.Common.{◌≡◌, ◌≤◌, List, length, subst, refl, arith, Some}
use Rattle.std.specs.Prelude.{slice_get, All}
use Rattle.std.proofs.lemmas.Option.{slice_get_read}
use Rattle.pb_inst.specs.Literal.{Literal}
use Rattle.pb_write.specs.Pieces.{negated_clause}
use Rattle.pb_write.specs.Text.{clause_text}
use Rattle.pb_write.specs.Written.{Adds}
use Rattle.pb_write.proofs.Counting.{all_mapped}
use Rattle.pb_write.proofs.Growing.{adds_mapped}
use Rattle.pb_write.proofs.clauses.put_negated_clauses.Goals as goal

abbrev ArePositive : List Literal → Type 0
ArePositive lits = All (λ (l : Literal). 1 ≤ l.var) lits

pub loop-cube-preserved : goal.loop-cube-preserved
loop-cube-preserved g c =
    let read : slice_get c.args.cubes.now c.loop-cube.cube-index ≡ Some c.cube-item.result = slice_get_read c.args.cubes.now (length c.args.cubes.now) c.loop-cube.cube-index c.cube-item.result refl (omega arith) c.cube-item.is in
    record {
      written = adds_mapped _ (clause_text c.args.format) negated_clause _ _ _ _ _ _ read c.loop-cube.invariant.written
          (subst (λ lits. Adds g.W.Write.contents c.loop-cube.out c.put_negated_clause.new.out (clause_text c.args.format (negated_clause lits))) c.lits.ensures c.in_ok-put_negated_clause.ensures.written);
      variables = all_mapped ArePositive negated_clause c.args.cubes.now c.loop-cube.cube-index c.cube-item.result read c.loop-cube.invariant.variables
          (subst (λ lits. ArePositive (negated_clause lits)) c.lits.ensures c.in_ok-put_negated_clause.ensures.variables);
    }
