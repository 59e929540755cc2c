use Rattle.std.proofs.Common.{◌≡◌, ◌≤◌, ◌++◌, [], ◌∷◌, length, sym, subst, refl, append-nil, arith, Some}
use Rattle.std.specs.Prelude.{slice_get, All}
use Rattle.std.proofs.lemmas.List.Elements.{All-nil, All-cons}
use Rattle.std.proofs.lemmas.Option.{slice_get_read}
use Rattle.pb_inst.specs.Literal.{Literal}
use Rattle.pb_write.specs.Text.{clause_literal, clause_end, clause_text}
use Rattle.pb_write.specs.Written.{Adds}
use Rattle.pb_write.proofs.Counting.{all_mapped}
use Rattle.pb_write.proofs.Growing.{adds_both, adds_mapped}
use Rattle.pb_write.proofs.clauses.put_unit_clauses.Goals as goal

abbrev IsPositive : Literal → Type 0
IsPositive l = 1 ≤ l.var

pub loop-lit-preserved : goal.loop-lit-preserved
loop-lit-preserved g c =
    let read : slice_get c.args.lits.now c.loop-lit.lit-index ≡ Some c.lit-item.result = slice_get_read c.args.lits.now (length c.args.lits.now) c.loop-lit.lit-index c.lit-item.result refl (omega arith) c.lit-item.is in
    let clause : Adds g.W.Write.contents c.loop-lit.out c.put_end.new.out (clause_text c.args.format (c.lit-item.result ∷ [])) =
    subst (λ bytes. Adds g.W.Write.contents c.loop-lit.out c.put_end.new.out (bytes ++ clause_end c.args.format)) (sym (append-nil (clause_literal c.args.format c.lit-item.result)))
    (adds_both _ _ _ _ _ _ c.in_ok-put_literal.ensures.written c.in_ok-put_end.ensures) in
    record {
      written = adds_mapped _ (clause_text c.args.format) (λ (l : Literal). l ∷ []) _ _ _ _ _ _ read c.loop-lit.invariant.written clause;
      variables = all_mapped (λ ls. All IsPositive ls) (λ (l : Literal). l ∷ []) c.args.lits.now c.loop-lit.lit-index c.lit-item.result read c.loop-lit.invariant.variables
          (All-cons IsPositive c.lit-item.result [] c.put_literal.ensures.variable (All-nil IsPositive));
    }
