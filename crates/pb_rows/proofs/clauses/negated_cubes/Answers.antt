use Rattle.std.proofs.Common.{◌++◌, ◌∷◌, [], List, map, sym, subst, ap, ◌∙◌, ◌+◌, take}
use Rattle.pb_inst.specs.Literal.{Literal}
use Rattle.pb_rows.specs.Clauses.{AreClausesOf, IsClauseOf, IsContradictory, clause_row}
use Rattle.pb_rows.proofs.NegatedLemmas.{clauses_none, clauses_skip, clauses_push}
use Rattle.pb_rows.proofs.clauses.negated_cubes.Goals as goal
use Rattle.pb_rows.proofs.clauses.negated_cubes.Goals.{in-Some+in_ok-push, in_default}

pub loop-cube-init : goal.loop-cube-init
loop-cube-init c = clauses_none c.new-clauses.result c.new-clauses.ensures

pub loop-cube-preserved : goal.loop-cube-preserved
loop-cube-preserved c =
    let P : List (List Literal) → Type 0 = λ ls. AreClausesOf (take (c.loop-cube.cube-index + 1) c.args.cubes.now) (map clause_row ls) in
    let cube = c.cube-item.result in
    elim c.match-branch-2.branch [
      | in-Some+in_ok-push w ↦
          (let clause = w.in-Some.clause in
          let is : IsClauseOf cube (clause_row clause.items) = subst (λ (ls : List Literal). IsClauseOf ls (clause_row clause.items)) c.lits.ensures (c.in_ok-clause.ensures.some clause w.in-Some.is) in
          let added = w.in_ok-push.ensures.added ∙ ap (λ (ls : List Literal). c.loop-cube.clauses ++ ls ∷ []) w.deref.ensures.value in
          subst P (sym w.clauses-is) (clauses_push c.args.cubes.now c.loop-cube.clauses w.push.new.self c.loop-cube.cube-index cube clause.items c.loop-cube.invariant c.loop-cube-test.true c.cube-item.is is added))
      | in_default w ↦
          (let both : IsContradictory cube = subst (λ (ls : List Literal). IsContradictory ls) c.lits.ensures (c.in_ok-clause.ensures.none w.in_default.is) in
          subst P (sym w.clauses-is) (clauses_skip c.args.cubes.now (map clause_row c.loop-cube.clauses) c.loop-cube.cube-index cube c.loop-cube.invariant c.loop-cube-test.true c.cube-item.is both))
    ]
