use Rattle.std.proofs.Common.{◌≡◌, ◌∙◌, ◌+◌, ◌∷◌, [], List, ℕ, Some, refl, sym, subst}
use Rattle.std.specs.Prelude.{◌⊎◌}
use Rattle.std.proofs.lemmas.Result.{err_from_is_err_and}
use Rattle.pb_inst.specs.Literal.{Literal}
use Rattle.pb_inst.specs.declared.limits.TheConstants.{MAX_VARS}
use Rattle.pb_read.specs.declared.fault.ReadKind.TheVariants.{ClauseAfterCube}
use Rattle.pb_read.specs.Text.{Placed, items}
use Rattle.pb_read.specs.Refusal.{first_fault}
use Rattle.pb_read.specs.Reading.{IsMemory}
use Rattle.pb_read.specs.Cubes.{CubeLines, cube_faults}
use Rattle.pb_read.specs.ClauseReading.{CubesRead, content_from}
use Rattle.pb_read.proofs.ContentLines.{at, line_fails}
use Rattle.pb_read.proofs.dimacs.cube_lines.read_cube_lines.Goals as goal

pub returns-in_err-take_line-clause-err : goal.returns-in_err-take_line-clause-err
returns-in_err-take_line-clause-err c = λ all next.
    let p = err_from_is_err_and c.from_residual.result c.from_residual.ensures.1 in
    let e : all ≡ at c.in-Some.line.now c.in-Some.number ∷ content_from (c.args.lines.now.before + 1) c.args.lines.now.rest = rw c.in-Some.is at next in
    let limit : c.new-reader.result.scan.limit ≡ MAX_VARS = c.new-reader.ensures.limit in
    let r = c.new-reader.result in
    let none = subst (λ (m : ℕ). CubesRead m r.cubes.items r.literal_count []) limit c.new-reader.ensures.none in
    rw (p.1, p.2) (line_fails ClauseAfterCube MAX_VARS r.scan.limit limit [] all all (content_from (c.args.lines.now.before + 1) c.args.lines.now.rest) c.in-Some.line.now c.in-Some.number r.cubes.items r.literal_count none refl e c.in_err-take_line.field-0.0
    (c.in_err-take_line.ensures.err [] c.new-reader.ensures.none))

pub returns-in_err-take_rest-clause-err : goal.returns-in_err-take_rest-clause-err
returns-in_err-take_rest-clause-err c = λ all next.
    let p = err_from_is_err_and c.from_residual-in_err-take_rest.result c.from_residual-in_err-take_rest.ensures.1 in
    let e : all ≡ at c.in-Some.line.now c.in-Some.number ∷ content_from (c.args.lines.now.before + 1) c.args.lines.now.rest = rw c.in-Some.is at next in
    let limit : c.new-reader.result.scan.limit ≡ MAX_VARS = c.new-reader.ensures.limit in
    let f = c.in_err-take_rest.field-0.0 in
    let first = (c.in_ok-take_line.ensures.ok [] c.new-reader.ensures.none).0 in
    let fault = c.in_err-take_rest.ensures.err (at c.in-Some.line.now c.in-Some.number ∷ []) first in
    let here = subst (λ (m : ℕ). IsMemory f ⊎ (first_fault (cube_faults ClauseAfterCube m) [] (at c.in-Some.line.now c.in-Some.number ∷ (content_from (c.args.lines.now.before + 1) c.args.lines.now.rest)) ≡ Some f)) (c.take_line.ensures.same_limit ∙ limit) fault in
    rw (p.1, p.2) (subst (λ (ls : List (Placed (List ℕ))). IsMemory f ⊎ (first_fault (cube_faults ClauseAfterCube MAX_VARS) [] ls ≡ Some f)) (sym e) here)

pub returns-clause-ok : goal.returns-clause-ok
returns-clause-ok c = λ all next.
    let e : all ≡ at c.in-Some.line.now c.in-Some.number ∷ content_from (c.args.lines.now.before + 1) c.args.lines.now.rest = rw c.in-Some.is at next in
    let limit : c.new-reader.result.scan.limit ≡ MAX_VARS = c.new-reader.ensures.limit in
    let first = (c.in_ok-take_line.ensures.ok [] c.new-reader.ensures.none).0 in
    let read = (c.in_ok-take_rest.ensures.ok (at c.in-Some.line.now c.in-Some.number ∷ []) first).lines in
    let here = subst (λ (m : ℕ). CubeLines (items (at c.in-Some.line.now c.in-Some.number ∷ (content_from (c.args.lines.now.before + 1) c.args.lines.now.rest))) m c.take_rest.new.self.cubes.items) (c.take_line.ensures.same_limit ∙ limit) read in
    let cubes = subst (λ (ls : List (Placed (List ℕ))). CubeLines (items ls) MAX_VARS c.take_rest.new.self.cubes.items) (sym e) here in
    subst (λ (cs : List (List Literal)). CubeLines (items all) MAX_VARS cs) (sym c.into_cubes.ensures) cubes
