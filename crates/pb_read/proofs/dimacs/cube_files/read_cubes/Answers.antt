use Rattle.std.proofs.Common.{◌≡◌, ◌∙◌, ◌+◌, [], List, ℕ, Some, subst, sym, min}
use Rattle.std.specs.Prelude.{◌⊎◌}
use Rattle.std.proofs.lemmas.Result.{err_from_is_err_and}
use Rattle.pb_inst.specs.Literal.{Literal}
use Rattle.pb_inst.specs.declared.limits.TheConstants.{MAX_VARS}
use Rattle.pb_read.specs.declared.fault.ReadKind.TheVariants.{Syntax}
use Rattle.pb_read.specs.Text.{Placed, items}
use Rattle.pb_read.specs.Refusal.{first_fault}
use Rattle.pb_read.specs.Reading.{IsMemory}
use Rattle.pb_read.specs.ClauseReading.{content_from}
use Rattle.pb_read.specs.Cubes.{CubeLines, CubeText, cube_refusal, cube_faults}
use Rattle.pb_read.proofs.CubeLaws.{one, not_refused}
use Rattle.pb_read.proofs.FaultOnly.{only_memory}
use Rattle.pb_read.proofs.dimacs.cube_files.read_cubes.Goals as goal

pub returns-in_err-take_rest-clause-refused : goal.returns-in_err-take_rest-clause-refused
returns-in_err-take_rest-clause-refused c =
    let p = err_from_is_err_and c.from_residual.result c.from_residual.ensures.1 in
    let limit : c.new-reader.result.scan.limit ≡ min c.args.n MAX_VARS = c.new-reader.ensures.limit ∙ c.min.ensures in
    let fault = c.in_err-take_rest.ensures.err [] c.new-reader.ensures.none in
    let here = subst (λ (m : ℕ). IsMemory c.in_err-take_rest.field-0.0 ⊎ (first_fault (cube_faults Syntax m) [] (content_from (c.new-lines.result.before + 1) c.new-lines.result.rest) ≡ Some c.in_err-take_rest.field-0.0)) limit fault in
    rw (p.1, p.2) (subst (λ (ls : List (Placed (List ℕ))). IsMemory c.in_err-take_rest.field-0.0 ⊎ (first_fault (cube_faults Syntax (min c.args.n MAX_VARS)) [] ls ≡ Some c.in_err-take_rest.field-0.0)) c.new-lines.ensures.content here)

pub returns-in_err-take_rest-clause-only : goal.returns-in_err-take_rest-clause-only
returns-in_err-take_rest-clause-only c = λ cubes text.
    let p = err_from_is_err_and c.from_residual.result c.from_residual.ensures.1 in
    let refused = rw (p.1, p.2) at (returns-in_err-take_rest-clause-refused c) in
    rw (p.1, p.2) (only_memory (cube_refusal c.args.text.now c.args.n) c.in_err-take_rest.field-0.0 (not_refused c.args.text.now c.args.n cubes text) refused)

pub returns-clause-found : goal.returns-clause-found
returns-clause-found c =
    let limit : c.new-reader.result.scan.limit ≡ min c.args.n MAX_VARS = c.new-reader.ensures.limit ∙ c.min.ensures in
    let read = (c.in_ok-take_rest.ensures.ok [] c.new-reader.ensures.none).lines in
    let here = subst (λ (m : ℕ). CubeLines (items (content_from (c.new-lines.result.before + 1) c.new-lines.result.rest)) m c.take_rest.new.self.cubes.items) limit read in
    let cubes = subst (λ (ls : List (Placed (List ℕ))). CubeLines (items ls) (min c.args.n MAX_VARS) c.take_rest.new.self.cubes.items) c.new-lines.ensures.content here in
    subst (CubeText c.args.text.now c.args.n) (sym c.into_cubes.ensures) cubes

pub returns-clause-only : goal.returns-clause-only
returns-clause-only c = λ cubes text. one c.args.text.now c.args.n c.into_cubes.result.items cubes (returns-clause-found c) text
