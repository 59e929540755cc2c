use Rattle.std.proofs.Common.{arith, subst, sym, length, ◌≤◌, ◌+◌}
use Rattle.pb_solve.proofs.DividingLaws.{Fit, joined_fit, makes_pieces}
use Rattle.pb_solve.proofs.prepare.division.join.Goals as goal

pub returns-clause-fault : goal.returns-clause-fault
returns-clause-fault c =
    let input_cubes = c.args.input_cubes.items in
    let file_cubes = c.args.file_cubes.items in
    let split_cubes = c.in_ok-split_cubes.split_cubes.items in
    let all = c.in_ok-append.field-0.items in
    let few : length input_cubes + length file_cubes + length split_cubes ≤ 1048575 = omega (arith, c.requires.few, c.in_ok-split_cubes.ensures.number, c.args.input_cubes.ok, c.args.file_cubes.ok, c.in_ok-split_cubes.split_cubes.ok) in
    let fit = joined_fit c.args.instance.now.vars input_cubes file_cubes split_cubes c.in_ok-given.given.items all c.in_ok-given.ensures c.in_ok-append.ensures c.requires.input_cubes c.requires.file_cubes c.in_ok-split_cubes.ensures.within few in
    makes_pieces c.new.result c.vars.result _ all c.new.ensures.too_many c.new.ensures.bad_variable c.new.ensures.no_other (omega (arith, c.in_ok-append.field-0.ok))
    (subst (λ n. Fit n all) (sym c.vars.ensures.value) fit)
