use Rattle.std.proofs.lemmas.Result.{err_from_is_err_and}
use Rattle.pb_files.proofs.Within.{joined_within}
use Rattle.pb_files.proofs.dividing.prepare.Goals as goal

pub returns-in_err-instance-clause-refused : goal.returns-in_err-instance-clause-refused
returns-in_err-instance-clause-refused g c =
    let p = err_from_is_err_and c.from_residual.result c.from_residual.ensures.1 in
    rw (p.1, p.2) (c.in_err-instance.ensures.refused c.args.split)

pub pieces_of-requires : goal.pieces_of-requires
pieces_of-requires g c =
    joined_within c.in_ok-instance.field-0.instance.vars c.in_ok-instance.field-0.instance.vars c.vars.result c.in_ok-instance.field-0.cubes.items c.in_ok-of_split.of_split.items c.append.new.self.items
    c.in_ok-append.ensures.items c.in_ok-instance.ensures.within c.in_ok-of_split.ensures.within c.vars.ensures.value c.vars.ensures.value
