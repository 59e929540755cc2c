use Rattle.std.proofs.Common.{◌≡◌, length}
use Rattle.pb_cubes.proofs.Cover.{lies_in_some}
use Rattle.pb_cubes.proofs.pieces.Pieces.len.Goals as goal

pub returns-clause-covers : goal.returns-clause-covers
returns-clause-covers c a =
    let e : c.len.result ≡ length c.self.inside.cubes.items = cc in rw (← c.self.view_is, e) (lies_in_some c.self.inside.cubes.items a)
