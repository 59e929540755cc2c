-- What is remembered of the prefix on which the trail has the ones of the best assignment.
use Rattle.std.specs.Prelude.{◌≤◌, Bool, List, length, take, Option, None, Some}
use Rattle.pb_inst.specs.Literal.{Literal}
use Rattle.pb_inst.specs.Incumbent.{Solution}
use Rattle.pb_prune.specs.declared.agreed_prefix.AgreedPrefix.{AgreedPrefix}
use Rattle.pb_prune.specs.Subtree.{HasOnesWithin}

-- of the first `count` variables, each that the assignment makes true is true by the first `seen` literals of the trail
pub record KnowsPrefix (trail : List Literal) (a : List Bool) (o : AgreedPrefix) : Type 0 where
  pub seen : o.seen ≤ length trail
  pub count : o.count ≤ length a
  pub ones : HasOnesWithin (take o.seen trail) a 0 o.count

-- the same of the assignment that is held, if any
abbrev pub KnowsHeldPrefix : List Literal → Option Solution → AgreedPrefix → Type 0
KnowsHeldPrefix trail None o = Unit {0}
KnowsHeldPrefix trail (Some s) o = KnowsPrefix trail s.assignment o
